-- Reading the entries by their places in the bytes is reading them as `history` defines it.
-- Assumes nothing.
use Prim.Native.Nat.{ℕ, zero, suc, ◌+◌, ◌-◌, ◌≤◌, ◌<◌}
use native.Mathlib.Omega.{arith}
use native.Mathlib.Nat.{add-zero, add-suc, le_refl}
use native.Mathlib.Numerals.{add-one}
use mathlib.Core.Path.{◌≡◌, refl, ap, ◌∙◌}
use mathlib.Core.Bool.{Bool, true, false, not, ◌&&◌, ◌||◌}
use mathlib.Core.List.{List, [], ◌∷◌, ◌++◌}
use lib.Dec.{eqb, leb}
use lib.ListN.{length, get_or, take, drop, length-drop, length-append}
use lib.Seq.{drop-drop, get_or-drop}
use borrow.Author.Tests.{le-leb, lt-leb, leb-true, leb-false, eq-eqb, ne_eqb, eqb-true, eqb-false}
use Rattle.history.specs.Verdict.{Verdict, done, then, refusal, refusal_at, ◌unless◌⨾◌}
use Rattle.elements.specs.Elements.{carried}
use Rattle.history.specs.Table.{Object, ObjectEntry, object_at, label_limit, label_good, same_object, repeats}
use Rattle.history.specs.Table.{check_object, read_objects}
use Rattle.heads.proofs.Places.{objects_place_lem}
use Rattle.tables.specs.Places.{place_of, check_object_at}
use Rattle.tables.proofs.AnswerLaws.{then_same}
use Rattle.tables.proofs.EntryLaws.{good_entry}

-- object k, read at its place; the objects below k, in table order
abbrev pub object_of : List ℕ → ℕ → Object
object_of b k =
    record {
      type = get_or b (place_of b k) 0;
      label = take (get_or b (place_of b k + 1) 0) (drop (place_of b k + 2) b);
    }

abbrev pub objects_below : List ℕ → ℕ → List Object
objects_below b zero = []
objects_below b (suc k) = objects_below b k ++ (object_of b k ∷ [])

-- has one of the objects below j the type and label of object k?
abbrev pub repeats_below : List ℕ → ℕ → ℕ → Bool
repeats_below b k zero = false
repeats_below b k (suc j) = same_object (object_of b j) (object_of b k) || repeats_below b k j

-- the check of the n entries that are left, of which object k's is next
unfoldable pub entries_check : List ℕ → ℕ → ℕ → Verdict (List Object)
entries_check b zero k = refusal 8 unless eqb (place_of b k) (length b) ⨾ done (objects_below b k)
entries_check b (suc n) k =
    then (check_object_at b (place_of b k) k) λ next.
    refusal_at 7 k unless not (repeats_below b k k) ⨾
    entries_check b n (suc k)

pub length_below : (b : List ℕ) (k : ℕ) → length (objects_below b k) ≡ k
length_below b zero = refl
length_below b (suc k) = length-append (objects_below b k) (object_of b k ∷ []) ∙ omega (arith, length_below b k)

-- ---- places

place_suc : (b : List ℕ) (k : ℕ) → place_of b (suc k) ≡ place_of b k + (2 + get_or b (place_of b k + 1) 0)
unfolding place_of
place_suc b k = refl

place_more : (b : List ℕ) (j n : ℕ) → place_of b j ≤ place_of b (j + n)
place_more b j zero = rw add-zero (le_refl _)
place_more b j (suc n) = rw add-suc (omega (arith, place_more b j n, place_suc b (j + n)))

place_le : (b : List ℕ) (j k : ℕ) → j ≤ k → place_of b j ≤ place_of b k
place_le b j k h = let e : j + (k - j) ≡ k = omega arith in rw e at (place_more b j (k - j))

pub place_behind : (b : List ℕ) (k at : ℕ) → at ≡ place_of b k → 2 ≤ at
unfolding place_of
place_behind b k at e = omega (arith, objects_place_lem, place_le b 0 k (omega arith))

-- the next place, from the entry's size as the code finds it
pub place_next : (b : List ℕ) (k at size : ℕ) → at ≡ place_of b k → size ≡ 2 + get_or b (at + 1) 0
    → at + size ≡ place_of b (k + 1)
place_next b k at size e e' = rw (e', e, add-one k, place_suc)

-- an earlier entry ends before a later one begins
pub place_before : (b : List ℕ) (j k was at size : ℕ) → j < k → was ≡ place_of b j → at ≡ place_of b k
    → size ≡ 2 + get_or b (was + 1) 0 → was + size ≤ at
place_before b j k was at size h ej ek e =
    omega (arith, place_next b j was size ej e, place_le b (j + 1) k (omega arith))

-- ---- tests on what is left are tests on the whole

leb_drop : (n p : ℕ) (b : List ℕ) → p ≤ length b → leb n (length (drop p b)) ≡ leb (p + n) (length b)
leb_drop n p b h = go (leb (p + n) (length b)) refl
  where
    go : (u : Bool) → leb (p + n) (length b) ≡ u → leb n (length (drop p b)) ≡ u
    go true e =
        let l : p + n ≤ length b = leb-true _ _ e in le-leb n (length (drop p b)) (simp length-drop (omega arith))
    go false e =
        let l : length b < p + n = leb-false _ _ e in lt-leb n (length (drop p b)) (simp length-drop (omega arith))

eqb_drop : (p : ℕ) (b : List ℕ) → p ≤ length b → eqb (length (drop p b)) 0 ≡ eqb p (length b)
eqb_drop p b h = go (eqb p (length b)) refl
  where
    go : (u : Bool) → eqb p (length b) ≡ u → eqb (length (drop p b)) 0 ≡ u
    go true e = let l : p ≡ length b = eqb-true _ _ e in eq-eqb (length (drop p b)) 0 (simp length-drop (omega arith))
    go false e = ne_eqb (length (drop p b)) 0 (λ z. eqb-false p (length b) e (let s = length-drop p b in omega arith))

-- ---- repeats, from the last earlier object down

or_swap : (u v w : Bool) → (u || (v || w)) ≡ (v || (u || w))
or_swap true true w = refl
or_swap true false w = refl
or_swap false v w = refl

repeats_snoc : (o p : Object) (os : List Object) → repeats o (os ++ (p ∷ [])) ≡ (same_object p o || repeats o os)
repeats_snoc o p [] = refl
repeats_snoc o p (q ∷ os) =
    ap (λ (u : Bool). same_object q o || u) (repeats_snoc o p os)
    ∙ or_swap (same_object q o) (same_object p o) (repeats o os)

repeats_below_lem : (b : List ℕ) (k j : ℕ) → repeats (object_of b k) (objects_below b j) ≡ repeats_below b k j
repeats_below_lem b k zero = refl
repeats_below_lem b k (suc j) =
    repeats_snoc (object_of b k) (object_of b j) (objects_below b j)
    ∙ ap (λ (u : Bool). same_object (object_of b j) (object_of b k) || u) (repeats_below_lem b k j)

-- ---- one entry, on what is left and on the whole

entry_here : (b : List ℕ) (k : ℕ)
    → object_at (drop (place_of b k) b)
    ≡ record { object = object_of b k; size = get_or b (place_of b k + 1) 0; rest = drop (place_of b (suc k)) b }
unfolding place_of
entry_here b k =
    let p : ℕ = place_of b k in
    let zeroth : get_or (drop p b) 0 0 ≡ get_or b p 0 =
    get_or-drop p b 0 0 ∙ ap (λ (m : ℕ). get_or b m 0) (omega arith) in
    let first : get_or (drop p b) 1 0 ≡ get_or b (p + 1) 0 = get_or-drop p b 1 0 in
    let after : drop 2 (drop p b) ≡ drop (p + 2) b = drop-drop 2 p b in
    let end : p + 2 + get_or b (p + 1) 0 ≡ p + (2 + get_or b (p + 1) 0) = omega arith in
    let rest : drop (get_or b (p + 1) 0) (drop (p + 2) b) ≡ drop (p + (2 + get_or b (p + 1) 0)) b =
    drop-drop (get_or b (p + 1) 0) (p + 2) b ∙ ap (λ (m : ℕ). drop m b) end in
    rw (zeroth, first, after, rest)

-- six tests are five, and then the sixth: that of 7
split : (t₁ t₂ t₃ t₄ t₅ t₆ : Bool) (k : ℕ) (e : ObjectEntry) (n : ℕ) (f : ObjectEntry → Verdict (List Object))
    → then (refusal 8 unless t₁ ⨾ refusal_at 5 k unless t₂ ⨾ refusal_at 6 k unless t₃ ⨾ refusal 8 unless t₄ ⨾
    refusal_at 6 k unless t₅ ⨾ refusal_at 7 k unless t₆ ⨾ done e) f
    ≡ then (refusal 8 unless t₁ ⨾ refusal_at 5 k unless t₂ ⨾ refusal_at 6 k unless t₃ ⨾ refusal 8 unless t₄ ⨾
    refusal_at 6 k unless t₅ ⨾ done n)
    (λ m. refusal_at 7 k unless t₆ ⨾ f e)
split false t₂ t₃ t₄ t₅ t₆ k e n f = refl
split true false t₃ t₄ t₅ t₆ k e n f = refl
split true true false t₄ t₅ t₆ k e n f = refl
split true true true false t₅ t₆ k e n f = refl
split true true true true false t₆ k e n f = refl
split true true true true true false k e n f = refl
split true true true true true true k e n f = refl

module _ (b : List ℕ) where
  abbrev version : ℕ
  version = get_or b 4 0

  abbrev catalogue : ℕ
  catalogue = get_or b 5 0

  abbrev here : ℕ → ObjectEntry
  here k = record { object = object_of b k; size = get_or b (place_of b k + 1) 0; rest = drop (place_of b (suc k)) b }

  entry_checked : (k : ℕ) → place_of b k ≤ length b → (f : ObjectEntry → Verdict (List Object))
      → then (check_object version catalogue (objects_below b k) (drop (place_of b k) b)
      (object_at (drop (place_of b k) b))) f
      ≡ then (check_object_at b (place_of b k) k) (λ next. refusal_at 7 k unless not (repeats_below b k k) ⨾ f (here k))
  unfolding check_object check_object_at
  entry_checked k inside f =
      let c : List ℕ = drop (place_of b k) b in
      let n : ℕ = get_or b (place_of b k + 1) 0 in
      ap (λ (e : ObjectEntry). then (check_object version catalogue (objects_below b k) c e) f) (entry_here b k)
      ∙ split (leb 2 (length c)) (carried catalogue (get_or b (place_of b k) 0))
      (leb 1 n && leb n (label_limit version))
      (leb (2 + n) (length c)) (label_good (object_of b k).label) (not (repeats (object_of b k) (objects_below b k)))
      (length (objects_below b k)) (here k) (place_of b k + (2 + n)) f
      ∙ rw (
        leb_drop 2 (place_of b k) b inside,
        leb_drop (2 + n) (place_of b k) b inside,
        length_below b k,
        repeats_below_lem b k k,
      )

  -- the n entries that are left, from object k's place
  pub entries_read : (n k : ℕ) → place_of b k ≤ length b
      → read_objects version catalogue (objects_below b k) n (drop (place_of b k) b) ≡ entries_check b n k
  unfolding entries_check
  entries_read zero k h = ap (λ (t : Bool). refusal 8 unless t ⨾ done (objects_below b k)) (eqb_drop (place_of b k) b h)
  entries_read (suc n) k h =
      entry_checked k h (λ e. read_objects version catalogue (objects_below b k ++ (e.object ∷ [])) n e.rest)
      ∙ then_same (check_object_at b (place_of b k) k) _ _ (λ next e.
      ap (λ (v : Verdict (List Object)). refusal_at 7 k unless not (repeats_below b k k) ⨾ v)
      (entries_read n (suc k) (rw (place_suc b k) (good_entry b (place_of b k) k e).all)))

-- Two entries have the same object exactly where their types, their lengths and each byte of their labels agree; and
-- what the search among the earlier ones finds.
-- Assumes nothing.
use Prim.Native.Nat.{ℕ, zero, suc, ◌+◌, ◌-◌, ◌≤◌, ◌<◌}
use native.Mathlib.Omega.{arith}
use native.Mathlib.Nat.{add-zero, add-suc, eq-or-lt_of_le}
use mathlib.Core.Path.{◌≡◌, refl, sym, ap, ◌∙◌}
use mathlib.Core.Bool.{Bool, true, false, not-eq-not, or-true}
use mathlib.Core.List.{List}
use mathlib.Core.Logic.{⊎_elim}
use lib.ListN.{length, get_or, take, drop, length-drop}
use lib.Seq.{ext_get_or, get_or-take, get_or-drop, length-take-le}
use Rattle.history.specs.Table.{Object, same_object}
use Rattle.history.proofs.TableLaws.{object_refl, object_eq}
use Rattle.tables.specs.Places.{place_of}
use Rattle.tables.proofs.PlaceLaws.{object_of, repeats_below}

-- ---- the search

abbrev pub same : List ℕ → ℕ → ℕ → Bool
same b j k = same_object (object_of b j) (object_of b k)

pub repeats_none : (b : List ℕ) (k n : ℕ) → ((j : ℕ) → j < n → same b j k ≡ false) → repeats_below b k n ≡ false
repeats_none b k zero f = refl
repeats_none b k (suc n) f = rw (f n (omega arith)) (repeats_none b k n (λ j l. f j (omega arith)))

repeats_more : (b : List ℕ) (k j n : ℕ) → repeats_below b k j ≡ true → repeats_below b k (j + n) ≡ true
repeats_more b k j zero h = rw add-zero h
repeats_more b k j (suc n) h = rw (add-suc, repeats_more b k j n h, or-true)

pub repeats_yes : (b : List ℕ) (k j : ℕ) → j < k → same b j k ≡ true → repeats_below b k k ≡ true
repeats_yes b k j h e =
    let f : suc j + (k - suc j) ≡ k = omega arith in
    let g : repeats_below b k (suc j) ≡ true = rw e in
    ap (repeats_below b k) (sym f) ∙ repeats_more b k (suc j) (k - suc j) g

-- ---- two labels

pub part_length : (b : List ℕ) (a n : ℕ) → a + n ≤ length b → length (take n (drop a b)) ≡ n
part_length b a n h = length-take-le n (drop a b) (simp length-drop (omega arith))

part_at : (b : List ℕ) (a n i : ℕ) → i < n → get_or (take n (drop a b)) i 0 ≡ get_or b (a + i) 0
part_at b a n i h = rw (get_or-take, get_or-drop)

-- the entries at p and at q have the same bytes after byte i and before byte n
pub record Agree (b : List ℕ) (p q i n : ℕ) : Type 0 where
  pub each : (x : ℕ) → i < x → x < n → get_or b (p + x) 0 ≡ get_or b (q + x) 0

pub agree_none : {b : List ℕ} {p q i n : ℕ} → n ≤ i + 1 → Agree b p q i n
agree_none h = record { each = λ x l m. absurd (omega arith) }

pub agree_more : {b : List ℕ} {p q i n : ℕ} → Agree b p q i n → get_or b (p + i) 0 ≡ get_or b (q + i) 0
    → Agree b p q (i - 1) n
agree_more a e =
    record { each = λ x l m. ⊎_elim (λ s. rw (← s) e) (λ lt. a.each x lt m) (eq-or-lt_of_le (omega arith)) }

-- a label of n bytes follows its entry's first two
module _ (b : List ℕ) (p q n : ℕ) where
  label_same : p + 2 + n ≤ length b → q + 2 + n ≤ length b → (i : ℕ) → i ≤ 1 → Agree b p q i (2 + n)
      → take n (drop (p + 2) b) ≡ take n (drop (q + 2) b)
  label_same hp hq i low a =
      ext_get_or 0 _ _ (part_length b (p + 2) n hp ∙ sym (part_length b (q + 2) n hq))
      (λ x hx.
      let lt : x < n = omega (arith, part_length b (p + 2) n hp) in
      let e₁ : p + 2 + x ≡ p + (2 + x) = omega arith in
      let e₂ : q + 2 + x ≡ q + (2 + x) = omega arith in
      part_at b (p + 2) n x lt ∙ rw (e₁, e₂) (a.each (2 + x) (omega arith) (omega arith))
      ∙ sym (part_at b (q + 2) n x lt))

  label_byte : take n (drop (p + 2) b) ≡ take n (drop (q + 2) b) → (x : ℕ) → 1 < x → x < 2 + n
      → get_or b (p + x) 0 ≡ get_or b (q + x) 0
  label_byte l x low h =
      let e₁ : p + x ≡ p + 2 + (x - 2) = omega arith in
      let e₂ : q + x ≡ q + 2 + (x - 2) = omega arith in
      rw (e₁, e₂) (sym (part_at b (p + 2) n (x - 2) (omega arith)) ∙ ap (λ (z : List ℕ). get_or z (x - 2) 0) l
      ∙ part_at b (q + 2) n (x - 2) (omega arith))

-- ---- two entries

-- entries j and k begin at `was` and `at`, and end inside
pub record Both (b : List ℕ) (j k was at : ℕ) : Type 0 where
  pub first : was ≡ place_of b j
  pub second : at ≡ place_of b k
  pub first_fits : was + (2 + get_or b (was + 1) 0) ≤ length b
  pub second_fits : at + (2 + get_or b (at + 1) 0) ≤ length b

module _ {b : List ℕ} {j k was at : ℕ} (p : Both b j k was at) where
  pub same_yes : get_or b (was + 1) 0 ≡ get_or b (at + 1) 0 → get_or b was 0 ≡ get_or b at 0 → (i : ℕ) → i ≤ 1
      → Agree b was at i (2 + get_or b (at + 1) 0) → same b j k ≡ true
  same_yes n t i low a =
      let l =
      label_same b was at (get_or b (at + 1) 0) (omega (arith, p.first_fits))
      (omega (arith, p.second_fits)) i low a in
      rw (← p.first, ← p.second, n, t, l)
      (object_refl (record { type = get_or b at 0; label = take (get_or b (at + 1) 0) (drop (at + 2) b) }))

  -- what two entries with the same object have in common
  pub record Common : Type 0 where
    pub size : get_or b (was + 1) 0 ≡ get_or b (at + 1) 0
    pub type : get_or b was 0 ≡ get_or b at 0
    pub byte : (x : ℕ) → 1 < x → x < 2 + get_or b (at + 1) 0 → get_or b (was + x) 0 ≡ get_or b (at + x) 0

  common : same b j k ≡ true → Common
  common e =
      let o = rw (← p.first, ← p.second) at (object_eq (object_of b j) (object_of b k) e) in
      let l = ap (λ (o : Object). o.label) o in
      let n : get_or b (was + 1) 0 ≡ get_or b (at + 1) 0 =
      sym (part_length b (was + 2) (get_or b (was + 1) 0) (omega (arith, p.first_fits))) ∙ ap length l
      ∙ part_length b (at + 2) (get_or b (at + 1) 0) (omega (arith, p.second_fits)) in
      record {
        size = n;
        type = ap (λ (o : Object). o.type) o;
        byte = label_byte b was at (get_or b (at + 1) 0) (rw n at l);
      }

  pub same_no : (Common → ⊥) → same b j k ≡ false
  same_no d = (not-eq-not {b = false}).0 (λ e. d (common e))

-- What the functions for one object return: an entry or an element read at a cursor, and the step made of them.
-- Assumes nothing.
use Prim.Native.Nat.{ℕ, ◌+◌, ◌-◌, ◌≤◌, ◌<◌}
use native.Mathlib.Omega.{arith}
use mathlib.Core.Path.{◌≡◌, refl, sym, ap, ◌∙◌}
use mathlib.Core.Bool.{Bool, true, false, cond, not, ◌&&◌}
use mathlib.Core.List.{List, [], ◌∷◌, ◌++◌, append_assoc}
use lib.Dec.{eqb, leb}
use lib.ListN.{length, take, drop, length-drop}
use lib.Seq.{drop-drop}
use borrow.Author.Tests.{ne_eqb, le-leb, lt-leb, leb-true}
use borrow.Rule.Slice.PartMut.{put_mid, mid_of}
use Rattle.octets.specs.Octets.{bytes, number}
use Rattle.octets.proofs.Writing.{start, append_put, filled}
use Rattle.history.specs.declared.Change.{Change}
use Rattle.history.specs.declared.Change.TheVariants.{Keep as keep, Swap as swap}
use Rattle.history.specs.Changes.{entries, differ, meets, joined, back}
use Rattle.steps.specs.declared.Walk.{Walk}
use Rattle.steps.specs.Steps.{span, entry_bytes, names, count_if, size_if, said_if, change_at, is_swap, step_of}
use Rattle.steps.specs.Steps.{Stepped, Silent, AllIdle}

-- ---- an entry at a cursor

-- entries whose first names another object say nothing of this one
pub says_nothing : (b : List ℕ) (i w : ℕ) {n : ℕ} → n ≡ number (take 2 b) → (n ≡ i → ⊥) → change_at i w b ≡ keep
unfolding change_at names
says_nothing b i w {n} e g = rw (← e, ne_eqb n i g, never (leb (2 + (w + w)) (length b)))
  where
    never : (t : Bool) → (t && false) ≡ false
    never true = refl
    never false = refl

-- nor do entries whose first is cut off
pub says_cut : (b : List ℕ) (i w : ℕ) → length b < 2 + (w + w) → change_at i w b ≡ keep
unfolding change_at names
says_cut b i w h = rw (lt-leb (2 + (w + w)) (length b) h)

module _ (l : List ℕ) (at i w : ℕ) where
  pub names_cut : length l - at < 2 + (w + w) → false ≡ names i w (drop at l)
  unfolding names
  names_cut h = rw (length-drop, lt-leb (2 + (w + w)) (length l - at) h)

  pub names_whole : {n : ℕ} → 2 + (w + w) ≤ length l - at → n ≡ number (take 2 (drop at l))
      → eqb n i ≡ names i w (drop at l)
  unfolding names
  names_whole h e = rw (length-drop, le-leb (2 + (w + w)) (length l - at) h, ← e)

size_room : (i w : ℕ) (b : List ℕ) → size_if (names i w b) w ≤ length b
unfolding names
size_room i w b = go (leb (2 + (w + w)) (length b)) (eqb (number (take 2 b)) i) refl
  where
    go : (t u : Bool) → leb (2 + (w + w)) (length b) ≡ t → size_if (t && u) w ≤ length b
    go true true e = leb-true _ _ e
    go true false e = omega arith
    go false u e = omega arith

span_said : (t : Bool) (w : ℕ) (b : List ℕ) → span w (said_if t w b) ≡ size_if t w
span_said true w b = refl
span_said false w b = refl

span_room : (i w : ℕ) (b : List ℕ) → span w (change_at i w b) ≤ length b
unfolding change_at
span_room i w b = omega (arith, size_room i w b, span_said (names i w b) w b)

-- the entry at cursor p ends within the bytes
pub said_inside : (l : List ℕ) (p i w : ℕ) {c : Change} {m : ℕ} → p ≤ length l → c ≡ change_at i w (drop p l)
    → m ≡ span w c → p + m ≤ length l
said_inside l p i w h ec em = omega (arith, span_room i w (drop p l), length-drop p l, em ∙ ap (span w) ec)

pub names_inside : (l : List ℕ) (p i w : ℕ) {t : Bool} → p ≤ length l → t ≡ names i w (drop p l)
    → p + size_if t w ≤ length l
names_inside l p i w h e = omega (arith, size_room i w (drop p l), length-drop p l, ap (λ (u : Bool). size_if u w) e)

-- where the entry is known to be there
pub said_swap : {t : Bool} → t ≡ true → (w p : ℕ) (l : List ℕ) {old new : ℕ} → old ≡ number (take w (drop (p + 2) l))
    → new ≡ number (take w (drop (p + 2 + w) l))
    → swap old new ≡ said_if t w (drop p l)
said_swap e w p l o m =
    let s : p + (2 + w) ≡ p + 2 + w = omega arith in
    rw (e, drop-drop 2 p l, drop-drop (2 + w) p l, s, o, m)

pub said_here : (i w p : ℕ) (l : List ℕ) {t : Bool} {m : List ℕ} {q v : ℕ} {c : Change} → t ≡ names i w (drop p l)
    → m ≡ l → q ≡ p → v ≡ w → c ≡ said_if t v (drop q m)
    → c ≡ change_at i w (drop p l)
unfolding change_at
said_here i w p l e em eq ev ec = rw (ec, em, eq, ev, e)

-- there is an entry exactly where the elements differ
pub differ_swap : (old new : ℕ) → not (eqb old new) ≡ is_swap (differ old new)
differ_swap old new = differs (eqb old new)
  where
    differs : (t : Bool) → not t ≡ is_swap (cond t keep (swap old new))
    differs true = refl
    differs false = refl

-- ---- an object in both of two lists

module _ {one other : Bool} (e : one ≡ true) (g : other ≡ true) (w v p q : ℕ) (f s : List ℕ) where
  places : (n m : ℕ) → n + (2 + m) ≡ n + 2 + m
  places n m = omega arith

  pub both_meet : {new old : ℕ} → new ≡ number (take w (drop (p + 2 + w) f)) → old ≡ number (take v (drop (q + 2) s))
      → eqb new old ≡ meets (said_if one w (drop p f)) (said_if other v (drop q s))
  both_meet a b = rw (e, g, drop-drop (2 + w) p f, places p w, drop-drop 2 q s, a, b)

  module _ {old new : ℕ} (a : old ≡ number (take w (drop (p + 2) f)))
      (b : new ≡ number (take v (drop (q + 2 + v) s))) where
    both_are : joined (said_if one w (drop p f)) (said_if other v (drop q s)) ≡ differ old new
    both_are = rw (e, g, drop-drop 2 p f, drop-drop (2 + v) q s, places q v, a, b)

    pub both_join : not (eqb old new) ≡ is_swap (joined (said_if one w (drop p f)) (said_if other v (drop q s)))
    both_join = differ_swap old new ∙ sym (ap is_swap both_are)

    pub both_joined : {r : Change} → r ≡ differ old new
        → r ≡ joined (said_if one w (drop p f)) (said_if other v (drop q s))
    both_joined p = p ∙ sym both_are

-- ---- the step

-- each walk's step, from what the functions it calls ensure
module _ {i w : ℕ} {f : List ℕ} {p : ℕ} {s : List ℕ} {q : ℕ} where
  pub difference_step : p + w ≤ length f → q + w ≤ length s → {a b : ℕ} {c : Change}
      → a ≡ number (take w (drop p f)) → b ≡ number (take w (drop q s)) → c ≡ differ a b
      → Stepped Walk.Difference i w f p s q (record { change = c; agrees = true; first = w; second = w })
  unfolding step_of
  difference_step h k ea eb ec = record { is = rw (ec, ea, eb); near = h; far = k }

  pub join_step : p ≤ length f → q ≤ length s → {one other : Bool} → one ≡ names i w (drop p f)
      → other ≡ names i w (drop q s)
      → {e : Change} {t : Bool} {m n : ℕ}
      → e ≡ joined (said_if one w (drop p f)) (said_if other w (drop q s))
      → t ≡ meets (said_if one w (drop p f)) (said_if other w (drop q s))
      → m ≡ size_if one w → n ≡ size_if other w
      → Stepped Walk.Join i w f p s q (record { change = e; agrees = t; first = m; second = n })
  unfolding step_of change_at
  join_step h k {one} {other} eo es ee et em en = record {
    is = rw (ee, et, em, en, ← span_said one w (drop p f), ← span_said other w (drop q s), eo, es);
    near = omega (arith, names_inside f p i w h eo, em);
    far = omega (arith, names_inside s q i w k es, en);
  }

  pub turn_step : p ≤ length f → q ≤ length s → {c d : Change} {m : ℕ} → c ≡ change_at i w (drop p f) → d ≡ back c
      → m ≡ span w c
      → Stepped Walk.Turn i w f p s q (record { change = d; agrees = true; first = m; second = 0 })
  unfolding step_of
  turn_step h k ec ed em = record { is = rw (ed, em, ec); near = said_inside f p i w h ec em; far = omega arith }

-- count and size of a change's entry, from whether there is one
pub count_swap : (c : Change) → count_if (is_swap c) ≡ entries (c ∷ [])
count_swap keep = refl
count_swap (swap old new) = refl

pub size_swap : (w : ℕ) (c : Change) → size_if (is_swap c) w ≡ span w c
size_swap w keep = refl
size_swap w (swap old new) = refl

-- ---- an element and an entry written

entry_done : (i w old new : ℕ)
    → (([] ++ bytes 2 i) ++ bytes (2 + w - 2) old) ++ bytes (2 + w + w - (2 + w)) new ≡ entry_bytes i w (swap old new)
entry_done i w old new =
    let m : 2 + w - 2 ≡ w = omega arith in
    let n : 2 + w + w - (2 + w) ≡ w = omega arith in
    rw (m, n) (simp append_assoc)

-- the number, the old and the new element are put end to end
module _ (part : List ℕ) (w : ℕ) {old new : ℕ} {c : Change} (l : length part ≡ span w c) (e : c ≡ swap old new) where
  long : length part ≡ 2 + (w + w)
  long = l ∙ ap (span w) e

  pub entry_put : (i : ℕ) {xs ys zs : List ℕ} → xs ≡ bytes (length (mid_of 0 2 part)) i
      → ys ≡ bytes (length (mid_of 2 (2 + w - 2) (put_mid 0 2 part xs))) old
      → zs ≡ bytes (length (mid_of (2 + w) (2 + w + w - (2 + w)) (put_mid 2 (2 + w - 2) (put_mid 0 2 part xs) ys))) new
      → put_mid (2 + w) (2 + w + w - (2 + w)) (put_mid 2 (2 + w - 2) (put_mid 0 2 part xs) ys) zs ≡ entry_bytes i w c
  entry_put i p q r =
      let w₁ = append_put (start part) i 2 p (omega arith) (omega (arith, long)) in
      let w₂ = append_put w₁ old (2 + w) q (omega arith) (omega (arith, long)) in
      let w₃ = append_put w₂ new (2 + w + w) r (omega arith) (omega (arith, long)) in
      filled w₃ (omega (arith, long)) ∙ entry_done i w old new ∙ sym (ap (entry_bytes i w) e)

-- ---- objects of which nothing is said

module _ (l : List ℕ) (at i n : ℕ) (h : i ≤ n) where
  -- no entry is left
  pub silent_cut : length l - at < 2 → Silent i n n (drop at l)
  silent_cut c =
      record { on = h; within = omega arith; says = λ k w _ _. says_cut (drop at l) k w (rw length-drop (omega arith)) }

  -- the next entry names an object already passed, one past the end, or one between
  module _ {m : ℕ} (e : m ≡ number (take 2 (drop at l))) where
    pub silent_past : m < i → Silent i n n (drop at l)
    silent_past c =
        record { on = h; within = omega arith; says = λ k w a b. says_nothing (drop at l) k w e (λ q. omega arith) }

    pub silent_after : n < m → Silent i n n (drop at l)
    silent_after c =
        record { on = h; within = omega arith; says = λ k w a b. says_nothing (drop at l) k w e (λ q. omega arith) }

    pub silent_between : i ≤ m → m ≤ n → Silent i m n (drop at l)
    silent_between c d =
        record { on = c; within = d; says = λ k w a b. says_nothing (drop at l) k w e (λ q. omega arith) }

-- where nothing is said, there is nothing to do
pub idle_none : (walk : Walk) (i n : ℕ) (f s : List ℕ) → i ≤ n → AllIdle walk i i n f s
idle_none walk i n f s h = record { on = omega arith; within = h; is = λ k w a b. absurd (omega arith) }

pub idle_join : {i m n j : ℕ} {f s : List ℕ} → Silent i m n f → Silent i j m s → AllIdle Walk.Join i j n f s
unfolding step_of
idle_join a b = record {
  on = b.on;
  within = omega (arith, a.within, b.within);
  is = λ k w g h. rw (a.says k w g (omega (arith, b.within)), b.says k w g h);
}

pub idle_turn : {i j n : ℕ} {f : List ℕ} (s : List ℕ) → Silent i j n f → AllIdle Walk.Turn i j n f s
unfolding step_of
idle_turn s a = record { on = a.on; within = a.within; is = λ k w g h. rw (a.says k w g h) }

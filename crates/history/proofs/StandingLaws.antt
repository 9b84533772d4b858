-- The standing's rules: each receive call moves exactly one tally, by one unless it is full; what each tally counts;
-- the sum rule.
-- Assumes nothing.
use Prim.Native.Nat.{ℕ, ◌+◌, ◌≤◌, ◌<◌}
use native.Mathlib.Omega.{arith}
use native.Mathlib.Decide.{ℕ_discrete}
use mathlib.Core.Path.{◌≡◌, refl, ap, ◌∙◌}
use mathlib.Core.Bool.{Bool, true, false, cond, not, ◌||◌}
use mathlib.Core.List.{List, [], ◌∷◌}
use lib.Dec.{eqb, ltb}
use lib.ListN.{length, get_or, set}
use borrow.Author.Tests.{lt-ltb, le-ltb, ne_eqb}
use Rattle.history.specs.declared.Answer.{Answer}
use Rattle.history.specs.declared.Standing.{Standing}
use Rattle.history.specs.Verdict.{settled}
use Rattle.history.specs.Calls.{apply_call}
use Rattle.history.specs.Standing.{tallies_of, fresh, full, one_more, Tally, Applied, Late, Gap, Other, tally_of}
use Rattle.history.specs.Standing.{one_more_on, counted, receive_call, NoneFull, total}

-- ---- one tally

pub moves : (n : ℕ) → n < full → one_more n ≡ n + 1
moves n h = simp (lt-ltb _ _ h)

pub full_stays : (n : ℕ) → full ≤ n → one_more n ≡ n
full_stays n h = simp (le-ltb _ _ h)

-- ---- one call

-- one of the four is counted once more, and the others are as they were
abbrev pub OneMoved : Standing → Standing → Type 0
OneMoved s s' = (i : ℕ) × (i < 4) × (tallies_of s' ≡ set (tallies_of s) i (one_more (get_or (tallies_of s) i 0)))

on_moves : (t : Tally) (s : Standing) → OneMoved s (one_more_on t s)
on_moves Applied s = (0, omega arith, refl)
on_moves Late s = (1, omega arith, refl)
on_moves Gap s = (2, omega arith, refl)
on_moves Other s = (3, omega arith, refl)

pub one_moves : (code : ℕ) (s : Standing) → OneMoved s (counted code s)
unfolding counted
one_moves code s = on_moves (tally_of code) s

module _ (T A L out : List ℕ) (s : Standing) where
  -- the answer doesn't depend on the standing; the standing depends on the answer's code
  pub receive_answer : (receive_call T A L out s).answer ≡ (settled (apply_call T A L) out).answer
  unfolding receive_call
  receive_answer = refl

  pub receive_counts : (receive_call T A L out s).standing ≡ counted (receive_call T A L out s).answer.code s
  unfolding receive_call
  receive_counts = refl

-- ---- receive calls since fresh

-- what a receive call is given besides the standing
pub record Delivery : Type 0 where
  pub table : List ℕ
  pub image : List ℕ
  pub list : List ℕ
  pub output : List ℕ

-- the standing after these calls since fresh, the last call first in the list
abbrev pub standing_after : List Delivery → Standing
standing_after [] = fresh
standing_after (d ∷ ds) = (receive_call d.table d.image d.list d.output (standing_after ds)).standing

-- a call's code
abbrev pub code_of : Delivery → ℕ
code_of d = (settled (apply_call d.table d.image d.list) d.output).answer.code

-- how many calls' codes pass a test
abbrev pub how_many : (ℕ → Bool) → List Delivery → ℕ
how_many test [] = 0
how_many test (d ∷ ds) = cond (test (code_of d)) (how_many test ds + 1) (how_many test ds)

-- a tally that is not full after a call was not full before
up : (b : Bool) (n : ℕ) → n ≤ cond b (n + 1) n
up true n = omega arith
up false n = omega arith

was : (n : ℕ) → one_more n < full → n < full
was n h = omega (arith, up (ltb n full) n)

on_was : (t : Tally) (s : Standing) → NoneFull (one_more_on t s) → NoneFull s
on_was Applied s h = record { applied = was s.applied h.applied; late = h.late; gap = h.gap; other = h.other }
on_was Late s h = record { applied = h.applied; late = was s.late h.late; gap = h.gap; other = h.other }
on_was Gap s h = record { applied = h.applied; late = h.late; gap = was s.gap h.gap; other = h.other }
on_was Other s h = record { applied = h.applied; late = h.late; gap = h.gap; other = was s.other h.other }

pub was_none_full : (code : ℕ) (s : Standing) → NoneFull (counted code s) → NoneFull s
unfolding counted
was_none_full code s = on_was (tally_of code) s

on_total : (t : Tally) (s : Standing) → NoneFull s → total (one_more_on t s) ≡ total s + 1
on_total Applied s h = omega (arith, moves s.applied h.applied)
on_total Late s h = omega (arith, moves s.late h.late)
on_total Gap s h = omega (arith, moves s.gap h.gap)
on_total Other s h = omega (arith, moves s.other h.other)

-- while none is full, each call adds 1 to the four together
pub total_grows : (code : ℕ) (s : Standing) → NoneFull s → total (counted code s) ≡ total s + 1
unfolding counted
total_grows code s = on_total (tally_of code) s

delivered : (d : Delivery) (s : Standing)
    → (receive_call d.table d.image d.list d.output s).standing ≡ counted (code_of d) s
delivered d s =
    receive_counts d.table d.image d.list d.output s
    ∙ ap (λ (a : Answer). counted a.code s) (receive_answer d.table d.image d.list d.output s)

-- the sum rule: while none is full, the four sum to the calls since fresh
pub total_after : (ds : List Delivery) → NoneFull (standing_after ds) → total (standing_after ds) ≡ length ds
unfolding fresh
total_after [] h = refl
total_after (d ∷ ds) h =
    let e = delivered d (standing_after ds) in
    let n : NoneFull (standing_after ds) = was_none_full (code_of d) (standing_after ds) (rw e at h) in
    ap total e ∙ total_grows (code_of d) (standing_after ds) n ∙ omega (arith, total_after ds n)

-- ---- what each tally counts

pub counts_applied : (s : Standing) → counted 0 s ≡ one_more_on Applied s
unfolding counted
counts_applied s = refl

pub counts_late : (s : Standing) → counted 16 s ≡ one_more_on Late s
unfolding counted
counts_late s = refl

pub counts_gap : (s : Standing) → counted 17 s ≡ one_more_on Gap s
unfolding counted
counts_gap s = refl

-- any other code, 21 too
pub counts_other : (code : ℕ) (s : Standing) → (code ≡ 0 → ⊥) → (code ≡ 16 → ⊥) → (code ≡ 17 → ⊥)
    → counted code s ≡ one_more_on Other s
unfolding counted
counts_other code s a l g = rw (ne_eqb code 0 a, ne_eqb code 16 l, ne_eqb code 17 g)

abbrev pub is_other : ℕ → Bool
is_other code = not (eqb code 0 || (eqb code 16 || eqb code 17))

-- each tally counts its calls: applied, late, gap, and all others
pub record Counts (ds : List Delivery) : Type 0 where
  pub applied : (standing_after ds).applied ≡ how_many (λ code. eqb code 0) ds
  pub late : (standing_after ds).late ≡ how_many (λ code. eqb code 16) ds
  pub gap : (standing_after ds).gap ≡ how_many (λ code. eqb code 17) ds
  pub other : (standing_after ds).other ≡ how_many is_other ds

-- the four kinds of code
data Code : ℕ → Type 0 where
  applied : Code 0
  late : Code 16
  gap : Code 17
  other : {code : ℕ} → (code ≡ 0 → ⊥) → (code ≡ 16 → ⊥) → (code ≡ 17 → ⊥) → Code code

code_is : (code : ℕ) → Code code
code_is code = go (ℕ_discrete code 0) (ℕ_discrete code 16) (ℕ_discrete code 17)
  where
    go : Dec (code ≡ 0) → Dec (code ≡ 16) → Dec (code ≡ 17) → Code code
    go (yes e) l g = rw e applied
    go (no a) (yes e) g = rw e late
    go (no a) (no l) (yes e) = rw e gap
    go (no a) (no l) (no g) = other a l g

-- what one call adds, while none is full
pub record Adds (code : ℕ) (s : Standing) : Type 0 where
  pub applied : (counted code s).applied ≡ cond (eqb code 0) (s.applied + 1) s.applied
  pub late : (counted code s).late ≡ cond (eqb code 16) (s.late + 1) s.late
  pub gap : (counted code s).gap ≡ cond (eqb code 17) (s.gap + 1) s.gap
  pub other : (counted code s).other ≡ cond (is_other code) (s.other + 1) s.other

adds_by : {code : ℕ} → Code code → (s : Standing) → NoneFull s → Adds code s
unfolding counted
adds_by applied s h = record { applied = moves s.applied h.applied; late = refl; gap = refl; other = refl }
adds_by late s h = record { applied = refl; late = moves s.late h.late; gap = refl; other = refl }
adds_by gap s h = record { applied = refl; late = refl; gap = moves s.gap h.gap; other = refl }
adds_by (other {code = code} a l g) s h =
    let z = ne_eqb code 0 a in
    let x = ne_eqb code 16 l in
    let y = ne_eqb code 17 g in
    record {
      applied = rw (z, x, y);
      late = rw (z, x, y);
      gap = rw (z, x, y);
      other = rw (z, x, y) (moves s.other h.other);
    }

pub adds : (code : ℕ) (s : Standing) → NoneFull s → Adds code s
adds code s = adds_by (code_is code) s

pub each_counts : (ds : List Delivery) → NoneFull (standing_after ds) → Counts ds
unfolding fresh
each_counts [] h = record { applied = refl; late = refl; gap = refl; other = refl }
each_counts (d ∷ ds) h =
    let s : Standing = standing_after ds in
    let e = delivered d s in
    let n : NoneFull s = was_none_full (code_of d) s (rw e at h) in
    let c = each_counts ds n in
    let m = adds (code_of d) s n in
    record {
      applied =
          ap (λ (s : Standing). s.applied) e ∙ m.applied
          ∙ ap (λ (n : ℕ). cond (eqb (code_of d) 0) (n + 1) n) c.applied;
      late = ap (λ (s : Standing). s.late) e ∙ m.late ∙ ap (λ (n : ℕ). cond (eqb (code_of d) 16) (n + 1) n) c.late;
      gap = ap (λ (s : Standing). s.gap) e ∙ m.gap ∙ ap (λ (n : ℕ). cond (eqb (code_of d) 17) (n + 1) n) c.gap;
      other =
          ap (λ (s : Standing). s.other) e ∙ m.other ∙ ap (λ (n : ℕ). cond (is_other (code_of d)) (n + 1) n) c.other;
    }

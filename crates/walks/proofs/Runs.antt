-- To pass a run of objects at once is to pass them one by one: what each turn keeps, the run keeps.
-- Assumes nothing.
use Prim.Native.Nat.{ℕ, zero, suc, ◌+◌, ◌-◌, ◌≤◌, ◌<◌}
use Rattle.kinds.specs.declared.Kind.{Kind}
use native.Mathlib.Omega.{arith}
use native.Mathlib.Nat.{add-zero}
use native.Mathlib.Numerals.{add-one}
use mathlib.Core.Path.{◌≡◌, ap, ◌∙◌}
use mathlib.Core.List.{List}
use lib.ListN.{length, take, drop}
use lib.Seq.{drop-cons}
use Rattle.kinds.specs.Kinds.{width_of}
use Rattle.history.specs.declared.Change.TheVariants.{Keep as keep}
use Rattle.history.specs.Table.{kind_at}
use Rattle.history.specs.Image.{widths}
use Rattle.steps.specs.Steps.{change_at, Silent}

-- ---- where the cursors stay

run_by : {A : Type 0} (g : ℕ → A) (d i : ℕ) → ((k : ℕ) → i ≤ k → k < i + d → g k ≡ g (k + 1)) → g i ≡ g (i + d)
run_by g zero i step = ap g (omega arith)
run_by g (suc d) i step =
    step i (omega arith) (omega arith)
    ∙ run_by g d (i + 1) (λ k a b. step k (omega arith) (omega arith))
    ∙ ap g (omega arith)

pub run : {A : Type 0} (g : ℕ → A) {i j : ℕ} → i ≤ j → ((k : ℕ) → i ≤ k → k < j → g k ≡ g (k + 1)) → g i ≡ g j
run g {i} {j} h step =
    let e : i + (j - i) ≡ j = omega arith in
    run_by g (j - i) i (λ k a b. step k a (omega arith)) ∙ ap g e

-- ---- where a place moves by the objects' widths

widths_first : (ks : List Kind) (i d : ℕ) → i < length ks
    → widths (take (suc d) (drop i ks))
    ≡ width_of (kind_at ks i) + widths (take d (drop (i + 1) ks))
widths_first ks i d h = rw (drop-cons ks i Kind.Signal h, add-one i)

pass_by : (ks : List Kind) (g : ℕ → ℕ → Type 0) (d i a : ℕ) → i + d ≤ length ks
    → ((k b : ℕ) → i ≤ k → k < i + d → g k b → g (k + 1) (b + width_of (kind_at ks k)))
    → g i a → g (i + d) (a + widths (take d (drop i ks)))
pass_by ks g zero i a h step z = rw (add-zero i, add-zero a) z
pass_by ks g (suc d) i a h step z =
    let w : ℕ = width_of (kind_at ks i) in
    let e : i + 1 + d ≡ i + suc d = omega arith in
    let l : a + w + widths (take d (drop (i + 1) ks)) ≡ a + widths (take (suc d) (drop i ks)) =
    omega (arith, widths_first ks i d (omega arith)) in
    rw (e, l) at
    (pass_by ks g d (i + 1) (a + w) (omega arith) (λ k b x y. step k b (omega arith) (omega arith))
    (step i a (omega arith) (omega arith) z))

-- past all objects of which the entries e say nothing
pub pass : (ks : List Kind) {e : List ℕ} (g : ℕ → ℕ → Type 0) {i j a m : ℕ} → Silent i j (length ks) e
    → m ≡ widths (take (j - i) (drop i ks))
    → ((k b : ℕ) → k < length ks → change_at k (width_of (kind_at ks k)) e ≡ keep → g k b
    → g (k + 1) (b + width_of (kind_at ks k)))
    → g i a → g j (a + m)
pass ks g {i} {j} {a} {m} d q step z =
    let l : i + (j - i) ≡ j = omega (arith, d.on) in
    rw (l, ← q)
    at (pass_by ks g (j - i) i a (omega (arith, d.on, d.within))
    (λ k b x y. step k b (omega (arith, d.on, d.within)) (d.says k _ x (omega (arith, d.on)))) z)

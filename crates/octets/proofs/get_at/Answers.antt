-- `octets::get_at` meets its contract: after each step, the number of the bytes read so far;
-- it returns once these are as many as asked for.
-- Assumes nothing.
use native.Mathlib.Omega.{arith}
use mathlib.Core.Path.{◌≡◌, refl}
use Prim.Native.Nat.{ℕ, ◌≤◌, ◌<◌}
use Rattle.octets.proofs.get_at.Goals as goal

fourth : {width : ℕ} → (width ≡ 3 → ⊥) → 2 < width → width ≤ 4 → width ≡ 4
fourth other above most = omega arith

pub returns-then-width-eq0 : goal.returns-then-width-eq0
returns-then-width-eq0 c = rw c.if-width-eq0.true (refl, omega arith)

pub returns-then-width-eq1 : goal.returns-then-width-eq1
returns-then-width-eq1 c = search c.if-width-eq1.true

pub returns-then-width-eq2 : goal.returns-then-width-eq2
returns-then-width-eq2 c = search c.if-width-eq2.true

pub returns-then-width-eq3 : goal.returns-then-width-eq3
returns-then-width-eq3 c = search c.if-width-eq3.true

pub returns : goal.returns
returns c = rw (fourth c.if-width-eq3.false (omega arith) (omega arith)) c.get_next.ensures

-- `fields::by_rows::take_rows` meets its contract: the values so far are those of the rows so far.
-- Assumes nothing.
use native.Mathlib.Omega.{arith}
use Rattle.fields.proofs.Loops.{takes_on, taken_all}
use mathlib.Core.Logic.{inl, inr}
use Rattle.fields.proofs.by_rows.take_rows.Goals as goal
use Rattle.fields.proofs.by_rows.take_rows.Goals.{then-highest-ne0, else-highest-ne0}

pub loop-k-preserved : goal.loop-k-preserved
loop-k-preserved c = elim c.if-highest-ne0.branch [
  | then-highest-ne0 w ↦ takes_on c.loop-k.invariant (omega arith) (omega arith) c.highest.ensures (λ x. x) (λ x. x)
      (inl (w.if-highest-ne0.true, w.values-is, w.n-is))
  | else-highest-ne0 w ↦ takes_on c.loop-k.invariant (omega arith) (omega arith) c.highest.ensures (λ x. x) (λ x. x)
      (inr (w.if-highest-ne0.false, w.values-is, w.n-is))
]

pub returns : goal.returns
returns c = search taken_all

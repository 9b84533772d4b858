-- `fields::by_rows::show_rows` meets its contract: the fields so far are those of the rows so far.
-- Assumes nothing.
use native.Mathlib.Omega.{arith}
use Rattle.fields.proofs.Loops.{shows_on, shown_all}
use mathlib.Core.Logic.{inl, inr}
use Rattle.fields.proofs.by_rows.show_rows.Goals as goal
use Rattle.fields.proofs.by_rows.show_rows.Goals.{then-highest-ne0, else-highest-ne0}

pub loop-k-preserved : goal.loop-k-preserved
loop-k-preserved c = elim c.if-highest-ne0.branch [
  | then-highest-ne0 w ↦ shows_on c.loop-k.invariant (omega arith) (omega arith) (omega arith) c.highest.ensures
      (λ x. x) (λ x. x) (inl (w.if-highest-ne0.true, w.fields-is, w.n-is))
  | else-highest-ne0 w ↦ shows_on c.loop-k.invariant (omega arith) (omega arith) (omega arith) c.highest.ensures
      (λ x. x) (λ x. x) (inr (w.if-highest-ne0.false, w.fields-is, w.n-is))
]

pub returns : goal.returns
returns c = search shown_all

-- `fields::by_rows::check_named` meets its contract: no row so far refuses its value, so the rows left decide.
-- Assumes nothing.
use native.Mathlib.Omega.{arith}
use Rattle.fields.proofs.Loops.{goes_on, stops, checked}
use Rattle.fields.proofs.by_rows.check_named.Goals as goal

pub returns-then-highest-values : goal.returns-then-highest-values
returns-then-highest-values c = search stops

pub loop-k-preserved : goal.loop-k-preserved
loop-k-preserved c = goes_on c.loop-k.invariant (omega arith) (omega arith) (omega arith) c.highest.ensures
    (omega arith)

pub returns : goal.returns
returns c = search checked

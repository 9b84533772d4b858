-- `rows::read_rows` meets its contract: the values so far, and the rows to come decide what is found.
-- Assumes nothing.
use Rattle.rows.proofs.Loops.{turn, refused, ends}
use Rattle.rows.proofs.read_rows.Goals as goal

pub returns-in_default : goal.returns-in_default
returns-in_default c = search refused

pub loop-k-preserved : goal.loop-k-preserved
loop-k-preserved c = search turn

pub returns : goal.returns
returns c = search ends

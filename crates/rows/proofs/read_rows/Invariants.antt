-- `rows::read_rows` meets its contract: the values so far, and the rows to come decide what is found.
-- Assumes nothing.
use Rattle.rows.proofs.Loops.{Reading}
use Rattle.rows.proofs.read_rows.Given as goal

abbrev pub invariant-loop-k : goal.invariant-loop-k
invariant-loop-k l = Reading l.word l.span.first l.span.count l.values l.k

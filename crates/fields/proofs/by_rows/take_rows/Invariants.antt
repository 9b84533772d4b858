-- `fields::by_rows::take_rows` meets its contract: the values so far are those of the rows so far.
-- Assumes nothing.
use Rattle.fields.proofs.Loops.{Taking}
use Rattle.fields.proofs.by_rows.take_rows.Given as goal

abbrev pub invariant-loop-k : goal.invariant-loop-k
invariant-loop-k l = Taking l.span.first l.span.count l.fields l.values l.n l.k

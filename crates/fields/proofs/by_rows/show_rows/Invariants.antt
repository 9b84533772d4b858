-- `fields::by_rows::show_rows` meets its contract: the fields so far are those of the rows so far.
-- Assumes nothing.
use Rattle.fields.proofs.Loops.{Showing}
use Rattle.fields.proofs.by_rows.show_rows.Given as goal

abbrev pub invariant-loop-k : goal.invariant-loop-k
invariant-loop-k l = Showing l.span.first l.span.count l.values l.fields l.n l.k

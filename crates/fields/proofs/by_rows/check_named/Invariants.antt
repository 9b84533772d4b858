-- `fields::by_rows::check_named` meets its contract: no row so far refuses its value, so the rows left decide.
-- Assumes nothing.
use Rattle.fields.proofs.Loops.{Checking}
use Rattle.fields.proofs.by_rows.check_named.Given as goal

abbrev pub invariant-loop-k : goal.invariant-loop-k
invariant-loop-k l = Checking l.span.first l.span.count l.values l.k

-- `rows::compose_rows` meets its contract: the sum so far and what is to come make up the whole.
-- Assumes nothing.
use Rattle.rows.proofs.Loops.{Composing}
use Rattle.rows.proofs.compose_rows.Given as goal

abbrev pub invariant-loop-k : goal.invariant-loop-k
invariant-loop-k l = Composing l.values l.span.first l.span.count l.word l.k

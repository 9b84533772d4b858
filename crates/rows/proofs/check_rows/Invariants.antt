-- `rows::check_rows` meets its contract: the rows to come decide what is found.
-- Assumes nothing.
use Prim.Native.Nat.{◌-◌}
use Rattle.rows.specs.Rows.{row_total}
use Rattle.rows.specs.Values.{bearing}
use Rattle.rows.proofs.Loops.{Checking}
use Rattle.rows.proofs.check_rows.Given as goal

abbrev pub invariant-loop-row : goal.invariant-loop-row
invariant-loop-row l =
    Checking l.word (bearing l.number l.first (row_total - l.first)) (bearing l.number l.row (row_total - l.row))

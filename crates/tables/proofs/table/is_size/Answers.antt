-- `tables::table::is_size` meets its contract: from one byte to the limit.
-- Assumes nothing.
use native.Mathlib.Omega.{arith}
use Rattle.tables.proofs.RuleLaws.{size_none, size_some}
use Rattle.tables.proofs.table.is_size.Goals as goal

pub returns-then-size-lt1 : goal.returns-then-size-lt1
returns-then-size-lt1 c = size_none c.args.version c.args.size (omega arith)

pub returns : goal.returns
returns c = size_some _ _ (omega arith) _ c.label_limit.ensures

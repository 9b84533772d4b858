-- `tables::table::label_limit` meets its contract: the number is the definition's.
-- Assumes nothing.
use Rattle.tables.proofs.RuleLaws.{limit_is}
use Rattle.tables.proofs.table.label_limit.Goals as goal

pub returns : goal.returns
returns c = limit_is _

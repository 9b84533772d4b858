-- `tables::table::is_table_version` meets its contract: the version byte is 1.
-- Assumes nothing.
use Rattle.tables.proofs.RuleLaws.{version_is}
use Rattle.tables.proofs.table.is_table_version.Goals as goal

pub returns : goal.returns
returns c = version_is _

-- `tables::table::check_table` meets its contract: the numbers of what the check gives.
-- Assumes nothing.
use mathlib.Core.Path.{◌∙◌}
use Rattle.history.proofs.OutputLaws.{check_tells}
use Rattle.tables.proofs.table.check_table.Goals as goal

pub returns : goal.returns
returns c = c.into.ensures ∙ check_tells _ c.read_table.ensures

-- `forms::list::check_list` meets its contract: the numbers of what its reading gives.
-- Assumes nothing.
use mathlib.Core.Path.{◌∙◌}
use Rattle.history.proofs.OutputLaws.{check_tells}
use Rattle.forms.proofs.list.check_list.Goals as goal

pub returns : goal.returns
returns c = c.into.ensures ∙ check_tells _ c.read_list.ensures

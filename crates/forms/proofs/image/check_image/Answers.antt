-- `forms::image::check_image` meets its contract: the numbers of what its reading gives.
-- Assumes nothing.
use mathlib.Core.Path.{◌∙◌}
use Rattle.history.proofs.OutputLaws.{check_tells}
use Rattle.forms.proofs.image.check_image.Goals as goal

pub returns : goal.returns
returns c = c.into.ensures ∙ check_tells _ c.read_image.ensures

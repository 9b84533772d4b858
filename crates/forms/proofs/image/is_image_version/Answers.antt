-- `forms::image::is_image_version` meets its contract.
-- Assumes nothing.
use mathlib.Core.Path.{refl}
use Rattle.history.specs.Image.{image_version_good}
use Rattle.forms.proofs.image.is_image_version.Goals as goal

pub returns : goal.returns
unfolding image_version_good
returns c = refl

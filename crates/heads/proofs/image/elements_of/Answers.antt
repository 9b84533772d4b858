-- `heads::image::elements_of` meets its contract: all bytes from the end of the head.
-- Assumes nothing.
use Rattle.heads.proofs.Places.{elements_from_lem}
use Rattle.heads.proofs.image.elements_of.Goals as goal

pub returns : goal.returns
returns c = search elements_from_lem

-- `heads::image::image_head` meets its contract: the place that the image's version byte gives.
-- Assumes nothing.
use borrow.Author.Rules.{rules}
use Rattle.heads.specs.Heads.{image_head}
use Rattle.heads.proofs.Places.{version_inside}
use Rattle.heads.proofs.image.image_head.Goals as goal

pub bounds-image-4 : goal.bounds-image-4
bounds-image-4 c = search (version_inside, rules)

pub returns : goal.returns
unfolding image_head
returns c = c.elements_place.ensures

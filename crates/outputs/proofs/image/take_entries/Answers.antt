-- `outputs::image::take_entries` meets its contract: the entries are taken into the elements, then the position is set.
-- Assumes nothing.
use Rattle.outputs.proofs.Images.{taken_inside, taken}
use Rattle.outputs.proofs.image.take_entries.Goals as goal

pub finish-requires : goal.finish-requires
finish-requires c = search taken_inside

pub returns : goal.returns
returns c = search taken

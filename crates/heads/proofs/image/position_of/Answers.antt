-- `heads::image::position_of` meets its contract: four bytes of the head, before the elements.
-- Assumes nothing.
use native.Mathlib.Omega.{arith}
use Rattle.heads.specs.Heads.{position_in}
use Rattle.heads.proofs.Places.{head_place}
use Rattle.heads.proofs.image.position_of.Goals as goal

pub get_at-requires : goal.get_at-requires
get_at-requires c = (omega (arith, head_place c.args.image.now), omega arith)

pub returns : goal.returns
unfolding position_in
returns c = c.get_at.ensures.0

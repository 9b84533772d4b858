-- `heads::table::object_count` meets its contract: two bytes of the head, before the objects.
-- Assumes nothing.
use native.Mathlib.Omega.{arith}
use Rattle.heads.specs.Heads.{count_in, objects_place}
use Rattle.heads.proofs.table.object_count.Goals as goal

pub get_at-requires : goal.get_at-requires
unfolding objects_place
get_at-requires c = (omega arith, omega arith)

pub returns : goal.returns
unfolding count_in
returns c = c.get_at.ensures.0

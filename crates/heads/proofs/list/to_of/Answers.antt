-- `heads::list::to_of` meets its contract: four bytes of the head, before the entries.
-- Assumes nothing.
use native.Mathlib.Omega.{arith}
use Rattle.heads.specs.Heads.{to_in, entries_place}
use Rattle.heads.proofs.list.to_of.Goals as goal

pub get_at-requires : goal.get_at-requires
unfolding entries_place
get_at-requires c = (omega arith, omega arith)

pub returns : goal.returns
unfolding to_in
returns c = c.get_at.ensures.0

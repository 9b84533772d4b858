-- `heads::list::from_of` meets its contract: four bytes of the head, before the entries.
-- Assumes nothing.
use native.Mathlib.Omega.{arith}
use Rattle.heads.specs.Heads.{from_in, entries_place}
use Rattle.heads.proofs.list.from_of.Goals as goal

pub get_at-requires : goal.get_at-requires
unfolding entries_place
get_at-requires c = (omega arith, omega arith)

pub returns : goal.returns
unfolding from_in
returns c = c.get_at.ensures.0

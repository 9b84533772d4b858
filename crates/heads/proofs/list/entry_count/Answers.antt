-- `heads::list::entry_count` meets its contract: two bytes of the head, before the entries.
-- Assumes nothing.
use native.Mathlib.Omega.{arith}
use Rattle.heads.specs.Heads.{entry_count_in, entries_place}
use Rattle.heads.proofs.list.entry_count.Goals as goal

pub get_at-requires : goal.get_at-requires
unfolding entries_place
get_at-requires c = (omega arith, omega arith)

pub returns : goal.returns
unfolding entry_count_in
returns c = c.get_at.ensures.0

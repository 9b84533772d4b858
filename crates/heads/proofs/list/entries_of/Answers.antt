-- `heads::list::entries_of` meets its contract: all bytes from the end of the head.
-- Assumes nothing.
use native.Mathlib.Omega.{arith}
use Rattle.heads.specs.Heads.{entries_place, entries_in}
use Rattle.heads.proofs.Forms.{to_end}
use Rattle.heads.proofs.Places.{entries_place_lem}
use Rattle.heads.proofs.list.entries_of.Goals as goal

pub slice_bounds-result-count : goal.slice_bounds-result-count
slice_bounds-result-count c = omega (arith, entries_place_lem)

pub slice_bounds-result-start : goal.slice_bounds-result-start
slice_bounds-result-start c = omega (arith, entries_place_lem)

pub returns : goal.returns
unfolding entries_in entries_place
returns c = to_end 17 c.args.list.now

-- `tables::place::entry_place` meets its contract. The invariant: the cursor is at the place of the next entry.
-- Assumes nothing.
use Rattle.tables.proofs.TableLaws.{cursor_first, cursor_last, two_there, cursor_next}
use Rattle.tables.proofs.place.entry_place.Goals as goal

pub loop-init : goal.loop-init
loop-init c = search cursor_first

pub entry_size-at-requires : goal.entry_size-at-requires
entry_size-at-requires c = search two_there

pub loop-preserved : goal.loop-preserved
loop-preserved c = search cursor_next

pub returns : goal.returns
returns c = search cursor_last

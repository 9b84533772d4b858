-- `changes::accepted::write_turned` meets its contract: the walk over an accepted list's entries turns each back.
-- Assumes nothing.
use Rattle.heads.proofs.Parts.{list_inside}
use Rattle.history.proofs.OutputLaws.{puts_as}
use Rattle.changes.proofs.Outcomes.{turn_size, turn_is}
use Rattle.changes.proofs.accepted.write_turned.Goals as goal

pub to_of-from-requires : goal.to_of-from-requires
to_of-from-requires c = search list_inside

pub from_of-to-requires : goal.from_of-to-requires
from_of-to-requires c = search list_inside

pub entries_of-entries-requires : goal.entries_of-entries-requires
entries_of-entries-requires c = search list_inside

pub entry_count-requires : goal.entry_count-requires
entry_count-requires c = search list_inside

pub write_list-requires-clause-measured : goal.write_list-requires-clause-measured
write_list-requires-clause-measured c = search turn_size

pub returns : goal.returns
returns c = puts_as _ (search turn_is) c.write_list.ensures

-- `changes::accepted::write_difference` meets its contract:
-- the walk over two accepted images' elements finds their difference.
-- Assumes nothing.
use Rattle.history.proofs.OutputLaws.{puts_as}
use Rattle.heads.proofs.Parts.{image_inside}
use Rattle.changes.proofs.Outcomes.{elements_sized, difference_is}
use Rattle.changes.proofs.accepted.write_difference.Goals as goal

pub position_of-from-requires : goal.position_of-from-requires
position_of-from-requires c = search image_inside

pub position_of-to-requires : goal.position_of-to-requires
position_of-to-requires c = search image_inside

pub elements_of-old-requires : goal.elements_of-old-requires
elements_of-old-requires c = search image_inside

pub elements_of-new-requires : goal.elements_of-new-requires
elements_of-new-requires c = search image_inside

pub measure_difference-size-requires : goal.measure_difference-size-requires
measure_difference-size-requires c =
    record { elements_long = record { first = search elements_sized; second = search elements_sized } }

pub write_list-requires-clause-asked : goal.write_list-requires-clause-asked
write_list-requires-clause-asked c = record { first = search elements_sized; second = search elements_sized }

pub returns : goal.returns
returns c = puts_as _ (search difference_is) c.write_list.ensures

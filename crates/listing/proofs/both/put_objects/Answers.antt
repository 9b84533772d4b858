-- The whole text is what is written, followed by the lines of the objects left.
-- Assumes nothing.
use native.Mathlib.Omega.{arith}
use Rattle.listing.proofs.PanelLaws.{position_inside}
use Rattle.listing.proofs.WalkLaws.{begin, entries_left, label_inside, element_inside, has_room}
use Rattle.listing.proofs.WalkLaws.{goes_on}
use Rattle.listing.proofs.both.put_objects.Goals as goal

pub elements_of-elements-requires : goal.elements_of-elements-requires
elements_of-elements-requires c = position_inside c.requires.ready c.type_inv.image

pub loop-i-init : goal.loop-i-init
loop-i-init c =
    begin c.requires.ready c.type_inv.table c.type_inv.image _ c.elements_of-elements.ensures _
    c.objects_place-entry.ensures _ c.requires.image_in_bounds

pub overflow_add-label : goal.overflow_add-label
overflow_add-label c = omega (arith, entries_left)

pub label_end-next-requires : goal.label_end-next-requires
label_end-next-requires c = search label_inside

pub bounds-table-entry : goal.bounds-table-entry
bounds-table-entry c = omega (arith, entries_left)

pub slice_bounds-put_object_line-end : goal.slice_bounds-put_object_line-end
slice_bounds-put_object_line-end c = search label_inside

pub slice_bounds-put_object_line-end-in-loop-i : goal.slice_bounds-put_object_line-end-in-loop-i
slice_bounds-put_object_line-end-in-loop-i c = search element_inside

pub put_object_line-requires : goal.put_object_line-requires
put_object_line-requires c = search has_room

pub loop-i-preserved : goal.loop-i-preserved
loop-i-preserved c = search goes_on

-- The first line from the plan and the image's head, and then the others.
-- Assumes nothing.
use native.Mathlib.Omega.{arith}
use borrow.Author.Rules.{rules}
use Rattle.listing.proofs.Fits.{lines_room, lines_end}
use Rattle.listing.proofs.PanelLaws.{position_inside, lines_put}
use Rattle.listing.proofs.both.put_accepted.Goals as goal

pub position_of-position-requires : goal.position_of-position-requires
position_of-position-requires c = position_inside c.requires.ready c.type_inv.image

pub put_objects-requires-clause-image_in_bounds : goal.put_objects-requires-clause-image_in_bounds
put_objects-requires-clause-image_in_bounds c = search (rules, lines_room)

pub overflow_cast-result : goal.overflow_cast-result
overflow_cast-result c =
    let end = lines_end _ _ _ _ _ _ c.new-page.ensures.place c.put_first_line.ensures c.put_objects.ensures in
    omega arith

pub returns : goal.returns
returns c =
    lines_put c.requires.ready c.type_inv.table c.type_inv.image c.position_of-position.ensures c.requires.in_bounds
    c.new-page.ensures.text c.new-page.ensures.place c.put_first_line.ensures c.put_objects.ensures (search rules)
    c.len.ensures

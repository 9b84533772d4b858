-- `heads::written::put_list_head` meets its contract: the opening and three numbers, one after the other.
-- Assumes nothing.
use borrow.Author.Rules.{rules}
use Rattle.heads.proofs.Places.{entries_place_lem}
use Rattle.heads.proofs.WrittenLaws.{head_put}
use Rattle.heads.proofs.written.put_list_head.Goals as goal

pub slice_bounds-put_opening-end : goal.slice_bounds-put_opening-end
slice_bounds-put_opening-end c = search (entries_place_lem, rules)

pub put_opening-requires : goal.put_opening-requires
put_opening-requires c = search (entries_place_lem, rules)

pub slice_bounds-put-end : goal.slice_bounds-put-end
slice_bounds-put-end c = search (entries_place_lem, rules)

pub put-requires : goal.put-requires
put-requires c = search (entries_place_lem, rules)

pub slice_bounds-put-end-2 : goal.slice_bounds-put-end-2
slice_bounds-put-end-2 c = search (entries_place_lem, rules)

pub put-requires-2 : goal.put-requires-2
put-requires-2 c = search (entries_place_lem, rules)

pub slice_bounds-put-end-3 : goal.slice_bounds-put-end-3
slice_bounds-put-end-3 c = search (entries_place_lem, rules)

pub put-requires-3 : goal.put-requires-3
put-requires-3 c = search (entries_place_lem, rules)

pub shape_of-part : goal.shape_of-part
shape_of-part c = search (entries_place_lem, rules)

pub returns : goal.returns
returns c = search head_put

-- `heads::written::put_position` meets its contract: the position is written through its own part, before the elements.
-- Assumes nothing.
use borrow.Author.Rules.{rules}
use Rattle.heads.proofs.Places.{position_inside}
use Rattle.heads.proofs.WrittenLaws.{position_put}
use Rattle.heads.proofs.written.put_position.Goals as goal

pub slice_bounds-put-end : goal.slice_bounds-put-end
slice_bounds-put-end c = search (position_inside, rules)

pub returns : goal.returns
returns c = search position_put

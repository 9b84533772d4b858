-- `walks::put_turned` meets its contract: the entries written and those that the walk still gives make up the whole;
-- the measure is the objects left.
-- Assumes nothing.
use borrow.Author.Rules.{rules}
use Rattle.steps.proofs.StepLaws.{said_inside}
use Rattle.walks.proofs.Lists.{turn_inside, turn_put}
use Rattle.walks.proofs.put_turned.Goals as goal

pub slice_bounds-put_change-end : goal.slice_bounds-put_change-end
slice_bounds-put_change-end c = search turn_inside

pub first_named-i-requires : goal.first_named-i-requires
first_named-i-requires c = (search said_inside, search rules)

pub loop-i-preserved : goal.loop-i-preserved
loop-i-preserved c = search turn_put

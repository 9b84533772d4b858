-- `walks::renew` meets its contract: the elements renewed and those still to be renewed make up the whole;
-- the measure is the objects left.
-- Assumes nothing.
use borrow.Author.Rules.{rules}
use Rattle.walks.proofs.Application.{entry_inside, none_renewed}
use Rattle.walks.proofs.Application.{one_renewed}
use Rattle.walks.proofs.renew.Goals as goal

pub loop-i-init : goal.loop-i-init
loop-i-init c = search none_renewed

pub first_named-i-requires : goal.first_named-i-requires
first_named-i-requires c = (search entry_inside, search rules)

pub loop-i-preserved : goal.loop-i-preserved
loop-i-preserved c = search one_renewed

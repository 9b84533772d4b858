-- `walks::find_unfit` meets its contract: every object passed fits; the measure is the objects left.
-- Assumes nothing.
use borrow.Author.Rules.{rules}
use Rattle.walks.proofs.Application.{entry_inside}
use Rattle.walks.proofs.Application.{unfit_here, one_fitted, all_fitted}
use Rattle.walks.proofs.find_unfit.Goals as goal

pub returns-then-not-fits-clause-lowest : goal.returns-then-not-fits-clause-lowest
returns-then-not-fits-clause-lowest c = (search unfit_here, search rules)

pub first_named-i-requires : goal.first_named-i-requires
first_named-i-requires c = (search entry_inside, search rules)

pub loop-i-preserved : goal.loop-i-preserved
loop-i-preserved c = search one_fitted

pub returns-clause-fit : goal.returns-clause-fit
returns-clause-fit c = search all_fitted

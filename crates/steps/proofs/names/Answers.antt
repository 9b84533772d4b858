-- `steps::names` meets its contract: an entry that is cut off names no object.
-- Assumes nothing.
use Rattle.steps.proofs.StepLaws.{names_cut, names_whole}
use Rattle.steps.proofs.names.Goals as goal

pub returns-then-entries-at : goal.returns-then-entries-at
returns-then-entries-at c = search names_cut

pub returns : goal.returns
returns c = search names_whole

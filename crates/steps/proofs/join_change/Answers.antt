-- `steps::join_change` meets its contract: an object in one list is copied;
-- one in both has the first's old and the second's new.
-- Assumes nothing.
use Rattle.steps.proofs.StepLaws.{both_joined}
use Rattle.steps.proofs.join_change.Goals as goal

pub returns : goal.returns
returns c = search both_joined

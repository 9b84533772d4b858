-- `steps::put_change` meets its contract: the number, the old and the new element, end to end;
-- nothing for a kept object.
-- Assumes nothing.
use Rattle.steps.proofs.StepLaws.{entry_put}
use Rattle.steps.proofs.put_change.Goals as goal

pub returns-in-Swap : goal.returns-in-Swap
returns-in-Swap c = search entry_put

-- `steps::next` meets its contract: only objects that neither list names are passed.
-- Assumes nothing.
use Rattle.steps.proofs.StepLaws.{idle_join}
use Rattle.steps.proofs.next.Goals as goal

pub returns : goal.returns
returns c = search idle_join

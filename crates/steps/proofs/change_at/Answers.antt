-- `steps::change_at` meets its contract: what the entry at the place says, if it names the object.
-- Assumes nothing.
use Rattle.steps.proofs.StepLaws.{said_here}
use Rattle.steps.proofs.change_at.Goals as goal

pub returns : goal.returns
returns c = search said_here

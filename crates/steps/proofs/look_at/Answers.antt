-- `steps::look_at` meets its contract: an entry that names the object is whole.
-- Assumes nothing.
use Rattle.steps.proofs.StepLaws.{names_inside}
use Rattle.steps.proofs.look_at.Goals as goal

pub invariant_of-result-clause-inside : goal.invariant_of-result-clause-inside
invariant_of-result-clause-inside c = search names_inside

-- `steps::meet_at` meets its contract: for an object in both lists, the first's new and the second's old are compared.
-- Assumes nothing.
use borrow.Author.Tests.{not-false}
use Rattle.steps.proofs.StepLaws.{both_meet}
use Rattle.steps.proofs.meet_at.Goals as goal

pub returns : goal.returns
returns c = search (both_meet, not-false)

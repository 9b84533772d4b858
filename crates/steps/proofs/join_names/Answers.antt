-- `steps::join_names` meets its contract: for an object in both lists, the first's old and the
-- second's new are compared.
-- Assumes nothing.
use borrow.Author.Tests.{not-false}
use Rattle.steps.proofs.StepLaws.{both_join}
use Rattle.steps.proofs.join_names.Goals as goal

pub returns : goal.returns
returns c = search (both_join, not-false)

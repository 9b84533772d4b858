-- `steps::said_if` meets its contract: the two elements after the number.
-- Assumes nothing.
use borrow.Author.Tests.{not-false}
use Rattle.steps.proofs.StepLaws.{said_swap}
use Rattle.steps.proofs.said_if.Goals as goal

pub returns : goal.returns
returns c = search (said_swap, not-false)

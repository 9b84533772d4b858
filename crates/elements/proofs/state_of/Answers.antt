-- `elements::state_of` meets its contract: a state is made of the values that were read.
-- Assumes nothing.
use Rattle.elements.proofs.Answers.{values_state}
use Rattle.elements.proofs.state_of.Goals as goal

pub returns : goal.returns
returns c = search values_state

-- `outputs::list::write_list` meets its contract: the room is tested before the head and the entries are written.
-- Assumes nothing.
use Rattle.outputs.proofs.Lists.{short_answer, short_output, list_answer, list_output}
use Rattle.outputs.proofs.list.write_list.Goals as goal

pub returns-then-out-need : goal.returns-then-out-need
returns-then-out-need c = search (short_answer, short_output)

pub returns : goal.returns
returns c = search (list_answer, list_output)

-- `changes::apply` meets its contract: its numbers are those of what was put.
-- Assumes nothing.
use Rattle.history.proofs.OutputLaws.{puts_leave}
use Rattle.changes.proofs.apply.Goals as goal

pub returns : goal.returns
returns c = rw c.into.ensures (puts_leave _ _ c.put_apply.ensures)

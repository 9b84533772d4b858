-- `panel::write::write_state` meets its contract: its numbers are those of `put_state`.
-- Assumes nothing.
use mathlib.Core.Path.{◌∙◌}
use Rattle.history.proofs.OutputLaws.{puts_leave}
use Rattle.panel.proofs.write.write_state.Goals as goal

pub returns : goal.returns
returns c = let w = puts_leave _ _ c.put_state.ensures in (c.into.ensures ∙ w.0, w.1)

-- `listing::list_into` meets its contract: its numbers are those of `list`.
-- Assumes nothing.
use mathlib.Core.Path.{◌∙◌}
use Rattle.history.proofs.OutputLaws.{puts_leave}
use Rattle.listing.proofs.list_into.Goals as goal

pub returns : goal.returns
returns c = let w = puts_leave _ _ c.list.ensures in (c.into.ensures ∙ w.0, w.1)

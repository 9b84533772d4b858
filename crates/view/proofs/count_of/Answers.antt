-- `view::count_of` meets its contract: the plan has as many kinds as the table has objects.
-- Assumes nothing.
use mathlib.Core.Path.{sym, ◌∙◌}
use Rattle.view.proofs.PartLaws.{counted, uncounted}
use Rattle.view.proofs.count_of.Goals as goal

pub returns-in-Ok : goal.returns-in-Ok
returns-in-Ok c = counted _ (sym c.in-Ok.is ∙ c.outline.ensures) c.plan.ensures

pub returns-in-Err : goal.returns-in-Err
returns-in-Err c = uncounted _ (sym c.in-Err.is ∙ c.outline.ensures)

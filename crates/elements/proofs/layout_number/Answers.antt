-- `elements::layout_number` meets its contract: a field of the layout.
-- Assumes nothing.
use mathlib.Core.Path.{ap}
use Rattle.rows.specs.declared.Layout.{Layout}
use Rattle.elements.proofs.layout_number.Goals as goal

pub returns : goal.returns
returns c = ap (λ (l : Layout). l.number) c.layout.ensures

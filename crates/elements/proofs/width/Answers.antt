-- `elements::width` meets its contract: a field of the layout, at most 4 by the covering rule.
-- Assumes nothing.
use mathlib.Core.Path.{ap}
use Rattle.rows.specs.declared.Layout.{Layout}
use Rattle.elements.proofs.Covering.{cover}
use Rattle.elements.proofs.width.Goals as goal

pub returns : goal.returns
returns c = let e = c.layout.ensures in
    (ap (λ (l : Layout). l.bytes) e, rw e (cover c.args.kind).narrow)

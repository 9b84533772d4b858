-- `elements::check_fields` meets its contract: the rows with the number of the kind's layout are its rows.
-- Assumes nothing.
use mathlib.Core.Path.{◌∙◌, ap}
use Prim.Native.Nat.{◌-◌}
use Rattle.rows.specs.declared.Layout.{Layout}
use Rattle.rows.specs.Rows.{row_total}
use Rattle.rows.specs.Values.{check_rows, bearing}
use Rattle.elements.proofs.Bearing.{bearing_rows}
use Rattle.elements.proofs.check_fields.Goals as goal

pub returns : goal.returns
returns c = let a = c.args in
    c.check_rows.ensures
    ∙ ap (λ (l : Layout). check_rows a.word (bearing l.number l.first (row_total - l.first)))
    c.layout-layout.ensures
    ∙ ap (check_rows a.word) (bearing_rows a.kind)

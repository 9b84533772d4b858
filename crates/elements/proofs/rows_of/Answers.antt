-- `elements::rows_of` meets its contract: a kind's rows are among all rows, and at most 24.
-- Assumes nothing.
use native.Mathlib.Omega.{arith}
use Rattle.elements.proofs.Covering.{cover}
use Rattle.elements.proofs.rows_of.Goals as goal

pub invariant_of-result : goal.invariant_of-result
invariant_of-result c =
    let g = cover c.args.kind in
    rw c.layout-layout.ensures (record { inside = omega (arith, g.inside); few = g.few })

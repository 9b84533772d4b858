-- The rows with the number of a kind's layout, from its first row on, are the kind's rows.
-- Assumes nothing.
use Prim.Native.Nat.{◌-◌}
use mathlib.Core.Path.{◌≡◌, refl}
use Rattle.rows.specs.Values.{bearing}
use Rattle.rows.specs.Rows.{cells, layouts, row_total}
use Rattle.kinds.specs.Kinds.{layout_of, layout_no, rows_of}
use Rattle.kinds.specs.declared.Kind.{Kind}
use Rattle.kinds.proofs.KindLaws.{every_kind}

pub bearing_rows : (k : Kind) → bearing (layout_no k) (layout_of k).first (row_total - (layout_of k).first) ≡ rows_of k
unfolding cells layouts
bearing_rows =
    every_kind (λ k. bearing (layout_no k) (layout_of k).first (row_total - (layout_of k).first)) rows_of refl

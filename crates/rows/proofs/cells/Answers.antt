-- `rows::cells` meets its contract: the constant is the definition's.
-- Assumes nothing.
use mathlib.Core.Path.{refl}
use Rattle.rows.specs.Rows.{cells}
use Rattle.rows.proofs.cells.Goals as goal

pub returns : goal.returns
unfolding cells
returns c = refl

-- `rows::cell` meets its contract: what is lent is the rows' numbers.
-- Assumes nothing.
use Prim.Native.Nat.{ℕ}
use mathlib.Core.Path.{ap}
use mathlib.Core.List.{List}
use lib.ListN.{get_or}
use Rattle.rows.proofs.cell.Goals as goal

pub returns : goal.returns
returns c = ap (λ (l : List ℕ). get_or l c.args.place 0) c.requires.0

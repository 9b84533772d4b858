-- `tables::table::is_catalogue` meets its contract: X.Y is 1.0 or 3.0.
-- Assumes nothing.
use Prim.Native.Nat.{ℕ}
use Rattle.std.proofs.Common.{arith}
use mathlib.Core.Path.{sym, ap}
use Rattle.history.specs.Table.{catalogue_good}
use Rattle.tables.proofs.RuleLaws.{catalogue_other}
use Rattle.tables.proofs.table.is_catalogue.Goals as goal

pub returns-in-1 : goal.returns-in-1
unfolding catalogue_good
returns-in-1 c = sym (ap (λ (x : ℕ). catalogue_good x c.args.y) c.in-1.is)

pub returns-in-3 : goal.returns-in-3
unfolding catalogue_good
returns-in-3 c = sym (ap (λ (x : ℕ). catalogue_good x c.args.y) c.in-3.is)

pub returns-in_default : goal.returns-in_default
returns-in_default c = catalogue_other _ _ (omega arith) (omega arith)

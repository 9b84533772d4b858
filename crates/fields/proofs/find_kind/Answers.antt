-- `fields::find_kind` meets its contract: no kind has a number above 255.
-- Assumes nothing.
use native.Mathlib.Omega.{arith}
use Rattle.fields.proofs.CallLaws.{none_numbered}
use Rattle.fields.proofs.find_kind.Goals as goal

pub returns-in_default : goal.returns-in_default
returns-in_default c = none_numbered _ (omega (arith, c.in_default.ensures))

-- `heads::written::entries_place` meets its contract: the number is the definition's.
-- Assumes nothing.
use native.Mathlib.Omega.{arith}
use mathlib.Core.Path.{sym}
use Rattle.heads.proofs.Places.{entries_place_lem}
use Rattle.heads.proofs.written.entries_place.Goals as goal

pub returns : goal.returns
returns c = (sym entries_place_lem, omega arith)

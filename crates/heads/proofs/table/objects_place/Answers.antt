-- `heads::table::objects_place` meets its contract: the number is the definition's.
-- Assumes nothing.
use mathlib.Core.Path.{sym}
use Rattle.heads.proofs.Places.{objects_place_lem}
use Rattle.heads.proofs.table.objects_place.Goals as goal

pub returns : goal.returns
returns c = sym objects_place_lem

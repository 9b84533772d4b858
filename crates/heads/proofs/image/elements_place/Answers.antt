-- `heads::image::elements_place` meets its contract: the number is the definition's.
-- Assumes nothing.
use native.Mathlib.Omega.{arith}
use mathlib.Core.Path.{sym}
use Rattle.heads.proofs.Places.{elements_place_lem}
use Rattle.heads.proofs.image.elements_place.Goals as goal

pub returns : goal.returns
returns c = (sym (elements_place_lem _), omega arith)

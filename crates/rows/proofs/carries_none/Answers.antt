-- `rows::carries_none` meets its contract: the sum of two numbers of 32 bits fits in 64.
-- Assumes nothing.
use mathlib.Core.Path.{refl}
use Rattle.rows.specs.Marks.{carries_none}
use Rattle.rows.proofs.carries_none.Goals as goal

pub returns : goal.returns
unfolding carries_none
returns c = refl

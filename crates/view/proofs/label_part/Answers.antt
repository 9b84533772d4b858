-- `view::label_part` meets its contract: the part at the label's place, in the table's own block, by computation; of a
-- refused request the empty part at the front.
-- Assumes nothing.
use mathlib.Core.Path.{refl}
use Rattle.view.proofs.PartLaws.{found_part, no_part}
use Rattle.view.proofs.label_part.Goals as goal

pub returns-in_default : goal.returns-in_default
returns-in_default c = no_part _ c.label_place.ensures c.in_default.is refl refl

pub returns : goal.returns
returns c = found_part _ c.label_place.ensures _ c.in-Ok.is refl refl

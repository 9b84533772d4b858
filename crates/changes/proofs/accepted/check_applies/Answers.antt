-- `changes::accepted::check_applies` meets its contract: the positions, then the lowest misfit.
-- Assumes nothing.
use native.Mathlib.Omega.{arith}
use mathlib.Core.Path.{refl}
use Rattle.heads.proofs.Parts.{image_inside, list_inside}
use Rattle.changes.proofs.Outcomes.{refuses, elements_sized, apply_late, apply_gap, apply_misfits, apply_fits}
use Rattle.changes.proofs.accepted.check_applies.Goals as goal

pub position_of-position-requires : goal.position_of-position-requires
position_of-position-requires c = search image_inside

pub from_of-from-requires : goal.from_of-from-requires
from_of-from-requires c = search list_inside

pub returns-then-from-position : goal.returns-then-from-position
returns-then-from-position c = refuses _ (search apply_late) c.refused.ensures

pub returns-then-position-from : goal.returns-then-position-from
returns-then-position-from c = refuses _ (search apply_gap) c.refused-then-position-from.ensures

pub entries_of-requires : goal.entries_of-requires
entries_of-requires c = search list_inside

pub elements_of-requires : goal.elements_of-requires
elements_of-requires c = search image_inside

pub find_unfit-requires : goal.find_unfit-requires
find_unfit-requires c = record { elements_len = search elements_sized }

pub returns-in-Some : goal.returns-in-Some
returns-in-Some c =
    let n = c.in-Some.ensures.lowest in
    refuses _ (search (apply_misfits, n.0, n.1)) c.refused_at.ensures

pub returns-in-None : goal.returns-in-None
returns-in-None c =
    apply_fits _ _ _ c.args.plan.few c.requires.accepted_image c.requires.accepted_list c.position_of-position.ensures
    c.from_of-from.ensures (omega arith) (omega arith) c.entries_of.ensures c.elements_of.ensures refl
    (omega (arith, c.in-None.ensures.fit))

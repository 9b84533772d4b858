-- `changes::accepted::write_joined` meets its contract: the positions, then the lowest object on which the lists do not
-- agree, else the list is written.
-- Assumes nothing.
use Rattle.history.proofs.OutputLaws.{puts_as, refused_puts}
use native.Mathlib.Omega.{arith}
use mathlib.Core.Path.{refl, ap}
use Rattle.std.specs.Prelude.{Err}
use Rattle.heads.proofs.Parts.{list_inside}
use Rattle.changes.proofs.Outcomes.{join_apart, join_misfits, join_is}
use Rattle.changes.proofs.accepted.write_joined.Goals as goal

pub to_of-end-requires : goal.to_of-end-requires
to_of-end-requires c = search list_inside

pub from_of-start-requires : goal.from_of-start-requires
from_of-start-requires c = search list_inside

pub returns-then-end-start : goal.returns-then-end-start
returns-then-end-start c = refused_puts _ _ (search join_apart) (ap Err c.refused.ensures)

pub entries_of-one-requires : goal.entries_of-one-requires
entries_of-one-requires c = search list_inside

pub entries_of-other-requires : goal.entries_of-other-requires
entries_of-other-requires c = search list_inside

pub returns-in-Err : goal.returns-in-Err
returns-in-Err c =
    let n = c.in-Err.ensures.lowest in
    refused_puts _ _
    (join_misfits _ _ _ c.args.plan.few c.requires.accepted_list c.requires.accepted_list_2 c.to_of-end.ensures
    c.from_of-start.ensures (omega arith) c.entries_of-one.ensures c.entries_of-other.ensures n.0 n.1)
    (ap Err c.refused_at.ensures)

pub from_of-from-requires : goal.from_of-from-requires
from_of-from-requires c = search list_inside

pub to_of-to-requires : goal.to_of-to-requires
to_of-to-requires c = search list_inside

pub returns-in-Ok : goal.returns-in-Ok
returns-in-Ok c =
    puts_as _
    (join_is _ _ _ c.args.plan.few c.requires.accepted_list c.requires.accepted_list_2 c.to_of-end.ensures
    c.from_of-start.ensures (omega arith) c.entries_of-one.ensures c.entries_of-other.ensures refl
    (omega (arith, c.in-Ok.ensures.agree.0)) c.from_of-from.ensures c.to_of-to.ensures)
    c.write_list.ensures

-- `forms::list::check_entry` meets its contract: the number, 14, the elements, 15, in this order.
-- Assumes nothing.
use Rattle.std.proofs.lemmas.Result.{err_from_is_err_and}
use Rattle.forms.proofs.Found.{refuses}
use Rattle.forms.proofs.ListEntryLaws.{no_number, number_there, object_there, falling, bad_elements}
use Rattle.forms.proofs.ListEntryLaws.{unchanged, changed}
use Rattle.forms.proofs.list.check_entry.Goals as goal

pub returns-in_err-object : goal.returns-in_err-object
returns-in_err-object c =
    let p = err_from_is_err_and c.from_residual.result c.from_residual.ensures.1 in
    rw (p.1, p.2) (search (no_number, c.in_err-object.ensures))

pub returns-then-index-low : goal.returns-then-index-low
returns-then-index-low c = refuses _ (search (falling, c.in_ok-object.ensures)) c.refused_at.ensures

pub bounds-plan-index : goal.bounds-plan-index
bounds-plan-index c = search (object_there, c.in_ok-object.ensures)

pub check_elements-requires : goal.check_elements-requires
check_elements-requires c = search (number_there, c.in_ok-object.ensures)

pub returns-in_err-entry : goal.returns-in_err-entry
returns-in_err-entry c =
    let p = err_from_is_err_and c.from_residual-in_err-entry.result c.from_residual-in_err-entry.ensures.1 in
    rw (p.1, p.2) (search (bad_elements, c.in_ok-object.ensures, c.in_err-entry.ensures))

pub returns-then-entry : goal.returns-then-entry
returns-then-entry c =
    refuses _ (search (unchanged, c.in_ok-object.ensures, c.in_ok-entry.ensures)) c.refused_at-then-entry.ensures

pub returns : goal.returns
returns c = search (changed, c.in_ok-object.ensures, c.in_ok-entry.ensures)

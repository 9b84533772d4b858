-- `changes::under::take_under` meets its contract: the list's refusal is the answer; an accepted list is taken.
-- Assumes nothing.
use Rattle.std.proofs.lemmas.Result.{err_from_is_err_and}
use Rattle.forms.proofs.Accepted.{list_accepted}
use Rattle.changes.proofs.Calls.{take_first}
use Rattle.changes.proofs.under.take_under.Goals as goal

pub returns-in_err-check_list_under : goal.returns-in_err-check_list_under
returns-in_err-check_list_under c =
    let p = err_from_is_err_and c.from_residual.result c.from_residual.ensures.1 in
    rw (p.1, p.2) (take_first _ _ _ c.requires.accepted_image c.in_err-check_list_under.ensures)

pub take_applied-requires-clause-accepted_list : goal.take_applied-requires-clause-accepted_list
take_applied-requires-clause-accepted_list c = list_accepted _ _ c.type_inv.list c.in_ok-check_list_under.ensures

-- `changes::under::join_under` meets its contract: the first refusal is the answer;
-- where both forms are accepted the operation decides.
-- Assumes nothing.
use Rattle.forms.proofs.Accepted.{list_accepted}
use Rattle.changes.proofs.Calls.{passed, join_first, join_second}
use Rattle.changes.proofs.under.join_under.Goals as goal

pub returns-in_err-check_list_under : goal.returns-in_err-check_list_under
returns-in_err-check_list_under c =
    passed _ _ c.from_residual.ensures.1 (join_first _ _ _ _ c.in_err-check_list_under.ensures)

pub returns-in_err-check_list_under-2 : goal.returns-in_err-check_list_under-2
returns-in_err-check_list_under-2 c =
    passed _ _ c.from_residual-in_err-check_list_under-2.ensures.1
    (join_second _ _ _ _ (list_accepted _ _ c.type_inv.first c.in_ok-check_list_under.ensures)
    c.in_err-check_list_under-2.ensures)

pub write_joined-requires-clause-accepted_list : goal.write_joined-requires-clause-accepted_list
write_joined-requires-clause-accepted_list c = list_accepted _ _ c.type_inv.first c.in_ok-check_list_under.ensures

pub write_joined-requires-clause-accepted_list_2 : goal.write_joined-requires-clause-accepted_list_2
write_joined-requires-clause-accepted_list_2 c = list_accepted _ _ c.type_inv.second c.in_ok-check_list_under-2.ensures

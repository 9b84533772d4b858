-- `changes::under::apply_under` meets its contract: the first refusal is the answer;
-- where both forms are accepted the operation decides.
-- Assumes nothing.
use Rattle.forms.proofs.Accepted.{image_accepted, list_accepted}
use Rattle.changes.proofs.Calls.{passed, apply_first, apply_second}
use Rattle.changes.proofs.under.apply_under.Goals as goal

pub returns-in_err-check_image_under : goal.returns-in_err-check_image_under
returns-in_err-check_image_under c =
    passed _ _ c.from_residual.ensures.1 (apply_first _ _ _ _ c.in_err-check_image_under.ensures)

pub returns-in_err-check_list_under : goal.returns-in_err-check_list_under
returns-in_err-check_list_under c =
    passed _ _ c.from_residual-in_err-check_list_under.ensures.1
    (apply_second _ _ _ _ (image_accepted _ _ c.type_inv.image c.in_ok-check_image_under.ensures)
    c.in_err-check_list_under.ensures)

pub write_applied-requires-clause-accepted_image : goal.write_applied-requires-clause-accepted_image
write_applied-requires-clause-accepted_image c = image_accepted _ _ c.type_inv.image c.in_ok-check_image_under.ensures

pub write_applied-requires-clause-accepted_list : goal.write_applied-requires-clause-accepted_list
write_applied-requires-clause-accepted_list c = list_accepted _ _ c.type_inv.list c.in_ok-check_list_under.ensures

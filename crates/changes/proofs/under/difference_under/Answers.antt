-- `changes::under::difference_under` meets its contract: the first refusal is the answer;
-- where both forms are accepted the operation decides.
-- Assumes nothing.
use Rattle.forms.proofs.Accepted.{image_accepted}
use Rattle.changes.proofs.Calls.{passed, difference_first, difference_second}
use Rattle.changes.proofs.under.difference_under.Goals as goal

pub returns-in_err-check_image_under : goal.returns-in_err-check_image_under
returns-in_err-check_image_under c =
    passed _ _ c.from_residual.ensures.1 (difference_first _ _ _ _ c.in_err-check_image_under.ensures)

pub returns-in_err-check_image_under-2 : goal.returns-in_err-check_image_under-2
returns-in_err-check_image_under-2 c =
    passed _ _ c.from_residual-in_err-check_image_under-2.ensures.1
    (difference_second _ _ _ _ (image_accepted _ _ c.type_inv.a c.in_ok-check_image_under.ensures)
    c.in_err-check_image_under-2.ensures)

pub write_difference-requires-clause-accepted_image : goal.write_difference-requires-clause-accepted_image
write_difference-requires-clause-accepted_image c = image_accepted _ _ c.type_inv.a c.in_ok-check_image_under.ensures

pub write_difference-requires-clause-accepted_image_2 : goal.write_difference-requires-clause-accepted_image_2
write_difference-requires-clause-accepted_image_2 c =
    image_accepted _ _ c.type_inv.b c.in_ok-check_image_under-2.ensures

-- `changes::under::turn_under` meets its contract: the list's refusal is the answer; an accepted list is turned back.
-- Assumes nothing.
use Rattle.forms.proofs.Accepted.{list_accepted}
use Rattle.changes.proofs.Calls.{passed, turn_first}
use Rattle.changes.proofs.under.turn_under.Goals as goal

pub returns-in_err-check_list_under : goal.returns-in_err-check_list_under
returns-in_err-check_list_under c =
    passed _ _ c.from_residual.ensures.1 (turn_first _ _ _ c.in_err-check_list_under.ensures)

pub write_turned-requires : goal.write_turned-requires
write_turned-requires c =
    record { accepted_list = list_accepted _ _ c.type_inv.list c.in_ok-check_list_under.ensures }

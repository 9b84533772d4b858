-- `panel::write::check_state` meets its contract: 13, 22, 12 in this order.
-- Assumes nothing.
use Rattle.panel.proofs.WriteLaws.{no_object, other_kind, bad_state, good_state}
use Rattle.panel.proofs.write.check_state.Goals as goal

pub returns-then-kinds-index : goal.returns-then-kinds-index
returns-then-kinds-index c = search no_object

pub returns-then-not-same_kind : goal.returns-then-not-same_kind
returns-then-not-same_kind c = search other_kind

pub returns-in-Err : goal.returns-in-Err
returns-in-Err c = search bad_state

pub returns : goal.returns
returns c = search good_state

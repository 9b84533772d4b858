-- `fields::refuse_state` meets its contract: what reading refuses, then 22, then what is refused of the state.
-- Assumes nothing.
use Rattle.fields.proofs.CallLaws.{refuses_first, refuses_22, refuses_it}
use Rattle.fields.proofs.refuse_state.Goals as goal

pub returns-in-Err : goal.returns-in-Err
returns-in-Err c = refuses_first _ _ _ _ _ c.in-Err.ensures

pub returns-in-Ok : goal.returns-in-Ok
returns-in-Ok c = search (refuses_22, c.in-Ok.ensures)

pub returns-in-Ok-2 : goal.returns-in-Ok-2
returns-in-Ok-2 c = search (refuses_it, c.in-Ok.ensures)

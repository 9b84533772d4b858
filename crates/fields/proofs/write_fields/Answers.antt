-- `fields::write_fields` meets its contract: the number's kind decides, then what is found of the values.
-- Assumes nothing.
use Rattle.history.proofs.OutputLaws.{leaves_as}
use Rattle.fields.proofs.CallLaws.{no_kind, no_value, state_writes, refused_settles, state_refuses}
use Rattle.fields.proofs.write_fields.Goals as goal

pub returns-in_default : goal.returns-in_default
returns-in_default c = refused_settles (search no_kind) (state_refuses _ _ _ _ _) _ c.refuse_state.ensures

pub returns-in-Err : goal.returns-in-Err
returns-in-Err c = refused_settles (search no_value) (state_refuses _ _ _ _ _) _ c.refuse_state-in-Err.ensures

pub returns : goal.returns
returns c = leaves_as _ (search state_writes) c.write_state.ensures

-- `gateway::shefumbari_read_state` meets its contract: what was read, as numbers and as fields;
-- a refusal leaves the fields as they were.
-- Assumes nothing.
use Rattle.gateway.proofs.CallLaws.{fields_stay, fields_shown, read_told, refusal_told}
use Rattle.gateway.proofs.shefumbari_read_state.Goals as goal

pub returns-in-Ok : goal.returns-in-Ok
returns-in-Ok c = record {
  fields_after = fields_shown _ _ _ _ c.in-Ok.ensures;
  answer_after = read_told _ _ _ c.in-Ok.ensures c.read_slots.ensures;
}

pub returns-in-Err : goal.returns-in-Err
returns-in-Err c = record {
  fields_after = fields_stay _ _ _ _ c.in-Err.ensures;
  answer_after = refusal_told _ _ _ c.in-Err.ensures c.answer_slots.ensures;
}

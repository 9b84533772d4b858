-- `gateway::slots::label_slots` meets its contract: a label is within the first 65,536 bytes,
-- so its place fits 32 bits.
-- Assumes nothing.
use native.Mathlib.Omega.{arith}
use Rattle.gateway.proofs.CallLaws.{offset_few, size_few, label_shown, label_refused}
use Rattle.gateway.proofs.slots.label_slots.Goals as goal

pub overflow_cast-label : goal.overflow_cast-label
overflow_cast-label c = omega (arith, offset_few _ _ c.in-Ok.ensures.whole, size_few _ _ c.in-Ok.ensures.whole)

pub overflow_cast-label-in-Ok : goal.overflow_cast-label-in-Ok
overflow_cast-label-in-Ok c = omega (arith, offset_few _ _ c.in-Ok.ensures.whole, size_few _ _ c.in-Ok.ensures.whole)

pub returns-in-Ok : goal.returns-in-Ok
returns-in-Ok c = label_shown _ _ c.in-Ok.ensures.whole c.accepted.ensures c.slots.ensures

pub returns-in-Err : goal.returns-in-Err
returns-in-Err c = label_refused _ _ c.in-Err.ensures.whole c.answer_slots.ensures

-- `receiver::received` meets its contract: the application's answer, and the standing that counts it.
-- Assumes nothing.
use Rattle.receiver.proofs.ReceiveLaws.{taken_is}
use Rattle.receiver.proofs.received.Goals as goal

pub returns : goal.returns
returns c = taken_is _ _ _ _ _ c.apply-answer.ensures c.count.ensures

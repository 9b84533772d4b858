-- `receiver::backlog_received` meets its contract: a refused table ends it;
-- under an accepted one the image and the lists decide.
-- Assumes nothing.
use Rattle.receiver.proofs.BacklogSteps.{table_stops, table_goes}
use Rattle.receiver.proofs.backlog_received.Goals as goal

pub returns-in-Ok : goal.returns-in-Ok
returns-in-Ok c = table_goes _ _ _ _ _ c.in-Ok.ensures c.plan.ensures c.backlog_under.ensures

pub returns-in-Err : goal.returns-in-Err
returns-in-Err c = table_stops _ _ _ _ _ c.in-Err.ensures c.none_taken.ensures

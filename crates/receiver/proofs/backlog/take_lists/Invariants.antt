-- `receiver::backlog::take_lists` meets its contract: what the whole comes to, what is left comes to too;
-- the measure is the bytes left.
-- Assumes nothing.
use lib.ListN.{length}
use Rattle.tables.specs.Plans.{plan_in}
use Rattle.receiver.proofs.Turns.{Taking}
use Rattle.receiver.proofs.backlog.take_lists.Given as goal

abbrev pub invariant-loop-rest : goal.invariant-loop-rest
invariant-loop-rest l =
    Taking (plan_in l.plan) l.lists l.initial.image l.initial.counted l.rest l.image l.counted l.taken

abbrev pub decreases-loop-rest : goal.decreases-loop-rest
decreases-loop-rest l = length l.rest

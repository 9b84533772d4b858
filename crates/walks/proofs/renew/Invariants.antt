-- `walks::renew` meets its contract: the elements renewed and those still to be renewed make up the whole;
-- the measure is the objects left.
-- Assumes nothing.
use Prim.Native.Nat.{◌-◌}
use lib.ListN.{length}
use Rattle.walks.proofs.Application.{Renewing}
use Rattle.walks.proofs.renew.Given as goal

abbrev pub invariant-loop-i : goal.invariant-loop-i
invariant-loop-i l = Renewing l.plan.kinds.now l.entries l.initial.part l.part l.at l.entry_at l.i

abbrev pub decreases-loop-i : goal.decreases-loop-i
decreases-loop-i l = length l.plan.kinds.now - l.i

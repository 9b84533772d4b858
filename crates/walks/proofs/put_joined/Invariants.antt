-- `walks::put_joined` meets its contract: the entries written and those that the walk still gives make up the whole;
-- the measure is the objects left.
-- Assumes nothing.
use Prim.Native.Nat.{◌-◌}
use lib.ListN.{length}
use Rattle.steps.specs.declared.Walk.{Walk}
use Rattle.walks.proofs.Rounds.{Putting}
use Rattle.walks.proofs.put_joined.Given as goal

abbrev pub invariant-loop-i : goal.invariant-loop-i
invariant-loop-i l = Putting Walk.Join l.plan.kinds.now l.first l.second l.initial.part l.part l.at l.near l.far l.i

abbrev pub decreases-loop-i : goal.decreases-loop-i
decreases-loop-i l = length l.plan.kinds.now - l.i

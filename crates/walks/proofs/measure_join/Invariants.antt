-- `walks::measure_join` meets its contract: what is counted and what the walk still gives make up the whole;
-- the measure is the objects left.
-- Assumes nothing.
use Prim.Native.Nat.{◌-◌}
use lib.ListN.{length}
use Rattle.steps.specs.declared.Walk.{Walk}
use Rattle.walks.proofs.Rounds.{Sizing}
use Rattle.walks.proofs.measure_join.Given as goal

abbrev pub invariant-loop-i : goal.invariant-loop-i
invariant-loop-i l = Sizing Walk.Join l.plan.kinds.now l.first l.second l.count l.bytes l.near l.far l.i

abbrev pub decreases-loop-i : goal.decreases-loop-i
decreases-loop-i l = length l.plan.kinds.now - l.i

-- `walks::put_difference` meets its contract: the entries written and those that the walk still gives make up the
-- whole; the measure is the objects left.
-- Assumes nothing.
use Rattle.steps.specs.declared.Walk.{Walk}
use Rattle.walks.proofs.Rounds.{Putting}
use Rattle.walks.proofs.Lists.{Comparing}
use Rattle.walks.proofs.put_difference.Given as goal

abbrev pub invariant-loop-i : goal.invariant-loop-i
invariant-loop-i l =
    Putting Walk.Difference l.plan.kinds.now l.old l.new l.initial.part l.part l.at l.place l.place l.i
    × Comparing l.plan.kinds.now l.old l.new l.place l.i

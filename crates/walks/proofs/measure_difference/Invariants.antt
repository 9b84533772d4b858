-- `walks::measure_difference` meets its contract: what is counted and what the walk still gives make up the whole;
-- the measure is the objects left.
-- Assumes nothing.
use Rattle.steps.specs.declared.Walk.{Walk}
use Rattle.walks.proofs.Rounds.{Sizing}
use Rattle.walks.proofs.Lists.{Comparing}
use Rattle.walks.proofs.measure_difference.Given as goal

abbrev pub invariant-loop-kind : goal.invariant-loop-kind
invariant-loop-kind l =
    Sizing Walk.Difference l.plan.kinds.now l.old l.new l.count l.bytes l.at l.at l.kind-index
    × Comparing l.plan.kinds.now l.old l.new l.at l.kind-index

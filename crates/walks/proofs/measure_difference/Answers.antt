-- `walks::measure_difference` meets its contract: what is counted and what the walk still gives make up the whole;
-- the measure is the objects left.
-- Assumes nothing.
use Rattle.walks.proofs.Rounds.{all_measured}
use Rattle.walks.proofs.Lists.{one_compared}
use Rattle.walks.proofs.Lists.{difference_sized}
use Rattle.walks.proofs.measure_difference.Goals as goal

pub loop-kind-preserved : goal.loop-kind-preserved
loop-kind-preserved c = let inv = c.loop-kind.invariant in
    let h = c.loop-kind-test.true in
    let ew = c.width-width.ensures.0 in (
      difference_sized inv.1 h ew c.get_at-before.ensures.0 c.get_at-after.ensures.0 inv.0
          c.count_if-count.ensures c.size_if-bytes.ensures,
      one_compared inv.1 h ew,
    )

pub returns : goal.returns
returns c = search all_measured

-- `walks::put_difference` meets its contract: the entries written and those that the walk still gives make up the
-- whole; the measure is the objects left.
-- Assumes nothing.
use Rattle.walks.proofs.Lists.{one_compared}
use Rattle.walks.proofs.Lists.{difference_inside, difference_put}
use Rattle.walks.proofs.put_difference.Goals as goal

pub slice_bounds-put_change-end : goal.slice_bounds-put_change-end
slice_bounds-put_change-end c = search difference_inside

pub loop-i-preserved : goal.loop-i-preserved
loop-i-preserved c = let inv = c.loop-i.invariant in
    let h = c.loop-i-test.true in
    let ew = c.width-width.ensures.0 in (
      difference_put inv.1 h ew c.get_at-before.ensures.0 c.get_at-after.ensures.0 c.differ-change.ensures inv.0
          c.span.ensures.0 c.put_change.ensures,
      one_compared inv.1 h ew,
    )

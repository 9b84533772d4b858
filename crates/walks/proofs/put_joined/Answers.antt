-- `walks::put_joined` meets its contract: the entries written and those that the walk still gives make up the whole;
-- the measure is the objects left.
-- Assumes nothing.
use native.Mathlib.Omega.{arith}
use Rattle.walks.proofs.Lists.{cursor_inside, join_inside, join_put}
use Rattle.walks.proofs.put_joined.Goals as goal

pub slice_bounds-put_change-end : goal.slice_bounds-put_change-end
slice_bounds-put_change-end c =
    join_inside c.loop-i-test.true c.width-width.ensures.0 c.look_at-one.ensures c.look_at-other.ensures
    c.loop-i.invariant c.join_change-change.ensures c.span.ensures.0

pub next-i-requires : goal.next-i-requires
next-i-requires c = let inv = c.loop-i.invariant in (
  cursor_inside _ _ _ _ inv.near c.look_at-one.ensures.0 c.size_if-near.ensures,
  cursor_inside _ _ _ _ inv.far c.look_at-other.ensures.0 c.size_if-far.ensures,
  omega (arith, c),
)

pub loop-i-preserved : goal.loop-i-preserved
loop-i-preserved c = join_put c.loop-i-test.true c.width-width.ensures.0 c.look_at-one.ensures c.look_at-other.ensures
    c.loop-i.invariant c.join_change-change.ensures c.span.ensures.0
    c.put_change.ensures c.size_if-near.ensures c.size_if-far.ensures c.next-i.ensures

-- `walks::measure_join` meets its contract: what is counted and what the walk still gives make up the whole;
-- the measure is the objects left.
-- Assumes nothing.
use native.Mathlib.Omega.{arith}
use Rattle.walks.proofs.Rounds.{all_agree, all_measured}
use Rattle.walks.proofs.Lists.{cursor_inside, join_until, join_sized}
use Rattle.walks.proofs.measure_join.Goals as goal

pub returns-then-not-meet_at-clause-lowest : goal.returns-then-not-meet_at-clause-lowest
returns-then-not-meet_at-clause-lowest c = (
  join_until c.loop-i-test.true c.width-width.ensures.0 c.look_at-one.ensures c.look_at-other.ensures
      c.loop-i.invariant c.meet_at.ensures c.if-not-meet_at.true,
  c.loop-i-test.true,
)

pub next-i-requires : goal.next-i-requires
next-i-requires c = let inv = c.loop-i.invariant in (
  cursor_inside _ _ _ _ inv.seek.near c.look_at-one.ensures.0 c.size_if-near.ensures,
  cursor_inside _ _ _ _ inv.seek.far c.look_at-other.ensures.0 c.size_if-far.ensures,
  omega (arith, c),
)

pub loop-i-preserved : goal.loop-i-preserved
loop-i-preserved c = join_sized c.loop-i-test.true c.width-width.ensures.0 c.look_at-one.ensures c.look_at-other.ensures
    c.loop-i.invariant c.meet_at.ensures c.if-not-meet_at.false
    c.join_names-kept.ensures c.count_if-count.ensures c.size_if-bytes.ensures c.size_if-near.ensures
    c.size_if-far.ensures c.next-i.ensures

pub returns-clause-agree : goal.returns-clause-agree
returns-clause-agree c = search (all_agree, all_measured)

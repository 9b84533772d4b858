use Rattle.std.proofs.Common.{◌≡◌, ◌<◌, true, false, refl, arith, length}
use borrow.Author.Count.{below_more}
use Rattle.script.specs.Placed.{IsAt}
use Rattle.script.proofs.PlacedLaws.{starts_at, at_starts}
use Rattle.script.proofs.value_of.Goals as goal

pub returns-then-starts_with : goal.returns-then-starts_with
returns-then-starts_with c =
    let there =
    starts_at c.args.line.now c.args.name.now c.loop-i.i c.starts_with.result c.starts_with.ensures.value
    c.if-starts_with.true (c.if-starts_with.ensures.bound refl) (omega arith) in
    ((c.loop-i.i, refl, there), λ k some before. c.loop-i.invariant k (omega arith) some)

pub loop-i-preserved : goal.loop-i-preserved
loop-i-preserved c =
    below_more (λ k. 0 < length c.args.name.now → IsAt c.args.line.now k c.args.name.now → ⊥) c.loop-i.i
    c.loop-i.invariant λ some there.
    let started : c.starts_with.result ≡ true =
    at_starts c.args.line.now c.args.name.now c.loop-i.i c.starts_with.result c.starts_with.ensures.value there in
    let not_started : c.starts_with.result ≡ false = c.if-starts_with.false in
    absurd (grind (arith, started, not_started))

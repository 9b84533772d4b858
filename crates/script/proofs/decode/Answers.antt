use Rattle.std.proofs.Common.{arith}
use Rattle.script.proofs.PlacedLaws.{more_read}
use Rattle.script.proofs.decode.Goals as goal

pub loop-n-preserved : goal.loop-n-preserved
loop-n-preserved c = record {
  place = omega (arith, c.loop-n.invariant.place);
  hex = more_read c.args.text.now c.loop-n.out c.args.from c.loop-n.i c.loop-n.n c.in-Some.high c.in-Some-digit.low
      c.loop-n.invariant.place (omega arith) (omega arith) c.in-Some-digit.ensures.0
      c.in-Some.ensures.1 c.in-Some-digit.ensures.1 c.loop-n.invariant.hex;
}

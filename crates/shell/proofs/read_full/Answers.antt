use Rattle.std.proofs.Common.{arith, ◌-◌, length}
use Rattle.shell.proofs.FilledFront.{more}
use Rattle.shell.proofs.read_full.Goals as goal

pub loop-done-preserved : goal.loop-done-preserved
loop-done-preserved g c = record {
  within = omega (arith, c.in_ok-n.ensures.bound.0);
  read =
      more _ _ _ c.loop-done.done (length c.loop-done.buffer - c.loop-done.done) c.in_ok-n.n c.loop-done.buffer
      c.read.new.buf
      c.loop-done.invariant.within c.in_ok-n.ensures.bound.0 c.loop-done.invariant.read c.in_ok-n.ensures.bytes.0;
}

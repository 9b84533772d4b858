-- A write appends the bytes that it took, and an interrupted one none.
use Rattle.std.proofs.Common.{◌-◌, arith, length, drop}
use Rattle.std.proofs.lemmas.List.{length-take}
use Rattle.shell.proofs.Grown.{onward, still}
use Rattle.shell.proofs.write_whole.Goals as goal
use Rattle.shell.proofs.write_whole.Goals.{in-Ok, in-Err+else-ne}

pub loop-turn-preserved : goal.loop-turn-preserved
loop-turn-preserved g c =
    let bytes = c.args.bytes.now in
    let k = c.loop-turn.done in
    let before = c.loop-turn.invariant in
    elim c.match-write.branch [
      | in-Ok w ↦ record {
        within = omega (
          arith,
          w.done-is,
          before.within,
          w.in-Ok.ensures.bound,
          length-take (length bytes - k) (drop k bytes),
        );
        written = rw w.done-is (onward _ _ _ bytes k w.in-Ok.n before.written w.in-Ok.ensures.bytes);
      }
      | in-Err+else-ne w ↦ record {
        within = omega (arith, w.done-is, before.within);
        written = rw w.done-is (still _ _ _ _ before.written w.in-Err.ensures.bytes);
      }
    ]

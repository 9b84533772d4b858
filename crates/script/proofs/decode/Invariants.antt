-- The bytes written so far stand in the text in hex.
use Rattle.std.proofs.Common.{◌≡◌, ◌+◌, ◌*◌, take}
use Rattle.script.specs.Placed.{IsHexAt}
use Rattle.script.proofs.decode.Given as goal

abbrev pub invariant-loop-n : goal.invariant-loop-n
invariant-loop-n l = record {
  place : l.i ≡ l.fn.from + 2 * l.n;
  hex : IsHexAt l.text l.fn.from (take l.n l.out);
}

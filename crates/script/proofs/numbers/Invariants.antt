-- The numbers before the index are read, and the next is at the place.
use Rattle.std.proofs.Common.{◌≡◌, drop, length}
use Rattle.script.specs.Numbers.{behind_commas}
use Rattle.script.proofs.NumberLaws.{AreRead}
use Rattle.script.proofs.numbers.Given as goal

abbrev pub invariant-loop-value : goal.invariant-loop-value
invariant-loop-value l = record {
  size : length l.value-items ≡ 32;
  place : drop l.at l.text ≡ behind_commas l.value-index (drop l.from l.text);
  read : AreRead (drop l.from l.text) l.value-index l.value-items;
}

-- The digits before the index are read.
use Rattle.std.proofs.Common.{◌≡◌, ◌%◌, drop}
use Rattle.script.specs.Numbers.{number_at, number_after}
use Rattle.script.proofs.decimal.Given as goal

abbrev pub invariant-loop-i : goal.invariant-loop-i
invariant-loop-i l =
    number_at l.text l.from % 4294967296 ≡ number_after l.value (drop l.i l.text) % 4294967296

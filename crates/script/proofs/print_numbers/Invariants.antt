-- The numbers before the index are printed.
use Rattle.std.proofs.Common.{take}
use Rattle.std.specs.Io.KnownBytes.{Appends}
use Rattle.script.specs.Printed.{numbers_text}
use Rattle.script.proofs.print_numbers.Given as goal

abbrev pub invariant-loop-k : goal.invariant-loop-k
invariant-loop-k g l =
    Appends (g.W.Write.contents l.initial.to) (g.W.Write.contents l.to) (numbers_text (take l.k l.values))

-- The bytes before the index are printed.
use Rattle.std.proofs.Common.{take}
use Rattle.std.specs.Io.KnownBytes.{Appends}
use Rattle.std.specs.List.{flat_map}
use Rattle.script.specs.Printed.{hex_byte}
use Rattle.script.proofs.print_hex.Given as goal

abbrev pub invariant-loop-byte : goal.invariant-loop-byte
invariant-loop-byte g l =
    Appends (g.W.Write.contents l.initial.to) (g.W.Write.contents l.to) (flat_map hex_byte (take l.byte-index l.bytes))

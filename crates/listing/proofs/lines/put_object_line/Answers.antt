-- Six writes, each right after the one before.
-- Assumes nothing.
use native.Mathlib.Omega.{arith}
use Rattle.listing.proofs.LineLaws.{object_line_lem, after_hexes}
use Rattle.listing.proofs.lines.put_object_line.Goals as goal

pub byte-requires-2 : goal.byte-requires-2
byte-requires-2 c = omega (arith, after_hexes)

pub returns : goal.returns
returns c = object_line_lem _ c.put_number.ensures c.put_number-2.ensures c.bytes.ensures c.byte.ensures
    c.hex.ensures c.byte-2.ensures

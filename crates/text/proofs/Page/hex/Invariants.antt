-- The bytes before the index are written, in hex.
-- Assumes nothing.
use lib.ListN.{take}
use Rattle.text.specs.Grew.{Grew}
use Rattle.text.specs.Hex.{hexes}
use Rattle.text.proofs.Page.hex.Given as goal

abbrev pub invariant-loop-b : goal.invariant-loop-b
invariant-loop-b l = Grew l.initial.self (hexes (take l.b-index l.src)) l.self

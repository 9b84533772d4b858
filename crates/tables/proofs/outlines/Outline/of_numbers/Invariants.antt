-- `tables::outlines::Outline::of_numbers` meets its contract. The invariant: the first kinds are those of the numbers
-- passed.
-- Assumes nothing.
use Rattle.tables.proofs.PlanLaws.{Turned}
use Rattle.tables.proofs.outlines.Outline.of_numbers.Given as goal

abbrev pub invariant-loop-i : goal.invariant-loop-i
invariant-loop-i l = Turned l.numbers l.kinds l.i

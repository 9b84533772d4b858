-- `tables::plan::kinds_in` meets its contract. The invariant: the kinds of the objects passed are in the first places.
-- Assumes nothing.
use Rattle.tables.proofs.PlanLaws.{Filling}
use Rattle.tables.proofs.plan.kinds_in.Given as goal

abbrev pub invariant-loop-i : goal.invariant-loop-i
invariant-loop-i l = Filling l.table l.count l.kinds l.i l.at

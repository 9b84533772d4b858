-- `walks::find_unfit` meets its contract: every object passed fits; the measure is the objects left.
-- Assumes nothing.
use Prim.Native.Nat.{◌-◌}
use lib.ListN.{length}
use Rattle.walks.proofs.Application.{Fitting}
use Rattle.walks.proofs.find_unfit.Given as goal

abbrev pub invariant-loop-i : goal.invariant-loop-i
invariant-loop-i l = Fitting l.plan.kinds.now l.entries l.elements l.at l.entry_at l.i

abbrev pub decreases-loop-i : goal.decreases-loop-i
decreases-loop-i l = length l.plan.kinds.now - l.i

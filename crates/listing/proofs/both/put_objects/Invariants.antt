-- The lines so far are written, and the other objects are ahead.
-- Assumes nothing.
use Rattle.listing.proofs.WalkLaws.{Walked}
use Rattle.listing.proofs.both.put_objects.Given as goal

abbrev pub invariant-loop-i : goal.invariant-loop-i
invariant-loop-i l = Walked l.table l.image l.plan.kinds.now l.elements l.initial.page l.page l.entry l.place l.i

-- `tables::table::check_objects` meets its contract. The invariants: the verdict for the whole is that for what is
-- left, and the entries passed are chained by their hashes; no earlier entry searched so far is the same; the label
-- bytes compared so far are, from the last down.
-- Assumes nothing.
use Prim.Native.Nat.{◌+◌, ◌-◌, ◌≤◌, ◌<◌}
use lib.ListN.{length}
use Rattle.tables.proofs.RepeatLaws.{Agree}
use Rattle.tables.proofs.ChainLaws.{Chained}
use Rattle.tables.proofs.RoundLaws.{Walking, Searching}
use Rattle.tables.proofs.table.check_objects.Given as goal

abbrev pub invariant-bytes : goal.invariant-bytes
invariant-bytes l = (l.i < l.size) × (l.was + l.size ≤ length l.table) × Agree l.table l.was l.at l.i l.size

abbrev pub decreases-bytes : goal.decreases-bytes
decreases-bytes l = l.i

abbrev pub invariant-earlier : goal.invariant-earlier
invariant-earlier l = Searching l.table l.count l.k l.at l.size l.hash l.lasts l.links l.starts l.j

abbrev pub decreases-earlier : goal.decreases-earlier
decreases-earlier l = l.j

abbrev pub invariant-entries : goal.invariant-entries
invariant-entries l = Walking l.table l.count l.k l.at × Chained l.table l.k l.lasts l.links l.starts

abbrev pub decreases-entries : goal.decreases-entries
decreases-entries l = l.count - l.k

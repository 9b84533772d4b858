-- `tables::place::entry_place` meets its contract. The invariant: the cursor is at the place of the next entry.
-- Assumes nothing.
use Rattle.tables.proofs.TableLaws.{CursorAt}
use Rattle.tables.proofs.place.entry_place.Given as goal

abbrev pub invariant-loop : goal.invariant-loop
invariant-loop l = CursorAt l.table l.object l.counter l.at

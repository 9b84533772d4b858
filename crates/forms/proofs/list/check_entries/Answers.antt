-- `forms::list::check_entries` meets its contract: what the whole gives is what the rest gives.
-- Assumes nothing.
use native.Mathlib.Omega.{arith}
use Rattle.forms.proofs.ListEntryLaws.{number_inside, goes_on}
use Rattle.forms.proofs.list.check_entries.Goals as goal

pub overflow_add-low : goal.overflow_add-low
overflow_add-low c = omega (arith, number_inside _ _ c.args.entries.now c.loop.at c.in_ok-entry.ensures)

pub loop-preserved : goal.loop-preserved
loop-preserved c = search (goes_on, c.in_ok-entry.ensures)

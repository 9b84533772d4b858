-- `forms::list::check_number` meets its contract: each return is what the tests so far decide.
-- Assumes nothing.
use native.Mathlib.Nat.{le_of_lt}
use Rattle.forms.proofs.Found.{refuses}
use Rattle.forms.proofs.ListEntryLaws.{number_cut, beyond, of_object}
use Rattle.forms.proofs.list.check_number.Goals as goal

pub returns-then-entries-at-lt2 : goal.returns-then-entries-at-lt2
returns-then-entries-at-lt2 c = refuses _ (search number_cut) c.refused.ensures

-- 13 is right both at the count and above it, so either test (`<=`, `<`) passes here
pub returns-then-kinds-object : goal.returns-then-kinds-object
returns-then-kinds-object c = refuses _ (search (beyond, le_of_lt)) c.refused_at.ensures

pub returns : goal.returns
returns c = search of_object

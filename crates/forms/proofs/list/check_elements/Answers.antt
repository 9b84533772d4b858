-- `forms::list::check_elements` meets its contract: each return is what the tests so far decide.
-- Assumes nothing.
use Rattle.forms.proofs.Found.{refuses}
use Rattle.forms.proofs.ListEntryLaws.{elements_cut, old_bad, new_bad, both_good}
use Rattle.forms.proofs.list.check_elements.Goals as goal

pub returns-then-entries-at : goal.returns-then-entries-at
returns-then-entries-at c = refuses _ (search elements_cut) c.refused.ensures

pub returns-in-Err : goal.returns-in-Err
returns-in-Err c = refuses _ (search old_bad) c.refused_by.ensures

pub returns-in-Err-check_element : goal.returns-in-Err-check_element
returns-in-Err-check_element c = refuses _ (search new_bad) c.refused_by-in-Err-check_element.ensures

pub returns : goal.returns
returns c = search both_good

-- `gateway::calls::check_element_alone` meets its contract, test by test.
-- Assumes nothing.
use Rattle.gateway.proofs.CallLaws.{element_3, element_5, element_8, element_refused, element_good}
use Rattle.gateway.proofs.calls.check_element_alone.Goals as goal

pub returns-then-not-is_catalogue : goal.returns-then-not-is_catalogue
returns-then-not-is_catalogue c = search element_3

pub returns-then-not-is_carried : goal.returns-then-not-is_carried
returns-then-not-is_carried c = search element_5

pub returns-then-element-width : goal.returns-then-element-width
returns-then-element-width c = search element_8

pub returns-in-Err : goal.returns-in-Err
returns-in-Err c = search element_refused

pub returns : goal.returns
returns c = search element_good

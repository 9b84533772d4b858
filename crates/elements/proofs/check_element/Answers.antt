-- `elements::check_element` meets its contract: what a glance shows, or what the rows find.
-- Assumes nothing.
use Rattle.elements.proofs.Answers.{shown}
use Rattle.elements.proofs.check_element.Goals as goal

pub returns-then-not-is_stale : goal.returns-then-not-is_stale
returns-then-not-is_stale c = search shown

-- `elements::check_at` meets its contract: the number at the place, and what a glance at it
-- shows, or what its rows find.
-- Assumes nothing.
use Rattle.elements.proofs.Answers.{shown, number_at}
use Rattle.elements.proofs.check_at.Goals as goal

pub returns-then-not-is_stale : goal.returns-then-not-is_stale
returns-then-not-is_stale c = search (number_at, shown)

pub returns : goal.returns
returns c = search number_at

-- `forms::list::check_entries` meets its contract: what the whole gives is what the rest gives.
-- Assumes nothing.
use Rattle.forms.proofs.ListEntryLaws.{Left}
use Rattle.forms.proofs.list.check_entries.Given as goal

abbrev pub invariant-loop : goal.invariant-loop
invariant-loop l = Left l.plan.kinds.now l.count l.entries l.counter l.low l.at

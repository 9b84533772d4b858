-- `changes::put_join` meets its contract: a refused table's answer is the whole answer;
-- under an accepted one the other forms decide.
-- Assumes nothing.
use Rattle.history.proofs.OutputLaws.{puts_as}
use Rattle.forms.proofs.UnderPlan.{table_puts, under_plan}
use Rattle.changes.proofs.Calls.{passed, join_starts}
use Rattle.changes.proofs.put_join.Goals as goal

pub returns-in_err-outline : goal.returns-in_err-outline
returns-in_err-outline c =
    passed _ _ c.from_residual.ensures.1 (table_puts (join_starts _ _ _) _ c.in_err-outline.ensures)

pub returns : goal.returns
returns c =
    puts_as _ (under_plan (join_starts _ _ _) c.in_ok-outline.ensures c.plan.ensures) c.join_under.ensures

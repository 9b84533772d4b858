-- `forms::list::read_list` meets its contract: a refused table's answer is the whole answer;
-- under an accepted one the list decides.
-- Assumes nothing.
use Rattle.std.proofs.lemmas.Result.{err_from_is_err_and}
use mathlib.Core.Path.{ap, ◌∙◌}
use Rattle.history.specs.Verdict.{checked}
use Rattle.forms.proofs.UnderPlan.{table_refused, list_starts, under_plan}
use Rattle.forms.proofs.list.read_list.Goals as goal

pub returns-in_err-outline : goal.returns-in_err-outline
returns-in_err-outline c =
    let p = err_from_is_err_and c.from_residual.result c.from_residual.ensures.1 in
    rw (p.1, p.2) (table_refused (list_starts _ _) _ c.in_err-outline.ensures)

pub returns : goal.returns
returns c =
    c.check_list_under.ensures ∙ ap checked (under_plan (list_starts _ _) c.in_ok-outline.ensures c.plan.ensures)

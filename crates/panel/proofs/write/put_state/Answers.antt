-- `panel::write::put_state` meets its contract: a refused table's answer is the answer and the output stays;
-- under an accepted one the image and the state decide.
-- Assumes nothing.
use Rattle.std.proofs.lemmas.Result.{err_from_is_err_and}
use Rattle.history.proofs.OutputLaws.{puts_as}
use Rattle.forms.proofs.UnderPlan.{table_puts, under_plan}
use Rattle.panel.proofs.WriteLaws.{write_starts}
use Rattle.panel.proofs.write.put_state.Goals as goal

pub returns-in_err-outline : goal.returns-in_err-outline
returns-in_err-outline c =
    let p = err_from_is_err_and c.from_residual.result c.from_residual.ensures.1 in
    rw (p.1, p.2) (table_puts (write_starts _ _ _ _ _) _ c.in_err-outline.ensures)

pub returns : goal.returns
returns c = puts_as _ (under_plan (write_starts _ _ _ _ _) c.in_ok-outline.ensures c.plan.ensures) c.write_under.ensures

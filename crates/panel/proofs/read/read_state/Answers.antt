-- `panel::read::read_state` meets its contract: a refused table's answer is the reading's;
-- under an accepted one the image and the object decide.
-- Assumes nothing.
use Rattle.std.proofs.lemmas.Result.{err_from_is_err_and}
use mathlib.Core.Path.{◌∙◌}
use Rattle.panel.proofs.ReadLaws.{table_read, read_by_plan}
use Rattle.panel.proofs.read.read_state.Goals as goal

pub returns-in_err-outline : goal.returns-in_err-outline
returns-in_err-outline c =
    let p = err_from_is_err_and c.from_residual.result c.from_residual.ensures.1 in
    rw (p.1, p.2) (table_read _ _ _ c.in_err-outline.ensures)

pub returns : goal.returns
returns c = c.read_under.ensures ∙ read_by_plan _ _ _ c.in_ok-outline.ensures c.plan.ensures

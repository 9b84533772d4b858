-- `elements::check_by_rows` meets its contract: a refused field is the answer, and else the rule of DAT decides.
-- Assumes nothing.
use mathlib.Core.Path.{◌∙◌}
use Rattle.std.proofs.lemmas.Result.{err_from_is_err_and}
use Rattle.elements.proofs.Answers.{check_refused, check_rest}
use Rattle.elements.proofs.check_by_rows.Goals as goal

pub returns-in_err-check_fields : goal.returns-in_err-check_fields
returns-in_err-check_fields c =
    let p = err_from_is_err_and c.from_residual.result c.from_residual.ensures.1 in
    rw (p.1, p.2) (search (check_refused, c.in_err-check_fields.was))

pub returns : goal.returns
returns c = c.dat_rule.ensures ∙ search (check_rest, c.in_ok-check_fields.was)

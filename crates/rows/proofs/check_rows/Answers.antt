-- `rows::check_rows` meets its contract: the rows to come decide what is found.
-- Assumes nothing.
use Rattle.std.proofs.lemmas.Result.{err_from_is_err_and}
use Rattle.rows.proofs.Loops.{goes_on, stops, checked, bears_next, bears_none, bears_end}
use Rattle.rows.proofs.check_rows.Goals as goal

pub returns-then-cell-number : goal.returns-then-cell-number
returns-then-cell-number c = search (checked, bears_none)

pub returns-in_err-read_field : goal.returns-in_err-read_field
returns-in_err-read_field c =
    let p = err_from_is_err_and c.from_residual.result c.from_residual.ensures.1 in
    rw (p.1, p.2) (search (stops, c.in_err-read_field.was))

pub loop-row-preserved : goal.loop-row-preserved
loop-row-preserved c = search (goes_on, bears_next, c.in_ok-read_field.was)

pub returns : goal.returns
returns c = search (checked, bears_end)

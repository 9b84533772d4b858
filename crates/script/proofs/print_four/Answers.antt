-- What was printed before an error stays in front of what the failed part printed.
use Rattle.shell.proofs.Grown.{both, then_err, then_failed}
use Rattle.script.proofs.print_four.Goals as goal

pub returns-in_err-print_next-clause-err : goal.returns-in_err-print_next-clause-err
returns-in_err-print_next-clause-err g c =
    then_failed c.from_residual-in_err-print_next.result _ _ _ _
    c.in_ok-print_number.ensures.ok c.in_err-print_next.ensures.err

pub returns-in_err-print_next-2-clause-err : goal.returns-in_err-print_next-2-clause-err
returns-in_err-print_next-2-clause-err g c =
    then_failed c.from_residual-in_err-print_next-2.result _ _ _ _
    (both _ _ _ _ _ c.in_ok-print_number.ensures.ok c.in_ok-print_next.ensures.ok) c.in_err-print_next-2.ensures.err

pub returns-clause-err : goal.returns-clause-err
returns-clause-err g c =
    then_err c.print_next-3.result _ _ _ _
    (both _ _ _ _ _ (both _ _ _ _ _ c.in_ok-print_number.ensures.ok c.in_ok-print_next.ensures.ok)
    c.in_ok-print_next-2.ensures.ok)
    c.print_next-3.ensures.err

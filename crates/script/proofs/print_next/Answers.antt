-- The mark stays in front if the number fails.
use Rattle.shell.proofs.Grown.{then_err}
use Rattle.script.proofs.print_next.Goals as goal

pub returns-clause-err : goal.returns-clause-err
returns-clause-err g c = then_err c.print_number.result _ _ _ _ c.in_ok-print.ensures.ok c.print_number.ensures.err

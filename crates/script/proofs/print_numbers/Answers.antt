use Rattle.std.proofs.Common.{arith}
use Rattle.shell.proofs.Grown.{then_failed}
use Rattle.script.proofs.PrintedLaws.{more_numbers}
use Rattle.script.proofs.print_numbers.Goals as goal

pub loop-k-preserved : goal.loop-k-preserved
loop-k-preserved g c =
    more_numbers _ _ _ c.args.values c.loop-k.k (omega arith) c.loop-k.invariant c.in_ok-print_item.ensures.ok

pub returns-in_err-print_item-clause-err : goal.returns-in_err-print_item-clause-err
returns-in_err-print_item-clause-err g c =
    then_failed c.from_residual.result _ _ _ _ c.loop-k.invariant c.in_err-print_item.ensures.err

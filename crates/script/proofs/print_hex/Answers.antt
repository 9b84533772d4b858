use Rattle.shell.proofs.Grown.{then_failed}
use Rattle.script.proofs.PrintedLaws.{more_hex}
use Rattle.script.proofs.print_hex.Goals as goal

pub loop-byte-preserved : goal.loop-byte-preserved
loop-byte-preserved g c =
    more_hex _ _ _ c.args.bytes.now c.loop-byte.byte-index c.loop-byte-test.true c.loop-byte.invariant
    c.in_ok-print_byte.ensures.ok

pub returns-in_err-print_byte-clause-err : goal.returns-in_err-print_byte-clause-err
returns-in_err-print_byte-clause-err g c =
    then_failed c.from_residual.result _ _ _ _ c.loop-byte.invariant c.in_err-print_byte.ensures.err

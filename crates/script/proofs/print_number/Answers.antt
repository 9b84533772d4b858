use Rattle.std.proofs.Common.{arith}
use Rattle.std.proofs.lemmas.Fmt.{length-decimal-le}
use Rattle.script.proofs.print_number.Goals as goal

pub put_digits-n-requires : goal.put_digits-n-requires
put_digits-n-requires g c = length-decimal-le 20 c.args.number (omega arith) (omega arith) (omega arith)

-- The recursive call puts the digits of a tenth in front, and the last digit goes behind them.
use Rattle.std.proofs.Common.{length, arith, ap, sym}
use Rattle.std.proofs.lemmas.Fmt.{decimal_digit}
use Rattle.script.proofs.PrintedLaws.{one_digit, more_digits, tenth_length}
use Rattle.script.proofs.+put_digits.Goals as goal

pub bounds-out-0 : goal.bounds-out-0
bounds-out-0 t c = omega (arith, c.requires, ap length (decimal_digit c.args.number c.if-number-lt10.true))

pub returns-then-number-lt10-clause-size : goal.returns-then-number-lt10-clause-size
returns-then-number-lt10-clause-size t c = sym (ap length (decimal_digit c.args.number c.if-number-lt10.true))

pub returns-then-number-lt10-clause-digits : goal.returns-then-number-lt10-clause-digits
returns-then-number-lt10-clause-digits t c =
    one_digit c.args.out.now c.args.number c.if-number-lt10.true
    (omega (arith, c.requires, ap length (decimal_digit c.args.number c.if-number-lt10.true)))

pub put_digits-n-requires : goal.put_digits-n-requires
put_digits-n-requires t c =
    omega (arith, c.requires, tenth_length c.args.number c.if-number-lt10.false (omega arith))

pub bounds-out-n : goal.bounds-out-n
bounds-out-n t c =
    omega (
      arith,
      c.requires,
      c.put_digits-n.ensures.size,
      c.put_digits-n.auto.out,
      tenth_length c.args.number c.if-number-lt10.false (omega arith),
    )

pub returns-clause-size : goal.returns-clause-size
returns-clause-size t c =
    omega (arith, c.put_digits-n.ensures.size, tenth_length c.args.number c.if-number-lt10.false (omega arith))

pub returns-clause-digits : goal.returns-clause-digits
returns-clause-digits t c =
    more_digits c.put_digits-n.new.out c.args.number c.put_digits-n.result c.if-number-lt10.false (omega arith)
    (omega (
      arith,
      c.requires,
      c.put_digits-n.ensures.size,
      c.put_digits-n.auto.out,
      tenth_length c.args.number c.if-number-lt10.false (omega arith),
    ))
    c.put_digits-n.ensures.digits

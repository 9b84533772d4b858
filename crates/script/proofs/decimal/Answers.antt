use Rattle.std.proofs.Common.{◌+◌, ◌-◌, ◌*◌, ◌%◌, ◌∙◌, sym, get_or, arith}
use Rattle.script.proofs.NumberLaws.{digit_read, no_digit, text_ends}
use Rattle.script.proofs.decimal.Goals as goal

pub loop-i-preserved : goal.loop-i-preserved
loop-i-preserved c =
    let digit = get_or c.args.text.now c.loop-i.i 0 - 48 in
    c.loop-i.invariant
    ∙ digit_read c.args.text.now c.loop-i.i c.loop-i.value ((c.loop-i.value * 10 % 4294967296 + digit) % 4294967296)
    (omega arith) (sym c.is_ascii_digit.ensures.value ∙ c.if-not-is_ascii_digit.false) (omega arith)

pub returns-then-not-is_ascii_digit : goal.returns-then-not-is_ascii_digit
returns-then-not-is_ascii_digit c =
    omega (
      arith,
      c.loop-i.invariant,
      no_digit c.args.text.now c.loop-i.i c.loop-i.value (omega arith)
          (sym c.is_ascii_digit.ensures.value ∙ c.if-not-is_ascii_digit.true),
    )

pub returns : goal.returns
returns c = omega (arith, c.loop-i.invariant, text_ends c.args.text.now c.loop-i.i c.loop-i.value (omega arith))

-- What is written before the last digit is what the recursive call writes.
-- Assumes nothing.
use Rattle.std.proofs.Common.{ap, arith, length}
use Rattle.text.proofs.Laws.{decimal_small, tenth_room, last_room, last_digit}
use Rattle.text.proofs.Page.+decimal.Goals as goal

pub byte-requires : goal.byte-requires
byte-requires t c = omega (arith, ap length (decimal_small c.args.n c.if-n-lt10.true))

pub returns-then-n-lt10 : goal.returns-then-n-lt10
returns-then-n-lt10 t c = rw (decimal_small c.args.n c.if-n-lt10.true) c.byte.ensures

pub decimal-requires : goal.decimal-requires
decimal-requires t c = (omega arith, search tenth_room)

pub byte-requires-2 : goal.byte-requires-2
byte-requires-2 t c = search last_room

pub returns : goal.returns
returns t c = search last_digit

-- Four numbers, each right after the one before.
-- Assumes nothing.
use Rattle.std.proofs.Common.{arith, rules}
use Rattle.listing.proofs.LineLaws.{room, first_line_lem}
use Rattle.listing.proofs.lines.put_first_line.Goals as goal

pub put_number-requires : goal.put_number-requires
put_number-requires c = room _ _ _ (omega arith)

pub put_number-requires-2 : goal.put_number-requires-2
put_number-requires-2 c = room _ _ _ (omega arith)

pub put_number-requires-3 : goal.put_number-requires-3
put_number-requires-3 c = room _ _ _ (omega arith)

pub put_number-requires-4 : goal.put_number-requires-4
put_number-requires-4 c = room _ _ _ (omega arith)

pub returns : goal.returns
returns c = search (rules, first_line_lem)

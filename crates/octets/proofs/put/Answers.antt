-- `octets::put` meets its contract: the number's bytes are those of what is left of it,
-- followed by what is written from the cursor on.
-- Assumes nothing.
use native.Mathlib.Omega.{arith}
use lib.ListN.{length-set}
use Rattle.octets.proofs.Cursors.{put_none, put_one, put_two, put_three, put_four}
use Rattle.octets.proofs.put.Goals as goal

pub returns-then-size-lt1 : goal.returns-then-size-lt1
returns-then-size-lt1 c = search put_none

pub returns-then-size-lt2 : goal.returns-then-size-lt2
returns-then-size-lt2 c = search put_one

pub bounds-part-size-2 : goal.bounds-part-size-2
bounds-part-size-2 c = simp length-set (omega arith)

pub returns-then-size-lt3 : goal.returns-then-size-lt3
returns-then-size-lt3 c = search put_two

pub bounds-part-size-3 : goal.bounds-part-size-3
bounds-part-size-3 c = simp length-set (omega arith)

pub returns-then-size-lt4 : goal.returns-then-size-lt4
returns-then-size-lt4 c = search put_three

pub bounds-part-size-4 : goal.bounds-part-size-4
bounds-part-size-4 c = simp length-set (omega arith)

pub returns : goal.returns
returns c = search put_four

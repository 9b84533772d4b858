-- `octets::copy` meets its contract: what is written, followed by what is left to copy, makes up the bytes given.
-- Assumes nothing.
use mathlib.Core.Path.{sym, ◌∙◌}
use native.Mathlib.Omega.{arith}
use borrow.Author.Rules.{rules}
use lib.ListN.{length-set}
use Rattle.octets.proofs.Cursors.{copy_turn, copy_end}
use Rattle.octets.proofs.copy.Goals as goal

pub loop-i-preserved : goal.loop-i-preserved
loop-i-preserved c = let l = c.loop-i in
    (simp length-set (search rules), l.invariant.1 ∙ copy_turn l.part _ l.i (omega arith) (omega arith))

pub returns : goal.returns
returns c = let l = c.loop-i in
    sym (l.invariant.1 ∙ copy_end l.part _ l.i (omega arith) (omega arith))

-- `heads::written::put_opening` meets its contract: a number and three bytes, one after the other.
-- Assumes nothing.
use lib.ListN.{length-set}
use borrow.Author.Rules.{rules}
use Rattle.heads.proofs.WrittenLaws.{opening_put}
use Rattle.heads.proofs.written.put_opening.Goals as goal

pub bounds-part-5 : goal.bounds-part-5
bounds-part-5 c = simp length-set (search rules)

pub bounds-part-6 : goal.bounds-part-6
bounds-part-6 c = simp length-set (search rules)

pub returns : goal.returns
returns c = search opening_put

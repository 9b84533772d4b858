-- `heads::whole::front_form` meets its contract: all of the bytes where they hold no form in
-- full, else as many as the length says.
-- Assumes nothing.
use native.Mathlib.Omega.{arith}
use mathlib.Core.Path.{sym}
use lib.Seq.{length-take-le}
use borrow.Author.Rules.{rules}
use Rattle.heads.proofs.Fronts.{front_all, front_is}
use Rattle.heads.proofs.whole.front_form.Goals as goal

pub returns-then-forms-lt4 : goal.returns-then-forms-lt4
returns-then-forms-lt4 c = front_all _ (omega arith)

pub returns-then-forms-size : goal.returns-then-forms-size
returns-then-forms-size c = front_all _ (omega arith)

pub slice_bounds-result-end : goal.slice_bounds-result-end
slice_bounds-result-end c = sym (length-take-le _ _ (search rules))

pub returns : goal.returns
returns c = front_is _ _ c.get_at.ensures.0

-- `heads::whole::is_under` meets its contract: X decides, then Y.
-- Assumes nothing.
use mathlib.Core.Path.{sym}
use Rattle.heads.proofs.Forms.{other_x, own_x}
use Rattle.heads.proofs.whole.is_under.Goals as goal

pub returns-then-form-x : goal.returns-then-form-x
returns-then-form-x c = let a = c.args in
    sym (other_x a.x a.y a.form.now c.if-form-x.true)

pub returns : goal.returns
returns c = let a = c.args in
    sym (own_x a.x a.y a.form.now c.if-form-x.false)

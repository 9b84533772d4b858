-- `heads::whole::is_whole` meets its contract: each answer from the tests that lead there.
-- Assumes nothing.
use native.Mathlib.Omega.{arith}
use Rattle.heads.proofs.WholeLaws.{short, other, fills}
use Rattle.heads.proofs.whole.is_whole.Goals as goal

pub returns-then-form-lt4 : goal.returns-then-form-lt4
returns-then-form-lt4 c = short _ _ (omega arith)

pub returns-then-form-after : goal.returns-then-form-after
returns-then-form-after c = other _ _ (omega arith) _ c.get_at-after.ensures.0 (omega arith)

pub returns : goal.returns
returns c = fills _ _ (omega arith) _ c.get_at-after.ensures.0 (omega arith)

-- `elements::dat_rule` meets its contract: 12 if the rule is broken.
-- Assumes nothing.
use mathlib.Core.Path.{sym}
use Rattle.elements.proofs.dat_rule.Goals as goal

pub returns-then-is_stale : goal.returns-then-is_stale
returns-then-is_stale c = rw c.if-is_stale.true at (sym c.is_stale.ensures)

pub returns : goal.returns
returns c = rw c.if-is_stale.false at (sym c.is_stale.ensures)

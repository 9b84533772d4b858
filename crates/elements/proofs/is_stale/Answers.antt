-- `elements::is_stale` meets its contract: DAT is 1, or no bit is, or the kind decides.
-- Assumes nothing.
use Rattle.elements.proofs.Answers.{current, without_data, by_layout}
use Rattle.elements.proofs.is_stale.Goals as goal

pub returns-then-word-eq1 : goal.returns-then-word-eq1
returns-then-word-eq1 c = search current

pub returns-then-word-eq0 : goal.returns-then-word-eq0
returns-then-word-eq0 c = search without_data

pub returns : goal.returns
returns c = by_layout _ _ c.layout.ensures c.if-word-eq1.false c.if-word-eq0.false

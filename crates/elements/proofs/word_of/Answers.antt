-- `elements::word_of` meets its contract: the state's values composed by the rows of its kind.
-- Assumes nothing.
use mathlib.Core.Path.{◌∙◌}
use Rattle.elements.proofs.Answers.{whole, small}
use Rattle.elements.proofs.word_of.Goals as goal

pub compose_rows-requires : goal.compose_rows-requires
compose_rows-requires c = search small

pub returns : goal.returns
returns c = c.compose_rows.ensures ∙ search whole

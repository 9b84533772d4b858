-- `panel::place::word_at` meets its contract: the number of the element's bytes.
-- Assumes nothing.
use Rattle.forms.proofs.ElementPlaces.{element_inside}
use borrow.Author.Rules.{rules}
use Rattle.panel.proofs.place.word_at.Goals as goal

pub get_at-requires : goal.get_at-requires
get_at-requires c = search (element_inside, rules)

-- `forms::list::check_list_under` meets its contract: each return is what the tests so far decide.
-- Assumes nothing.
use mathlib.Core.Path.{ap, ◌∙◌}
use borrow.Author.Rules.{rules}
use Rattle.std.specs.Prelude.{Err}
use Rattle.tables.proofs.AnswerLaws.{no, yes}
use Rattle.heads.proofs.Forms.{long_enough, list_room}
use Rattle.forms.proofs.ListAnswers.{not_whole, other_version, not_under, by_entries}
use Rattle.forms.proofs.list.check_list_under.Goals as goal

pub returns-then-not-is_whole : goal.returns-then-not-is_whole
returns-then-not-is_whole c = ap Err c.refused.ensures ∙ search (not_whole, no)

pub bounds-list-4 : goal.bounds-list-4
bounds-list-4 c = search (long_enough, rules)

pub returns-then-list-ne1 : goal.returns-then-list-ne1
returns-then-list-ne1 c = ap Err c.refused-then-list-ne1.ensures ∙ search (other_version, yes)

pub is_under-requires : goal.is_under-requires
is_under-requires c = search (long_enough, rules)

pub returns-then-not-is_under : goal.returns-then-not-is_under
returns-then-not-is_under c = ap Err c.refused-then-not-is_under.ensures ∙ search (not_under, yes, no)

pub entry_count-requires : goal.entry_count-requires
entry_count-requires c = search (list_room, rules)

pub entries_of-requires : goal.entries_of-requires
entries_of-requires c = search (list_room, rules)

pub returns : goal.returns
returns c = c.check_entries.ensures ∙ search (by_entries, yes)

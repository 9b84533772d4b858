-- `tables::table::read_table` meets its contract: each answer from the tests that lead there.
-- Assumes nothing.
use native.Mathlib.Omega.{arith}
use mathlib.Core.Path.{ap, ◌∙◌}
use Rattle.std.specs.Prelude.{Err}
use Rattle.tables.proofs.AnswerLaws.{no, yes}
use Rattle.heads.proofs.Forms.{long_enough, table_room}
use Rattle.tables.proofs.TableLaws.{table_1, table_2, table_3, table_4, table_rest}
use borrow.Author.Rules.{rules}
use Rattle.tables.proofs.table.read_table.Goals as goal

pub returns-then-not-is_whole : goal.returns-then-not-is_whole
returns-then-not-is_whole c = ap Err c.refused.ensures ∙ table_1 _ (search (rules, no))

pub bounds-table-4 : goal.bounds-table-4
bounds-table-4 c = search (long_enough, rules)

pub returns-then-not-is_table_version : goal.returns-then-not-is_table_version
returns-then-not-is_table_version c =
    ap Err c.refused-then-not-is_table_version.ensures ∙ table_2 _ (search (rules, yes)) (search (rules, no))

pub bounds-table-5 : goal.bounds-table-5
bounds-table-5 c = search (long_enough, rules)

pub bounds-table-6 : goal.bounds-table-6
bounds-table-6 c = search (long_enough, rules)

pub returns-then-not-is_catalogue : goal.returns-then-not-is_catalogue
returns-then-not-is_catalogue c =
    ap Err c.refused-then-not-is_catalogue.ensures
    ∙ table_3 _ (search (rules, yes)) (search (rules, yes)) (search (rules, no))

pub object_count-count-requires : goal.object_count-count-requires
object_count-count-requires c = search (table_room, rules)

pub returns-then-count-gt-MOST_OBJECTS : goal.returns-then-count-gt-MOST_OBJECTS
returns-then-count-gt-MOST_OBJECTS c = ap Err c.refused-then-count-gt-MOST_OBJECTS.ensures
    ∙ table_4 _ (search (rules, yes)) (search (rules, yes)) (search (rules, yes)) _
    c.object_count-count.ensures (omega arith)

pub check_objects-requires : goal.check_objects-requires
check_objects-requires c = search (table_room, rules)

pub returns : goal.returns
returns c = table_rest _ (search (rules, yes)) (search (rules, yes)) (search (rules, yes)) _
    c.object_count-count.ensures (omega arith) _ c.check_objects.ensures

-- `tables::place::label_place` meets its contract: the table's answer, then 13, then the label's place.
-- Assumes nothing.
use native.Mathlib.Omega.{arith}
use mathlib.Core.Path.{sym, ◌∙◌}
use Rattle.tables.proofs.AnswerLaws.{passed_on}
use Rattle.tables.proofs.TableLaws.{passed, head_given, entry_at}
use Rattle.tables.proofs.LabelPlaceLaws.{label_table, label_none, label_found}
use borrow.Author.Rules.{rules}
use Rattle.tables.proofs.place.label_place.Goals as goal

pub returns-in_err-read_table : goal.returns-in_err-read_table
returns-in_err-read_table c =
    label_table _ _ (sym c.in_err-read_table.was ∙ c.read_table.ensures) (passed_on _ c.from_residual.ensures.1)

pub object_count-requires : goal.object_count-requires
object_count-requires c = head_given _ (passed _ c.read_table.ensures c.in_ok-read_table.was)

pub returns-then-object_count-index : goal.returns-then-object_count-index
returns-then-object_count-index c =
    label_none _ _ (passed _ c.read_table.ensures c.in_ok-read_table.was) (omega arith) _ c.refused_at.ensures

pub overflow_add-offset : goal.overflow_add-offset
overflow_add-offset c =
    omega (
      arith,
      entry_at _ (passed _ c.read_table.ensures c.in_ok-read_table.was) _ _ c.entry_place-at.ensures (omega arith),
    )

pub overflow_add-at : goal.overflow_add-at
overflow_add-at c =
    omega (
      arith,
      entry_at _ (passed _ c.read_table.ensures c.in_ok-read_table.was) _ _ c.entry_place-at.ensures (omega arith),
    )

pub byte_at-size-requires : goal.byte_at-size-requires
byte_at-size-requires c =
    omega (
      arith,
      entry_at _ (passed _ c.read_table.ensures c.in_ok-read_table.was) _ _ c.entry_place-at.ensures (omega arith),
    )

pub returns : goal.returns
returns c =
    label_found _ _ (passed _ c.read_table.ensures c.in_ok-read_table.was) (omega arith) _ c.entry_place-at.ensures _
    (search rules)

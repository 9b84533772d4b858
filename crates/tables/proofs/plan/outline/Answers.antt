-- `tables::plan::outline` meets its contract: the table's refusals, then what its bytes give.
-- Assumes nothing.
use native.Mathlib.Omega.{arith}
use mathlib.Core.Path.{sym, ◌∙◌}
use Rattle.tables.proofs.AnswerLaws.{passed_on}
use Rattle.tables.proofs.TableLaws.{passed, head_given, inside_given, count_given}
use Rattle.tables.proofs.PlanLaws.{plan_refused}
use Rattle.tables.proofs.plan.outline.Goals as goal

pub returns-in_err-read_table : goal.returns-in_err-read_table
returns-in_err-read_table c = passed_on _ c.from_residual.ensures.1
    ∙ plan_refused _ (sym c.in_err-read_table.was ∙ c.read_table.ensures)

pub bounds-table-5 : goal.bounds-table-5
bounds-table-5 c = inside_given _ (passed _ c.read_table.ensures c.in_ok-read_table.was) 5 (omega arith)

pub bounds-table-6 : goal.bounds-table-6
bounds-table-6 c = inside_given _ (passed _ c.read_table.ensures c.in_ok-read_table.was) 6 (omega arith)

pub object_count-count-requires : goal.object_count-count-requires
object_count-count-requires c = head_given _ (passed _ c.read_table.ensures c.in_ok-read_table.was)

pub hold-requires : goal.hold-requires
hold-requires c = record {
  count_few = count_given _ (passed _ c.read_table.ensures c.in_ok-read_table.was) _ c.object_count-count.ensures;
  rest_alike = c.kinds_in-kinds.ensures.rest;
}

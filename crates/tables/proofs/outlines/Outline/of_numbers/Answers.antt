-- `tables::outlines::Outline::of_numbers` meets its contract. The invariant: the first kinds are those of the numbers
-- passed.
-- Assumes nothing.
use mathlib.Core.Path.{◌∙◌}
use Rattle.kinds.specs.declared.Kind.{Kind}
use Rattle.tables.proofs.PlanLaws.{turned_none, turned_more, turned_all}
use Rattle.tables.proofs.outlines.Outline.of_numbers.Goals as goal

pub loop-i-init : goal.loop-i-init
loop-i-init c = turned_none c.args.numbers.now Kind.Signal

pub loop-i-preserved : goal.loop-i-preserved
loop-i-preserved c =
    turned_more c.loop-i.invariant c.requires c.loop-i-test.true _ c.kind_numbered.ensures

pub returns : goal.returns
returns c = c.of_kinds.ensures ∙ turned_all _ _ c.loop-i.invariant c.loop-i-test.false c.loop-i.auto.i-end

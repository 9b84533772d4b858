-- `tables::plan::kinds_in` meets its contract. The invariant: the kinds of the objects passed are in the first places.
-- Assumes nothing.
use mathlib.Core.Path.{refl}
use lib.ListN.{length-replicate}
use Rattle.kinds.specs.declared.Kind.{Kind}
use Rattle.tables.proofs.TableLaws.{two_there, type_there}
use Rattle.tables.proofs.PlanLaws.{begin, turn, all_filled, left_alike}
use Rattle.tables.proofs.plan.kinds_in.Goals as goal

pub loop-i-init : goal.loop-i-init
loop-i-init c =
    begin _ _ _ _ c.requires.0 c.requires.1 c.objects_place-at.ensures
    (length-replicate {A = Kind} 1024 Kind.Signal) refl

pub bounds-table-at : goal.bounds-table-at
bounds-table-at c = search type_there

pub entry_size-at-requires : goal.entry_size-at-requires
entry_size-at-requires c = search two_there

pub loop-i-preserved : goal.loop-i-preserved
loop-i-preserved c =
    turn c.loop-i.invariant c.loop-i-test.true _ c.kind_of.ensures _ c.entry_size-at.ensures.0

pub returns : goal.returns
returns c = record { plan = search all_filled; rest = search left_alike }

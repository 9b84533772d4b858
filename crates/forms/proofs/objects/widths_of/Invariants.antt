-- `forms::objects::widths_of` meets its contract: the widths so far and those to come make up the sum.
-- Assumes nothing.
use Prim.Native.Nat.{◌+◌, ◌*◌, ◌≤◌}
use mathlib.Core.Path.{◌≡◌}
use lib.ListN.{drop}
use Rattle.history.specs.Image.{widths}
use Rattle.forms.proofs.objects.widths_of.Given as goal

abbrev pub invariant-loop-kind : goal.invariant-loop-kind
invariant-loop-kind l = record {
  small : l.sum ≤ 4 * l.kind-index;
  rest : l.sum + widths (drop l.kind-index l.kinds) ≡ widths l.kinds;
}

-- Two outcomes of one request are equal: the check of a table, and a label's place.
-- Assumes nothing.
use Prim.Native.Nat.{ℕ}
use mathlib.Core.Path.{◌≡◌}
use mathlib.Core.List.{List}
use Rattle.std.specs.Prelude.{Result}
use Rattle.history.specs.declared.Answer.{Answer}
use Rattle.history.specs.Calls.{table_call}
use Rattle.history.proofs.OneOutcome.{one_outcome, Tells}
use Rattle.tables.specs.declared.place.LabelAt.{LabelAt}
use Rattle.tables.specs.LabelPlaces.{LabelFound}

module _ (T : List ℕ) where
  pub one_table_check : {r r' : Answer} → Tells (table_call T) r → Tells (table_call T) r' → r ≡ r'
  one_table_check = one_outcome

  pub one_label_place : (i : ℕ) {r r' : Result LabelAt Answer} → LabelFound T i r → LabelFound T i r' → r ≡ r'
  one_label_place i p q = one_outcome p.whole q.whole

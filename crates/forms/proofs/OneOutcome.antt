-- Two outcomes of one request are equal: for the checks of an image and of a list.
-- Assumes nothing.
use Prim.Native.Nat.{ℕ}
use mathlib.Core.Path.{◌≡◌}
use mathlib.Core.List.{List}
use Rattle.history.specs.declared.Answer.{Answer}
use Rattle.history.specs.Calls.{image_call, list_call}
use Rattle.history.proofs.OneOutcome.{one_outcome, Tells}

module _ (T : List ℕ) {r r' : Answer} where
  pub one_image_check : (A : List ℕ) → Tells (image_call T A) r → Tells (image_call T A) r' → r ≡ r'
  one_image_check A = one_outcome

  pub one_list_check : (L : List ℕ) → Tells (list_call T L) r → Tells (list_call T L) r' → r ≡ r'
  one_list_check L = one_outcome

-- Two outcomes of one request are equal: the numbers and the final output of each of the four calls.
-- Assumes nothing.
use Prim.Native.Nat.{ℕ}
use mathlib.Core.Path.{◌≡◌}
use mathlib.Core.List.{List}
use Rattle.history.specs.declared.Answer.{Answer}
use Rattle.history.specs.Verdict.{Leaves}
use Rattle.history.specs.Calls.{difference_call, apply_call, join_call, turn_call}
use Rattle.history.proofs.OneOutcome.{one_pair}

module _ (T out : List ℕ) {r r' : Answer} {m m' : List ℕ} where
  pub one_difference : (A B : List ℕ) → Leaves (difference_call T A B) out r m
      → Leaves (difference_call T A B) out r' m'
      → (r ≡ r') × (m ≡ m')
  one_difference A B = one_pair

  pub one_apply : (A L : List ℕ) → Leaves (apply_call T A L) out r m → Leaves (apply_call T A L) out r' m'
      → (r ≡ r') × (m ≡ m')
  one_apply A L = one_pair

  pub one_join : (L M : List ℕ) → Leaves (join_call T L M) out r m → Leaves (join_call T L M) out r' m'
      → (r ≡ r') × (m ≡ m')
  one_join L M = one_pair

  pub one_turn : (L : List ℕ) → Leaves (turn_call T L) out r m → Leaves (turn_call T L) out r' m' → (r ≡ r') × (m ≡ m')
  one_turn L = one_pair

-- Two outcomes of one request are equal: the state read and its numbers; a write's numbers and final output.
-- Assumes nothing.
use Prim.Native.Nat.{ℕ}
use mathlib.Core.Path.{◌≡◌}
use mathlib.Core.List.{List}
use Rattle.std.specs.Prelude.{Result}
use Rattle.kinds.specs.declared.Element.{Element}
use Rattle.history.specs.declared.Answer.{Answer}
use Rattle.history.specs.Verdict.{Leaves}
use Rattle.history.specs.Calls.{write_state_call}
use Rattle.history.proofs.OneOutcome.{one_outcome, one_pair}
use Rattle.panel.specs.Readings.{answer_in}
use Rattle.panel.proofs.Demands.{Read}

module _ (T A : List ℕ) (i : ℕ) where
  pub one_reading : {s s' : Result Element Answer} → Read T A i s → Read T A i s' → s ≡ s'
  one_reading = one_outcome

  pub one_write : (e : Element) (position : ℕ) (out : List ℕ) {r r' : Answer} {m m' : List ℕ}
      → Leaves (write_state_call T A i e position) out r m → Leaves (write_state_call T A i e position) out r' m'
      → (r ≡ r') × (m ≡ m')
  one_write e position out = one_pair

pub one_answer : (s : Result Element Answer) {r r' : Answer} → r ≡ answer_in s → r' ≡ answer_in s → r ≡ r'
one_answer s = one_outcome

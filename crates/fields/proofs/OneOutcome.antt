-- Two outcomes of one request are equal: a state read as numbers; a write's numbers and final output.
-- Assumes nothing.
use Prim.Native.Nat.{ℕ}
use mathlib.Core.Path.{◌≡◌}
use mathlib.Core.List.{List}
use Rattle.std.specs.Prelude.{Result}
use Rattle.history.specs.declared.Answer.{Answer}
use Rattle.history.specs.Verdict.{Leaves}
use Rattle.history.specs.Calls.{read_state_call}
use Rattle.history.proofs.OneOutcome.{one_outcome, one_pair}
use Rattle.panel.specs.Readings.{reading_of}
use Rattle.fields.specs.declared.Plain.{Plain}
use Rattle.fields.specs.PlainFields.{plain_of}
use Rattle.fields.specs.Calls.{write_fields_call}

module _ (T A : List ℕ) (i : ℕ) where
  pub one_fields_read : {r r' : Result Plain Answer} → r ≡ plain_of (reading_of (read_state_call T A i))
      → r' ≡ plain_of (reading_of (read_state_call T A i)) → r ≡ r'
  one_fields_read = one_outcome

  pub one_fields_write : (number : ℕ) (fields : List ℕ) (position : ℕ) (out : List ℕ) {r r' : Answer} {m m' : List ℕ}
      → Leaves (write_fields_call T A i number fields position) out r m
      → Leaves (write_fields_call T A i number fields position) out r' m' → (r ≡ r') × (m ≡ m')
  one_fields_write number fields position out = one_pair

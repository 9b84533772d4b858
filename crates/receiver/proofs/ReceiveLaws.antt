-- What `receive` ensures is the outcome of `receive_call`, so every law of `history` about received lists holds of it.
-- Assumes nothing.
use Prim.Native.Nat.{ℕ}
use mathlib.Core.Path.{◌≡◌, refl, ap, ◌∙◌}
use mathlib.Core.List.{List}
use Rattle.history.specs.declared.Answer.{Answer}
use Rattle.history.specs.Verdict.{Leaves}
use Rattle.history.specs.declared.Standing.{Standing}
use Rattle.history.specs.Calls.{apply_call}
use Rattle.history.specs.Standing.{counted, Received, receive_call}
use Rattle.receiver.specs.declared.Taken.{Taken}
use Rattle.receiver.specs.Receive.{answer_of, output_of, standing_of, taken_of}

module _ (t a l out : List ℕ) (s : Standing) where
  pub answer_is : answer_of t a l out ≡ (receive_call t a l out s).answer
  unfolding answer_of receive_call
  answer_is = refl

  output_is : output_of t a l out ≡ (receive_call t a l out s).output
  unfolding output_of receive_call
  output_is = refl

  standing_is : standing_of t a l out s ≡ (receive_call t a l out s).standing
  unfolding standing_of
  standing_is = refl

  -- what `received` gives, from what the application leaves
  pub taken_is : {r : Answer} {m : List ℕ} {k : Standing} → Leaves (apply_call t a l) out r m → k ≡ counted r.code s
      → (◌≡◌ {A = Taken} (record { answer = r; standing = k }) (taken_of t a l out s)) × (m ≡ output_of t a l out)
  unfolding answer_of output_of standing_of receive_call
  taken_is e q =
      (λ i. record { answer = e.0 i; standing = (q ∙ ap (λ (r : Answer). counted r.code s) e.0) i }, e.1)

  -- the outcome of a call, from what `receive` ensures
  pub outcome : {r : Answer} {m : List ℕ} {k : Standing} → r ≡ answer_of t a l out → m ≡ output_of t a l out
      → k ≡ standing_of t a l out s
      → ◌≡◌ {A = Received} (record { answer = r; output = m; standing = k }) (receive_call t a l out s)
  outcome e f g = λ i. record { answer = (e ∙ answer_is) i; output = (f ∙ output_is) i; standing = (g ∙ standing_is) i }

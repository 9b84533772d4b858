-- The receive call's outcome: the answer, the output and the standing of `receive_call`.
use Rattle.std.specs.Prelude.{ℕ, List}
use Rattle.history.specs.declared.Answer.{Answer}
use Rattle.history.specs.declared.Standing.{Standing}
use Rattle.history.specs.Verdict.{settled}
use Rattle.history.specs.Calls.{apply_call}
use Rattle.history.specs.Standing.{receive_call}
use Rattle.receiver.specs.declared.Taken.{Taken}

-- the answer and the output do not depend on the standing (proofs/ReceiveLaws)
unfoldable pub answer_of : List ℕ → List ℕ → List ℕ → List ℕ → Answer
answer_of T A L out = (settled (apply_call T A L) out).answer

unfoldable pub output_of : List ℕ → List ℕ → List ℕ → List ℕ → List ℕ
output_of T A L out = (settled (apply_call T A L) out).output

unfoldable pub standing_of : List ℕ → List ℕ → List ℕ → List ℕ → Standing → Standing
standing_of T A L out s = (receive_call T A L out s).standing

abbrev pub taken_of : List ℕ → List ℕ → List ℕ → List ℕ → Standing → Taken
taken_of T A L out s = record { answer = answer_of T A L out; standing = standing_of T A L out s }

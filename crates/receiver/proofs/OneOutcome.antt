-- Two outcomes of one receive call, or of one backlog, are equal: the numbers, what is taken, the final output and the
-- final standing, lent or by value.
-- Assumes nothing.
use Prim.Native.Nat.{ℕ}
use mathlib.Core.Path.{◌≡◌}
use mathlib.Core.List.{List}
use Rattle.history.specs.declared.Answer.{Answer}
use Rattle.history.specs.declared.Standing.{Standing}
use Rattle.history.specs.Standing.{fresh}
use Rattle.history.proofs.OneOutcome.{one_outcome, one_pair}
use Rattle.receiver.specs.declared.Taken.{Taken}
use Rattle.history.specs.Backlog.{Backlog, backlog_call}
use Rattle.receiver.specs.declared.Progress.{Progress}
use Rattle.receiver.specs.declared.Advance.{Advance}
use Rattle.receiver.specs.Receive.{answer_of, output_of, standing_of, taken_of}
use Rattle.receiver.specs.Backlogs.{progress_of, Advances}

module _ (T A L out : List ℕ) (s : Standing) where
  -- what `receive` and `received` ensure
  abbrev pub Receives : Answer → List ℕ → Standing → Type 0
  Receives r m k = (r ≡ answer_of T A L out) × ((m ≡ output_of T A L out) × (k ≡ standing_of T A L out s))

  abbrev pub Takes : Taken → List ℕ → Type 0
  Takes r m = (r ≡ taken_of T A L out s) × (m ≡ output_of T A L out)

  pub one_receive : {r r' : Answer} {m m' : List ℕ} {k k' : Standing} → Receives r m k → Receives r' m' k'
      → (r ≡ r') × ((m ≡ m') × (k ≡ k'))
  one_receive p q = (one_outcome p.0 q.0, one_pair p.1 q.1)

  pub one_received : {r r' : Taken} {m m' : List ℕ} → Takes r m → Takes r' m' → (r ≡ r') × (m ≡ m')
  one_received = one_pair

-- what `receive_backlog` ensures; `backlog_received` ensures `Advances` of the same
abbrev pub Progresses : Backlog → Progress → List ℕ → Standing → Type 0
Progresses g r m k = (r ≡ progress_of g) × ((m ≡ g.output) × (k ≡ g.standing))

module _ (T A b out : List ℕ) (s : Standing) {m m' : List ℕ} where
  pub one_backlog : {r r' : Progress} {k k' : Standing} → Progresses (backlog_call T A b out s) r m k
      → Progresses (backlog_call T A b out s) r' m' k' → (r ≡ r') × ((m ≡ m') × (k ≡ k'))
  one_backlog p q = (one_outcome p.0 q.0, one_pair p.1 q.1)

  pub one_backlog_received : {r r' : Advance} → Advances (backlog_call T A b out s) r m
      → Advances (backlog_call T A b out s) r' m' → (r ≡ r') × (m ≡ m')
  one_backlog_received = one_pair

pub one_fresh : {s s' : Standing} → s ≡ fresh → s' ≡ fresh → s ≡ s'
one_fresh = one_outcome

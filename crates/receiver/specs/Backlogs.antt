-- A backlog's outcome as the code returns it: the answer and the number taken, beside the standing.
use Rattle.std.specs.Prelude.{ℕ, ◌≡◌, List}
use Rattle.history.specs.declared.Standing.{Standing}
use Rattle.history.specs.Backlog.{Backlog, backlog_call}
use Rattle.receiver.specs.declared.Progress.{Progress}
use Rattle.receiver.specs.declared.Advance.{Advance}

abbrev pub progress_of : Backlog → Progress
progress_of g = record { answer = g.answer; taken = g.taken }

abbrev pub advance_of : Backlog → Advance
advance_of g = record { progress = progress_of g; standing = g.standing }

-- what is returned, and what is left in the output
abbrev pub Advances : Backlog → Advance → List ℕ → Type 0
Advances g r m = (r ≡ advance_of g) × (m ≡ g.output)

-- the call's, for the walk of `receive_backlog`
abbrev pub backlog_advance : List ℕ → List ℕ → List ℕ → List ℕ → Standing → Advance
backlog_advance T A b out s = advance_of (backlog_call T A b out s)

abbrev pub backlog_output : List ℕ → List ℕ → List ℕ → List ℕ → Standing → List ℕ
backlog_output T A b out s = (backlog_call T A b out s).output

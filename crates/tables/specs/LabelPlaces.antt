-- A label request as the code answers it: where the label is, or the numbers of the refusal.
use Rattle.std.specs.Prelude.{ℕ, ◌+◌, ◌≤◌, ◌≡◌, List, length, Result, Ok, Err}
use Rattle.history.specs.declared.Answer.{Answer}
use Rattle.history.specs.Verdict.{Verdict, given}
use Rattle.history.specs.Calls.{Place, label_call}
use Rattle.tables.specs.declared.place.LabelAt.{LabelAt}

-- a place as the code has it
abbrev pub label_at : Place → LabelAt
label_at p = record { offset = p.offset; size = p.size }

unfoldable pub label_told : Verdict Place → Result LabelAt Answer
label_told v = given label_at v

-- the bytes are inside the table
abbrev pub Inside : List ℕ → Result LabelAt Answer → Type 0
Inside b (Ok l) = l.offset + l.size ≤ length b
Inside b (Err a) = Unit {0}

-- the whole outcome, and what callers rely on
pub record LabelFound (b : List ℕ) (i : ℕ) (r : Result LabelAt Answer) : Type 0 where
  pub whole : r ≡ label_told (label_call b i)
  pub inside : Inside b r

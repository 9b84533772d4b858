-- "A whole backlog in one call": lists that lie end to end in one slice. "The outcome, tallies included, equals
-- receiving them in turn up to the first that is refused; the rest is not looked at." Over raw bytes, as the calls are.
use Rattle.std.specs.Prelude.{ℕ, suc, cond, List, [], ◌∷◌, ◌++◌, leb, length, drop}
use Rattle.history.specs.declared.Answer.{Answer}
use Rattle.history.specs.declared.Standing.{Standing}
use Rattle.history.specs.Verdict.{Refused, decide, numbers, unnamed}
use Rattle.history.specs.Form.{forms_in}
use Rattle.history.specs.Table.{Plan}
use Rattle.history.specs.Image.{read_image}
use Rattle.history.specs.Calls.{read_plan, apply_under}
use Rattle.history.specs.Standing.{counted}

-- the numbers, how many lists were taken, the output and the standing
pub record Backlog : Type 0 where
  pub answer : Answer
  pub taken : ℕ
  pub output : List ℕ
  pub standing : Standing

abbrev pub outcome : Answer → ℕ → List ℕ → Standing → Backlog
outcome r n m s = record { answer = r; taken = n; output = m; standing = s }

-- "the output holds the image after those (the given one if none), and length is its length, also when a later list was
-- refused": A is the image after n lists, and r refuses the next, which is counted
abbrev pub ended : List ℕ → Standing → ℕ → Refused → Backlog
ended A s n r = outcome (numbers r (length A)) n A (counted r.code s)

-- lists in turn into the image A, n being taken already. "Each list looked at counts as one receive call"; "an empty
-- slice succeeds with 0 taken"; "remaining bytes that don't hold one full list are 1 for that list", by its own check
abbrev pub take_lists : Plan → List ℕ → List (List ℕ) → Standing → ℕ → Backlog
take_lists p A [] s n = outcome (unnamed 0 (length A)) n A s
take_lists p A (L ∷ Ls) s n =
    decide (apply_under p A L) (ended A s n) λ B. take_lists p B Ls (counted 0 s) (suc n)

-- the image is the front of the output; the rest stays
abbrev pub in_front : List ℕ → Backlog → Backlog
in_front out g = outcome g.answer g.taken (g.output ++ drop (length g.output) out) g.standing

-- nothing is taken, written or counted
abbrev pub nothing_taken : List ℕ → Standing → Answer → Backlog
nothing_taken out s r = outcome r 0 out s

-- "table, image and then room for the image (21) come first, write nothing, take 0 and change no tally"
unfoldable pub backlog_under : Plan → List ℕ → List ℕ → List ℕ → Standing → Backlog
backlog_under p A b out s =
    decide (read_image p A) (λ r. nothing_taken out s (numbers r 0))
    λ a.
    cond (leb (length A) (length out)) (in_front out (take_lists p A (forms_in b) s 0))
    (nothing_taken out s (unnamed 21 (length A)))

unfoldable pub backlog_call : List ℕ → List ℕ → List ℕ → List ℕ → Standing → Backlog
backlog_call T A b out s =
    decide (read_plan T) (λ r. nothing_taken out s (numbers r 0)) λ p. backlog_under p A b out s

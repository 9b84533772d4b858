-- "The receiver applies a list and keeps a standing of four tallies, lent to the call and updated there: applied, late
-- (16), gap (17), other. Each receive call adds 1 to exactly one, refusals too; a tally at 4,294,967,295 stays."
use Rattle.std.specs.Prelude.{ℕ, ◌+◌, ◌<◌, cond, List, [], ◌∷◌, eqb, ltb}
use Rattle.history.specs.declared.Answer.{Answer}
use Rattle.history.specs.declared.Standing.{Standing}
use Rattle.history.specs.Verdict.{Outcome, settled}
use Rattle.history.specs.Calls.{apply_call}

unfoldable pub fresh : Standing
fresh = record { applied = 0; late = 0; gap = 0; other = 0 }

abbrev pub full : ℕ
full = 4294967295

-- a tally counted once more; a full one stays
abbrev pub one_more : ℕ → ℕ
one_more n = cond (ltb n full) (n + 1) n

-- the four tallies in the paper's order
abbrev pub tallies_of : Standing → List ℕ
tallies_of s = s.applied ∷ s.late ∷ s.gap ∷ s.other ∷ []

pub data Tally : Type 0 where
  Applied : Tally
  Late : Tally
  Gap : Tally
  Other : Tally

-- which tally counts an answer's code: 0 applied, 16 late, 17 gap, any other code other
abbrev pub tally_of : ℕ → Tally
tally_of code = cond (eqb code 0) Applied (cond (eqb code 16) Late (cond (eqb code 17) Gap Other))

abbrev pub one_more_on : Tally → Standing → Standing
one_more_on Applied s = record { applied = one_more s.applied; late = s.late; gap = s.gap; other = s.other }
one_more_on Late s = record { applied = s.applied; late = one_more s.late; gap = s.gap; other = s.other }
one_more_on Gap s = record { applied = s.applied; late = s.late; gap = one_more s.gap; other = s.other }
one_more_on Other s = record { applied = s.applied; late = s.late; gap = s.gap; other = one_more s.other }

unfoldable pub counted : ℕ → Standing → Standing
counted code s = one_more_on (tally_of code) s

pub record Received : Type 0 where
  pub answer : Answer
  pub output : List ℕ
  pub standing : Standing

unfoldable pub receive_call : List ℕ → List ℕ → List ℕ → List ℕ → Standing → Received
receive_call T A L out s =
    let o : Outcome = settled (apply_call T A L) out in
    record { answer = o.answer; output = o.output; standing = counted o.answer.code s }

-- ---- "While none has reached it, the four sum to the receive calls since fresh."

pub record NoneFull (s : Standing) : Type 0 where
  pub applied : s.applied < full
  pub late : s.late < full
  pub gap : s.gap < full
  pub other : s.other < full

abbrev pub total : Standing → ℕ
total s = s.applied + s.late + s.gap + s.other

-- The eight numbers of a call: code, object, bit, length, a place kept for a value, which is 0 for now, then what the
-- call adds, then zeros. Also the fields of a state that is read, and a standing from its tallies.
use Rattle.std.specs.Prelude.{ℕ, ◌≡◌, cond, List, [], ◌∷◌, ltb, get_or, Result, Ok, Err}
use Rattle.kinds.specs.declared.Element.{Element}
use Rattle.history.specs.Verdict.{Verdict, refused, done, unnamed, settled}
use Rattle.history.specs.declared.Answer.{Answer}
use Rattle.history.specs.declared.Standing.{Standing}
use Rattle.tables.specs.declared.place.LabelAt.{LabelAt}
use Rattle.fields.specs.declared.Plain.{Plain}
use Rattle.fields.specs.PlainFields.{fields_of}
use Rattle.history.specs.Standing.{full}
use Rattle.receiver.specs.declared.Progress.{Progress}

abbrev pub slots : Answer → ℕ → ℕ → List ℕ
slots a sixth seventh = a.code ∷ a.object ∷ a.bit ∷ a.length ∷ 0 ∷ sixth ∷ seventh ∷ 0 ∷ []

unfoldable pub answer_slots : Answer → List ℕ
answer_slots a = slots a 0 0

-- what a call that writes leaves: the eight numbers ns, and m for the output that was out
abbrev pub LeavesSlots : Verdict (List ℕ) → List ℕ → List ℕ → List ℕ → Type 0
LeavesSlots v out ns m = (ns ≡ answer_slots (settled v out).answer) × (m ≡ (settled v out).output)

-- the sixth is the state's kind; 0 if reading is refused
unfoldable pub read_slots : Result Plain Answer → List ℕ
read_slots (Ok r) = slots (unnamed 0 0) r.kind 0
read_slots (Err a) = slots a 0 0

-- the fields at the end: those of the state that was read, or as they were
unfoldable pub fields_after : Verdict Element → List ℕ → List ℕ
fields_after (refused r) fields = fields
fields_after (done state) fields = (fields_of state).fields

-- the sixth and the seventh are the label's first byte in the table and its size; 0 and 0 if the request is refused
unfoldable pub label_slots : Result LabelAt Answer → List ℕ
label_slots (Ok l) = slots (unnamed 0 0) l.offset l.size
label_slots (Err a) = slots a 0 0

-- the sixth is how many lists were taken; a number that 32 bits don't hold is the highest that they do
abbrev pub capped : ℕ → ℕ
capped n = cond (ltb n full) n full

unfoldable pub progress_slots : Progress → List ℕ
progress_slots r = slots r.answer (capped r.taken) 0

-- a standing from its four tallies
abbrev pub standing_in : List ℕ → Standing
standing_in tallies =
    record {
      applied = get_or tallies 0 0;
      late = get_or tallies 1 0;
      gap = get_or tallies 2 0;
      other = get_or tallies 3 0;
    }

-- "Every call gives code, object, bit, length. Success: 0, 65535, 255, bytes written (0 where none). Refusal: the code;
-- object and bit as named, else 65535 and 255; length 0 except code 21." "Success writes the front of the output; the
-- rest stays. Refusal writes no output." (A backlog's list that is refused does both otherwise: Backlog.)
use Rattle.std.specs.Prelude.{ℕ, Bool, true, false, cond, ◌≡◌, List, ◌++◌, leb, length, drop}
use Rattle.std.specs.Prelude.{Result, Ok, Err}
use Rattle.history.specs.declared.Answer.{Answer}

-- a refusal: its code, and the object and the bit that it names
pub record Refused : Type 0 where
  pub code : ℕ
  pub object : ℕ
  pub bit : ℕ

abbrev pub naming : ℕ → ℕ → ℕ → Refused
naming code object bit = record { code = code; object = object; bit = bit }

-- what a call finds: a refusal, or the value
pub data Verdict (A : Type 0) : Type 0 where
  refused : Refused → Verdict A
  done : A → Verdict A

-- goes on with the value; a refusal stays
abbrev pub then : {A B : Type 0} → Verdict A → (A → Verdict B) → Verdict B
then (refused r) next = refused r
then (done a) next = next a

-- what follows a refusal, or the value
abbrev pub decide : {A B : Type 0} → Verdict A → (Refused → B) → (A → B) → B
decide (refused r) stop next = stop r
decide (done a) stop next = next a

-- the value; where it is refused, what there was before
abbrev pub value_or : {A : Type 0} → A → Verdict A → A
value_or before v = decide v (λ r. before) λ a. a

-- a refusal that names nothing (65535, 255); one that names an object
abbrev pub refusal : {A : Type 0} → ℕ → Verdict A
refusal code = refused (naming code 65535 255)

abbrev pub refusal_at : {A : Type 0} → ℕ → ℕ → Verdict A
refusal_at code object = refused (naming code object 255)

-- the refusal, unless the test holds; then the rest decides
infixr 5 ◌unless◌⨾◌
abbrev pub ◌unless◌⨾◌ : {A : Type 0} → Verdict A → Bool → Verdict A → Verdict A
r unless true ⨾ rest = rest
r unless false ⨾ rest = r

-- ---- the numbers that a call returns, and the output it leaves

abbrev pub numbers : Refused → ℕ → Answer
numbers r n = record { code = r.code; object = r.object; bit = r.bit; length = n }

-- the numbers when nothing is named
abbrev pub unnamed : ℕ → ℕ → Answer
unnamed code n = numbers (naming code 65535 255) n

-- an answer with another length
abbrev pub of_length : ℕ → Answer → Answer
of_length n r = record { code = r.code; object = r.object; bit = r.bit; length = n }

-- a call that writes nothing: success is 0, 65535, 255, 0
unfoldable pub told : {A : Type 0} → Verdict A → Answer
told (refused r) = numbers r 0
told (done a) = unnamed 0 0

pub record Outcome : Type 0 where
  pub answer : Answer
  pub output : List ℕ

-- a call that writes: at the end 21 (too little room), with the length needed
unfoldable pub settled : Verdict (List ℕ) → List ℕ → Outcome
settled (refused r) out = record { answer = numbers r 0; output = out }
settled (done b) out =
    cond (leb (length b) (length out))
    (record { answer = unnamed 0 (length b); output = b ++ drop (length b) out })
    (record { answer = unnamed 21 (length b); output = out })

-- a call that writes returns the numbers r, and leaves m in the output that was out
abbrev pub Leaves : Verdict (List ℕ) → List ℕ → Answer → List ℕ → Type 0
Leaves v out r m = (r ≡ (settled v out).answer) × (m ≡ (settled v out).output)

-- ---- the same between the floors, where the caller goes on after an `Ok`

-- what f makes of the value, or the numbers of the refusal
abbrev pub given : {A B : Type 0} → (A → B) → Verdict A → Result B Answer
given f (refused r) = Err (numbers r 0)
given f (done a) = Ok (f a)

-- a check
abbrev pub checked : {A : Type 0} → Verdict A → Result (Unit {0}) Answer
checked v = given (λ a. tt) v

-- what is written: how many bytes, or the numbers of a refusal, or of 21
unfoldable pub put : Verdict (List ℕ) → List ℕ → Result ℕ Answer
put (refused r) out = Err (numbers r 0)
put (done b) out = cond (leb (length b) (length out)) (Ok (length b)) (Err (unnamed 21 (length b)))

-- a step that writes gives r, and leaves m in the output that was out
abbrev pub Puts : Verdict (List ℕ) → List ℕ → Result ℕ Answer → List ℕ → Type 0
Puts v out r m = (r ≡ put v out) × (m ≡ (settled v out).output)

-- the four numbers of either
abbrev pub numbers_of : Result ℕ Answer → Answer
numbers_of (Ok n) = unnamed 0 n
numbers_of (Err a) = a

abbrev pub check_numbers : Result (Unit {0}) Answer → Answer
check_numbers (Ok u) = unnamed 0 0
check_numbers (Err a) = a

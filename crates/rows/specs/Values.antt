-- An element's fields, from bit 0 up: a field's value by its row, the refusals 10 and 11, and
-- the number composed of values.
use Rattle.std.specs.Prelude.{Bool, true, false, cond, List, [], ◌∷◌, ◌++◌, ℕ, zero, suc, ◌+◌, ◌-◌, ◌*◌, ◌/◌, ◌%◌, ◌^◌}
use Rattle.std.specs.Prelude.{leb, eqb, length, replicate, Result, Ok, Err}
use Rattle.rows.specs.Rows.{Row, row_at, number_at}
use Rattle.rows.specs.declared.Refusal.{Refusal}

-- the value of a row's field in the number w: bit k weighs 2^k, the highest bit of a field is its most significant
abbrev pub field_of : ℕ → Row → ℕ
field_of w r = w / 2 ^ r.low % 2 ^ r.width

abbrev pub code_at : ℕ → ℕ → Refusal
code_at code bit = record { code = code; bit = bit }

-- what is found of an element: accepted, or refused
abbrev pub Finding : Type 0
Finding = Result (Unit {0}) Refusal

-- one field: its value, or 10 (reserved bit 1) or 11 (value not listed) with the field's lowest bit
abbrev pub field_read : ℕ → Row → Result ℕ Refusal
field_read w r =
    cond (leb (field_of w r) r.top)
    (Ok (field_of w r))
    (Err (code_at (cond (eqb r.top 0) 10 11) r.low))

-- a refused field is the answer at once
abbrev pub on_field : Result ℕ Refusal → Finding → Finding
on_field (Ok v) rest = rest
on_field (Err r) rest = Err r

-- the fields from bit 0 up: the first that is refused
abbrev pub check_rows : ℕ → List Row → Finding
check_rows w [] = Ok tt
check_rows w (r ∷ rs) = on_field (field_read w r) (check_rows w rs)

-- the rows that the check of a number reads: at most n from row i on, as long as they have the layout's number
abbrev pub bearing : ℕ → ℕ → ℕ → List Row
bearing number i zero = []
bearing number i (suc n) = cond (eqb (number_at i) number) (row_at i ∷ bearing number (suc i) n) []

abbrev pub values_of : ℕ → List Row → List ℕ
values_of w [] = []
values_of w (r ∷ rs) = field_of w r ∷ values_of w rs

-- the number whose fields, by the rows, are the values
abbrev pub compose_of : List Row → List ℕ → ℕ
compose_of [] vs = 0
compose_of (r ∷ rs) [] = 0
compose_of (r ∷ rs) (v ∷ vs) = v * 2 ^ r.low + compose_of rs vs

-- the values in the first of n places and zeros after them; an element has 24 places
abbrev pub filled : ℕ → List ℕ → List ℕ
filled n vs = vs ++ replicate (n - length vs) 0

abbrev pub padded : List ℕ → List ℕ
padded vs = filled 24 vs

abbrev pub on_finding : {A : Type 0} → Finding → A → (Refusal → A) → A
on_finding (Ok tt) good bad = good
on_finding (Err r) good bad = bad r

-- the values as they are read: all zeros if a field is refused
abbrev pub values_read : ℕ → List Row → List ℕ
values_read w rs = on_finding (check_rows w rs) (padded (values_of w rs)) (λ r. replicate 24 0)

-- a bit as a number
abbrev pub bit_no : Bool → ℕ
bit_no true = 1
bit_no false = 0

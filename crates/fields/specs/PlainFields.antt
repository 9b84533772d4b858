-- A state's fields as numbers: the values of fields that are not reserved, from bit 0 up, in
-- the first of 32 places, then zeros.
use Rattle.std.specs.Prelude.{ℕ, cond, List, [], ◌∷◌, leb, eqb, length, get_or, drop, Result, Ok, Err}
use Rattle.rows.specs.Rows.{Row}
use Rattle.rows.specs.Values.{Finding, code_at, filled, padded}
use Rattle.kinds.specs.Kinds.{layout_no, rows_of, kind_in, element_values}
use Rattle.kinds.specs.declared.Kind.{Kind}
use Rattle.kinds.specs.declared.Element.{Element}
use Rattle.history.specs.declared.Answer.{Answer}
use Rattle.fields.specs.declared.Plain.{Plain}
use Rattle.fields.specs.declared.by_rows.Shown.{Shown}

-- ---- handed out

-- the values of the rows that are not reserved, from those of all rows
abbrev pub shown : List Row → List ℕ → List ℕ
shown [] vs = []
shown (r ∷ rs) [] = []
shown (r ∷ rs) (v ∷ vs) = cond (eqb r.top 0) (shown rs vs) (v ∷ shown rs vs)

abbrev pub shown_in : List Row → List ℕ → Shown
shown_in rs vs = record { count = length (shown rs vs); fields = filled 32 (shown rs vs) }

abbrev pub fields_of : Element → Shown
fields_of e = shown_in (rows_of (kind_in e)) (padded (element_values e))

-- a state as numbers
unfoldable pub shown_plain : Element → Plain
shown_plain e =
    record { kind = layout_no (kind_in e); count = (fields_of e).count; fields = (fields_of e).fields }

-- a refused reading gives the refusal's numbers and no state
unfoldable pub plain_of : Result Element Answer → Result Plain Answer
plain_of (Ok e) = Ok (shown_plain e)
plain_of (Err answer) = Err answer

-- ---- handed in

-- the values of all rows, from the fields handed in: 0 for reserved rows
abbrev pub spread : List Row → List ℕ → List ℕ
spread [] fields = []
spread (r ∷ rs) fields = cond (eqb r.top 0) (0 ∷ spread rs fields) (get_or fields 0 0 ∷ spread rs (drop 1 fields))

abbrev pub values_in : Kind → List ℕ → List ℕ
values_in k fields = padded (spread (rows_of k) fields)

-- the first value that has no named case: 11, with the field's lowest bit
abbrev pub check_named : List Row → List ℕ → Finding
check_named [] vs = Ok tt
check_named (r ∷ rs) [] = Ok tt
check_named (r ∷ rs) (v ∷ vs) = cond (leb v r.top) (check_named rs vs) (Err (code_at 11 r.low))

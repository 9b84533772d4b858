-- Which types are carried, the check of an element (fields from bit 0 up, then 12), and a state as a number and back.
use Rattle.std.specs.Prelude.{Bool, cond, ℕ, ◌%◌, eqb, Option, is_some, Ok, Err}
use Rattle.std.specs.Option.{unwrap_or}
use Rattle.rows.specs.Values.{Finding, code_at, check_rows, values_of, compose_of, padded, on_finding, values_read}
use Rattle.kinds.specs.Kinds.{layout_of, layout_no, rows_of, find_by_number, element_of, element_values, kind_in}
use Rattle.kinds.specs.declared.Kind.{Kind}
use Rattle.kinds.specs.declared.Element.{Element}
use Rattle.elements.specs.Types.{find_by_type}

-- ---- what is carried

-- the kind; of what is not carried, one that means nothing
abbrev pub carried_kind : Option Kind → Kind
carried_kind s = unwrap_or s Kind.Signal

-- whether a type is carried under a catalogue's X, and its kind
unfoldable pub carried : ℕ → ℕ → Bool
carried x type = is_some (find_by_type x type)

unfoldable pub kind_of : ℕ → ℕ → Kind
kind_of x type = carried_kind (find_by_type x type)

-- the kind whose layout has a number
unfoldable pub kind_numbered : ℕ → Kind
kind_numbered n = carried_kind (find_by_number n)

abbrev pub same_kind : Kind → Kind → Bool
same_kind j k = eqb (layout_no j) (layout_no k)

-- ---- the check of an element

-- where DAT is 0, all other bits must be 0; a kind without DAT has no such rule
unfoldable pub dat_rule : Kind → ℕ → Finding
dat_rule k w =
    cond (layout_of k).dat
    (cond (eqb (w % 2) 1) (Ok tt) (cond (eqb w 0) (Ok tt) (Err (code_at 12 0))))
    (Ok tt)

-- fields from bit 0 up, then 12
unfoldable pub element_check : Kind → ℕ → Finding
element_check k w = on_finding (check_rows w (rows_of k)) (dat_rule k w) Err

-- ---- states

-- the state of an accepted number
unfoldable pub state_of : Kind → ℕ → Element
state_of k w = element_of k (padded (values_of w (rows_of k)))

-- the number of a state
unfoldable pub word_of : Element → ℕ
word_of e = compose_of (rows_of (kind_in e)) (element_values e)

-- the state that is read from any number: zeros if a field is refused; of an accepted number it is `state_of`
unfoldable pub state_read : Kind → ℕ → Element
state_read k w = element_of k (values_read w (rows_of k))

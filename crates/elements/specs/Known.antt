-- Known elements: those that the paper marks P, each with its type, its bytes and what is found.
use Rattle.std.specs.Prelude.{List, [], ◌∷◌, map, ℕ, length, Ok, Err}
use Rattle.octets.specs.Octets.{number}
use Rattle.rows.specs.Values.{Finding, code_at}
use Rattle.kinds.specs.Kinds.{width_of}
use Rattle.kinds.specs.declared.Kind.{Kind}
use Rattle.elements.specs.Elements.{kind_of, element_check}

pub record Known : Type 0 where
  pub type : ℕ
  pub element : List ℕ
  pub finding : Finding

abbrev accepted : ℕ → List ℕ → Known
accepted type element = record { type = type; element = element; finding = (Ok tt) }

abbrev refused : ℕ → List ℕ → ℕ → ℕ → Known
refused type element code bit = record { type = type; element = element; finding = Err (code_at code bit) }

-- 1 is SIG, 2 IC, 3 PV, 4 CV, 22 AVG, 23 FRA
abbrev pub known : List Known
known =
    accepted 2 (0x03 ∷ []) ∷
    refused 2 (0x02 ∷ []) 12 0 ∷
    refused 2 (0x09 ∷ []) 10 3 ∷
    refused 2 (0x08 ∷ []) 10 3 ∷
    refused 3 (0x07 ∷ []) 11 1 ∷
    accepted 4 (0x10 ∷ 0x01 ∷ []) ∷
    refused 4 (0x14 ∷ 0x01 ∷ []) 11 10 ∷
    accepted 1 (0x00 ∷ 0x00 ∷ 0x01 ∷ 0xB5 ∷ []) ∷
    refused 1 (0x00 ∷ 0x00 ∷ 0x01 ∷ 0xD5 ∷ []) 11 4 ∷
    accepted 22 (0x01 ∷ 0x00 ∷ []) ∷
    refused 22 (0x01 ∷ 0x80 ∷ []) 11 7 ∷
    accepted 23 (0x01 ∷ 0x81 ∷ []) ∷
    refused 23 (0x00 ∷ 0x1D ∷ []) 11 2 ∷
    []

-- the kind that a type has in catalogue 1.0
abbrev pub kind_is : Known → Kind
kind_is e = kind_of 1 e.type

-- what the element check finds of each, and what the paper says
abbrev pub findings : List Known → List Finding
findings = map (λ (e : Known). element_check (kind_is e) (number e.element))

abbrev pub said : List Known → List Finding
said = map (λ (e : Known). e.finding)

-- how wide an element of its type is, and how many bytes the paper prints
abbrev pub wide : List Known → List ℕ
wide = map (λ (e : Known). width_of (kind_is e))

abbrev pub printed_widths : List Known → List ℕ
printed_widths = map (λ (e : Known). length e.element)

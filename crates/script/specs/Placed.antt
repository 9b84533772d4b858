-- What is read from a line.
use Rattle.std.specs.Prelude.{◌≡◌, ◌≢◌, ℕ, ◌*◌, ◌+◌, ◌<◌, ◌≤◌, List, length, take, drop, get_or, slice_index, ◌⊎◌}
use Rattle.std.specs.List.{flat_map}
use Rattle.script.specs.Printed.{hex_digit, hex_byte}

-- a byte is at no place from one place to another
abbrev pub IsNotIn : List ℕ → ℕ → ℕ → ℕ → Type 0
IsNotIn text from to byte = (k : ℕ) → from ≤ k → k < to → slice_index text k ≢ byte

-- the word is in the line from a place on
abbrev pub IsAt : List ℕ → ℕ → List ℕ → Type 0
IsAt line at word = (at + length word ≤ length line) × (take (length word) (drop at line) ≡ word)

-- a place right behind the name, or the line's end
abbrev pub IsValuePlace : List ℕ → List ℕ → ℕ → Type 0
IsValuePlace line name place = (place ≡ length line) ⊎ ((at : ℕ) × (place ≡ at + length name) × IsAt line at name)

-- the name doesn't end before the place
abbrev pub IsFirst : List ℕ → List ℕ → ℕ → Type 0
IsFirst line name place = (k : ℕ) → 0 < length name → k + length name < place → IsAt line k name → ⊥

-- the line doesn't have the name
abbrev pub IsUnnamed : List ℕ → List ℕ → Type 0
IsUnnamed line name = (k : ℕ) → 0 < length name → IsAt line k name → ⊥

-- a place right behind the first name
abbrev pub IsFirstValue : List ℕ → List ℕ → ℕ → Type 0
IsFirstValue line name place =
    ((at : ℕ) × (place ≡ at + length name) × IsAt line at name) × IsFirst line name place

-- the value of a digit is none but this, or there is none
abbrev pub IsNoDigit : ℕ → Type 0
IsNoDigit byte = (d : ℕ) → d < 16 → hex_digit d ≢ byte

abbrev pub IsOnlyDigit : ℕ → ℕ → Type 0
IsOnlyDigit byte d = (e : ℕ) → e < 16 → hex_digit e ≡ byte → d ≡ e

-- the bytes stand in the text in hex from a place on
abbrev pub IsHexAt : List ℕ → ℕ → List ℕ → Type 0
IsHexAt text from bytes = flat_map hex_byte bytes ≡ take (2 * length bytes) (drop from text)

-- two hex digits stand in the text at a place
pub record HasHex (text : List ℕ) (at : ℕ) : Type 0 where
  pub high : ℕ
  pub low : ℕ
  pub room : at + 2 ≤ length text
  pub high_few : high < 16
  pub low_few : low < 16
  pub high_is : hex_digit high ≡ get_or text at 0
  pub low_is : hex_digit low ≡ get_or text (at + 1) 0

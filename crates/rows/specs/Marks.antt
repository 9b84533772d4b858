-- A glance at all fields of a number at once. Each row that doesn't admit every value of its field has two marks: what
-- is added to the field, so that a value that isn't listed carries out of it, and the bit that it then carries into.
-- A shortcut of the code, nothing to believe.
use Rattle.std.specs.Prelude.{◌≡◌, Bool, true, ◌&&◌, ◌||◌, List, [], ◌∷◌, ℕ, suc, ◌+◌, ◌/◌, ◌%◌, ◌^◌, eqb, Ok}
use Rattle.std.specs.Int.Bits.{bit_and, bit_xor}
use Rattle.rows.specs.Rows.{Row}
use Rattle.rows.specs.Values.{check_rows}

-- the row admits every value that its field can hold
abbrev pub admits_all : Row → Bool
admits_all r = eqb (suc r.top) (2 ^ r.width)

-- a row's marks: the highest listed value plus what is added fills the field, and the bit above the field is marked
abbrev pub marks : ℕ → ℕ → Row → Bool
marks add carry r =
    eqb (suc (add / 2 ^ r.low % 2 ^ r.width + r.top)) (2 ^ r.width) && eqb (carry / 2 ^ (r.width + r.low) % 2) 1

abbrev pub marked : ℕ → ℕ → List Row → Bool
marked add carry [] = true
marked add carry (r ∷ rs) = (admits_all r || marks add carry r) && marked add carry rs

-- nothing is carried into a marked bit
unfoldable pub carries_none : ℕ → ℕ → ℕ → Bool
carries_none add carry w = eqb (bit_and (bit_xor (bit_xor (w + add) w) add) carry) 0

-- what a glance says: that each field has a listed value, or nothing. One direction is enough:
-- where it says nothing, the rows decide.
pub record Shows (rs : List Row) (w : ℕ) (listed : Bool) : Type 0 where
  pub accepted : listed ≡ true → check_rows w rs ≡ Ok tt

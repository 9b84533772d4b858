-- What is printed: numbers in decimal, bytes in lower-case hex.
use Rattle.std.specs.Prelude.{ℕ, ◌+◌, ◌/◌, ◌%◌, List, [], ◌∷◌, ◌++◌, ◌==◌, length, if◌then◌else◌, nat_lt}
use Rattle.std.specs.Fmt.{decimal}
use Rattle.std.specs.List.{flat_map}

-- 0 to 9, then a to f
abbrev pub hex_digit : ℕ → ℕ
hex_digit d = if nat_lt d 10 then 48 + d else 87 + d

abbrev pub hex_byte : ℕ → List ℕ
hex_byte b = hex_digit (b / 16) ∷ hex_digit (b % 16) ∷ []

-- a dash for no bytes
abbrev pub hex_text : List ℕ → List ℕ
hex_text bs = if length bs == 0 then 45 ∷ [] else flat_map hex_byte bs

-- four numbers with spaces between
abbrev pub four_text : ℕ → ℕ → ℕ → ℕ → List ℕ
four_text code object bit size = decimal code ++ 32 ∷ decimal object ++ 32 ∷ decimal bit ++ 32 ∷ decimal size

-- a number and a comma before it
abbrev pub next_text : ℕ → List ℕ
next_text n = 44 ∷ decimal n

-- numbers with commas between
abbrev pub numbers_text : List ℕ → List ℕ
numbers_text [] = []
numbers_text (n ∷ ns) = decimal n ++ flat_map next_text ns

-- a number that k are before
abbrev pub item_text : ℕ → ℕ → List ℕ
item_text k n = if k == 0 then decimal n else next_text n

-- Numbers that are read: in decimal, up to the first byte that is no digit.
use Rattle.std.specs.Prelude.{◌≡◌, ℕ, zero, suc, ◌+◌, ◌-◌, ◌*◌, ◌%◌, ◌<◌, List, [], ◌∷◌, ◌==◌, length, drop, get_or}
use Rattle.std.specs.Prelude.{if◌then◌else◌, ◌⊎◌}
use Rattle.std.specs.Char.{is_ascii_digit}
use Rattle.script.specs.Placed.{IsUnnamed, IsFirstValue}

-- the number whose digits a text goes on with, after those of a number already read
abbrev pub number_after : ℕ → List ℕ → ℕ
number_after n [] = n
number_after n (b ∷ bs) = if is_ascii_digit b then number_after (n * 10 + (b - 48)) bs else n

-- the number from a place on; 0 if there are no digits
abbrev pub number_at : List ℕ → ℕ → ℕ
number_at text from = number_after 0 (drop from text)

-- the number that a line names, modulo 2^32; 0 if it names none
abbrev pub IsNumberOf : List ℕ → List ℕ → ℕ → Type 0
IsNumberOf line name r =
    (IsUnnamed line name × (r ≡ 0))
    ⊎ ((from : ℕ) × IsFirstValue line name from × (r ≡ number_at line from % 4294967296))

-- what is behind a text's first comma; nothing if it has none
abbrev pub behind_comma : List ℕ → List ℕ
behind_comma [] = []
behind_comma (b ∷ bs) = if b == 44 then bs else behind_comma bs

abbrev pub behind_commas : ℕ → List ℕ → List ℕ
behind_commas zero text = text
behind_commas (suc k) text = behind_comma (behind_commas k text)

-- the numbers are those that follow each other with commas between, modulo 2^32
abbrev pub AreNumbers : List ℕ → List ℕ → Type 0
AreNumbers text values =
    (k : ℕ) → k < length values → get_or values k 0 ≡ number_after 0 (behind_commas k text) % 4294967296

-- The paper's listing of its table and image A, and its refusal line where object 1's element is 09, printed and from
-- the call; a listing under catalogue 3.0; input that is too short, and two faults.
-- Assumes nothing.
use Prim.Native.Nat.{ℕ}
use mathlib.Core.Path.{◌≡◌, refl}
use mathlib.Core.List.{List, [], ◌∷◌, ◌++◌}
use lib.ListN.{take, set}
use Rattle.history.proofs.Examples.{computed}
use Rattle.history.specs.Verdict.{naming, refused, done}
use Rattle.history.proofs.Examples.{T, A, T3, A3}
use Rattle.text.specs.Decimal.{decimal_in, decimal}
use Rattle.text.specs.Hex.{hex_digit}
use Rattle.listing.specs.Listing.{read_both, read_panel, first_line, object_line, refused_line, listing_call, printed}
use Rattle.listing.specs.Listing.{listing_of}

-- "1.0 7 2", "0 4 AA:CV1 0001", "1 2 AA:S1 03", each with its newline
abbrev lines : List ℕ
lines =
    0x31 ∷ 0x2E ∷ 0x30 ∷ 0x20 ∷ 0x37 ∷ 0x20 ∷ 0x32 ∷ 0x0A
    ∷ 0x30 ∷ 0x20 ∷ 0x34 ∷ 0x20 ∷ 0x41 ∷ 0x41 ∷ 0x3A ∷ 0x43 ∷ 0x56 ∷ 0x31 ∷ 0x20 ∷ 0x30 ∷ 0x30 ∷ 0x30 ∷ 0x31 ∷ 0x0A
    ∷ 0x31 ∷ 0x20 ∷ 0x32 ∷ 0x20 ∷ 0x41 ∷ 0x41 ∷ 0x3A ∷ 0x53 ∷ 0x31 ∷ 0x20 ∷ 0x30 ∷ 0x33 ∷ 0x0A ∷ []

-- "refused 10 1 3" and its newline
abbrev refusal : List ℕ
refusal = 0x72 ∷ 0x65 ∷ 0x66 ∷ 0x75 ∷ 0x73 ∷ 0x65 ∷ 0x64 ∷ 0x20 ∷ 0x31 ∷ 0x30 ∷ 0x20 ∷ 0x31 ∷ 0x20 ∷ 0x33 ∷ 0x0A ∷ []

-- "3.0 7 2", "0 1 AA:S1 00000009", "1 2 AA:I1 03", each with its newline
abbrev new_lines : List ℕ
new_lines =
    0x33 ∷ 0x2E ∷ 0x30 ∷ 0x20 ∷ 0x37 ∷ 0x20 ∷ 0x32 ∷ 0x0A
    ∷ 0x30 ∷ 0x20 ∷ 0x31 ∷ 0x20 ∷ 0x41 ∷ 0x41 ∷ 0x3A ∷ 0x53 ∷ 0x31 ∷ 0x20 ∷ 0x30 ∷ 0x30 ∷ 0x30 ∷ 0x30 ∷ 0x30 ∷ 0x30 ∷
    0x30 ∷ 0x39 ∷ 0x0A
    ∷ 0x31 ∷ 0x20 ∷ 0x32 ∷ 0x20 ∷ 0x41 ∷ 0x41 ∷ 0x3A ∷ 0x49 ∷ 0x31 ∷ 0x20 ∷ 0x30 ∷ 0x33 ∷ 0x0A ∷ []

pub listings : (listing_of (T ++ A) ≡ lines)
    × (listing_of (T3 ++ A3) ≡ new_lines)
    × (listing_of (T ++ set A 13 9) ≡ refusal)
    × (listing_call (T ++ A) ≡ done lines)
    × (listing_call (T ++ set A 13 9) ≡ refused (naming 10 1 3))
    × (listing_call (take 23 T) ≡ refused (naming 1 65535 255))
unfolding computed decimal_in decimal hex_digit read_both read_panel first_line object_line refused_line listing_call
    printed listing_of
listings = (refl, refl, refl, refl, refl, refl)

-- "refused 1 65535 255" or "refused 3 65535 255", by the digit, with its newline
abbrev unnamed : ℕ → List ℕ
unnamed digit =
    0x72 ∷ 0x65 ∷ 0x66 ∷ 0x75 ∷ 0x73 ∷ 0x65 ∷ 0x64 ∷ 0x20 ∷ digit
    ∷ 0x20 ∷ 0x36 ∷ 0x35 ∷ 0x35 ∷ 0x33 ∷ 0x35 ∷ 0x20 ∷ 0x32 ∷ 0x35 ∷ 0x35 ∷ 0x0A ∷ []

-- three bytes, all but the table's last, the table alone; a table of catalogue 1.1 before an image that is cut;
-- no object
pub short_listings : (listing_of (take 3 T) ≡ unnamed 0x31)
    × (listing_of (take 23 T) ≡ unnamed 0x31)
    × (listing_of T ≡ unnamed 0x31)
    × (listing_of (set T 6 1 ++ take 3 A) ≡ unnamed 0x33)
    × (listing_of (0 ∷ 0 ∷ 0 ∷ 5 ∷ 1 ∷ 1 ∷ 0 ∷ 0 ∷ 0 ∷ 0 ∷ 0 ∷ 0 ∷ 7 ∷ 1 ∷ 1 ∷ 0 ∷ 0 ∷ 0 ∷ 1 ∷ 0 ∷ [])
    ≡ 0x31 ∷ 0x2E ∷ 0x30 ∷ 0x20 ∷ 0x32 ∷ 0x35 ∷ 0x36 ∷ 0x20 ∷ 0x30 ∷ 0x0A ∷ [])
unfolding computed decimal_in decimal hex_digit read_both read_panel first_line object_line refused_line listing_call
    printed listing_of
short_listings = (refl, refl, refl, refl, refl)

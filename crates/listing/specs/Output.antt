-- What is printed, in a lent buffer. Everything printed fits in 65,536 bytes. A shorter buffer stays as it was, and the
-- length is 0; no printed text has length 0 (proofs/Fits).
use Rattle.std.specs.Prelude.{ℕ, ◌≤◌, ◌≡◌, cond, List, ◌++◌, leb, length, drop}
use Rattle.listing.specs.Listing.{listing_of}

pub record Listed : Type 0 where
  pub size : ℕ
  pub output : List ℕ

-- the text in front, the rest as it was, and how long the text is
abbrev pub in_front : List ℕ → List ℕ → Listed
in_front text out = record { size = length text; output = text ++ drop (length text) out }

unfoldable pub listed : List ℕ → List ℕ → Listed
listed input out = cond (leb 65536 (length out)) (in_front (listing_of input) out) (record { size = 0; output = out })

-- the whole outcome, and for callers that the length is inside the buffer
pub record ListedInto (input out₀ out : List ℕ) (r : ℕ) : Type 0 where
  pub size : r ≡ (listed input out₀).size
  pub output : out ≡ (listed input out₀).output
  pub inside : r ≤ length out

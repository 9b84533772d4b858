-- What is written before a list's entries; and an image with a new position and new elements.
use Rattle.std.specs.Prelude.{ℕ, ◌+◌, List, [], ◌∷◌, ◌++◌, take}
use Rattle.octets.specs.Octets.{bytes}
use Rattle.history.specs.Changes.{list_version}

-- a list's first seven bytes, n being the bytes after the first four
unfoldable pub opening : ℕ → ℕ → ℕ → List ℕ
opening n x y = bytes 4 n ++ (list_version ∷ x ∷ y ∷ [])

-- a list's head, for `count` entries of `size` bytes together
unfoldable pub list_head : ℕ → ℕ → ℕ → ℕ → ℕ → ℕ → List ℕ
list_head x y from to count size = opening (13 + size) x y ++ (bytes 4 from ++ (bytes 4 to ++ bytes 2 count))

-- the image b with another position and other elements; its first seven bytes stay
unfoldable pub with_elements : List ℕ → ℕ → List ℕ → List ℕ
with_elements b position es = take 7 b ++ (bytes 4 position ++ es)

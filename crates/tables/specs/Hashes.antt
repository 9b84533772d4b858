-- Hashes of entries, by which repeats are found. A device of the code: no answer depends on them.
use Rattle.std.specs.Prelude.{ℕ, ◌+◌, ◌*◌, ◌%◌, Bool, true, false, List, [], ◌∷◌, Option, Some, None}

-- the hash h continued over more bytes
abbrev pub hash_from : ℕ → List ℕ → ℕ
hash_from h [] = h
hash_from h (b ∷ bs) = hash_from ((h * 9 + b) % 1024) bs

-- the hash of a type and a label
unfoldable pub hash_of : ℕ → List ℕ → ℕ
hash_of type label = hash_from (type % 1024) label

-- a label's test as the code returns it
unfoldable pub hashed : Bool → ℕ → Option ℕ
hashed false hash = None
hashed true hash = Some hash

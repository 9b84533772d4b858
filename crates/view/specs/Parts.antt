-- "Given an object number, the label is handed back as the very bytes of the lent table, not a copy. Refused label
-- requests give an empty part."
use Rattle.std.specs.Prelude.{ℕ, ◌+◌, ◌≡◌, List, length, take, drop}
use Rattle.std.specs.Borrow.{Bor}
use Rattle.history.specs.Verdict.{Verdict, refused, done}
use Rattle.history.specs.Table.{Table}
use Rattle.history.specs.Calls.{Place}

-- how many objects an accepted table has; else 0
unfoldable pub count_of : Verdict Table → ℕ
count_of (refused r) = 0
count_of (done t) = length t.objects

-- the label's place; for a refused request the empty place at the front
unfoldable pub given_place : Verdict Place → Place
given_place (refused r) = record { offset = 0; size = 0 }
given_place (done p) = p

-- r is the part of s at a place: in the same block of memory, at the offset, with the bytes there
pub record Part (s r : Bor (List ℕ)) (p : Place) : Type 0 where
  pub place : r.ref_ptr ≡ (s.ref_ptr.0, p.offset + s.ref_ptr.1)
  pub bytes : r.now ≡ take p.size (drop p.offset s.now)

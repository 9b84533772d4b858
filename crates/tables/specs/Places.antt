-- The table's entries by their places in the bytes, as a loop with a cursor walks them. A device of the proofs:
-- the meaning is in `history`.
use Rattle.std.specs.Prelude.{ℕ, zero, suc, ◌+◌, ◌&&◌, List, [], leb, length, get_or, take, drop}
use Rattle.history.specs.Verdict.{Verdict, done, refusal, refusal_at, ◌unless◌⨾◌}
use Rattle.elements.specs.Elements.{carried}
use Rattle.history.specs.Table.{Object, label_limit, label_good, read_objects}
use Rattle.heads.specs.Heads.{objects_place}
use Rattle.tables.specs.Hashes.{hash_of}

-- where object k's entry begins
unfoldable pub place_of : List ℕ → ℕ → ℕ
place_of b zero = objects_place
place_of b (suc k) = place_of b k + (2 + get_or b (place_of b k + 1) 0)

-- the entry at a place, except for repeats: 8 (two bytes missing), 5, 6 (length), 8 (label cut), 6 (bytes);
-- then where the next begins
unfoldable pub check_object_at : List ℕ → ℕ → ℕ → Verdict ℕ
check_object_at b at k =
    refusal 8 unless leb (at + 2) (length b) ⨾
    refusal_at 5 k unless carried (get_or b 5 0) (get_or b at 0) ⨾
    refusal_at 6 k unless leb 1 (get_or b (at + 1) 0) && leb (get_or b (at + 1) 0) (label_limit (get_or b 4 0)) ⨾
    refusal 8 unless leb (at + (2 + get_or b (at + 1) 0)) (length b) ⨾
    refusal_at 6 k unless label_good (take (get_or b (at + 1) 0) (drop (at + 2) b)) ⨾
    done (at + (2 + get_or b (at + 1) 0))

-- the hash of the entry at a place
unfoldable pub hash_at : List ℕ → ℕ → ℕ
hash_at b at = hash_of (get_or b at 0) (take (get_or b (at + 1) 0) (drop (at + 2) b))

-- the table's objects, as many as `count` says
unfoldable pub objects_in : List ℕ → ℕ → Verdict (List Object)
objects_in b count = read_objects (get_or b 4 0) (get_or b 5 0) [] count (drop objects_place b)

-- Labels, a byte at a time: what the loops over a label keep, and the label's test and hash from theirs.
-- Assumes nothing.
use Prim.Native.Nat.{ℕ, suc, ◌+◌, ◌-◌, ◌*◌, ◌%◌, ◌≤◌, ◌<◌}
use mathlib.Core.Path.{◌≡◌, refl, sym, ap, ◌∙◌}
use mathlib.Core.List.{List, [], ◌∷◌}
use mathlib.Core.Bool.{Bool, true, false, and-true, and-false}
use native.Mathlib.Numerals.{add-one}
use native.Mathlib.Omega.{arith}
use lib.ListN.{length, get_or, take, drop, drop_of_length-le}
use lib.Seq.{drop-cons}
use borrow.Author.Tests.{lt-leb, le-leb, lt-ltb, le-ltb, ltb-false}
use Rattle.std.specs.Prelude.{Option, Some, None, cond}
use Rattle.std.specs.Option.{unwrap_or}
use Rattle.std.specs.List.{position_or_len}
use Rattle.std.proofs.lemmas.List.Recursion.{is_position_or_len}
use lib.Dec.{eqb, ltb}
use Rattle.history.specs.Table.{printable, first_colon, label_good}
use Rattle.tables.specs.Places.{hash_at}
use Rattle.tables.specs.Hashes.{hash_from, hash_of, hashed}

-- what is left from a place inside: the byte there, then the rest
at_place : (l : List ℕ) (i : ℕ) → i < length l → drop i l ≡ get_or l i 0 ∷ drop (i + 1) l
at_place l i h = rw (add-one, drop-cons l i 0)

module _ (l : List ℕ) (i : ℕ) where
  module _ (inv : printable l ≡ printable (drop i l)) where
    pub print_end : length l ≤ i → printable l ≡ true
    print_end h = inv ∙ ap printable (drop_of_length-le l h)

    module _ (n : ℕ) (e : n ≡ get_or l i 0) (h : i < length l) where
      pub print_low : n < 33 → printable l ≡ false
      print_low m = inv ∙ ap printable (at_place l i h) ∙ rw (← e) (simp (lt-leb _ _ m))

      pub print_high : 126 < n → printable l ≡ false
      print_high m = inv ∙ ap printable (at_place l i h) ∙ rw (← e) (simp (le-leb 33 n (omega arith), lt-leb _ _ m))

      pub print_next : 33 ≤ n → n ≤ 126 → printable l ≡ printable (drop (i + 1) l)
      print_next m o = inv ∙ ap printable (at_place l i h) ∙ rw (← e) (simp (le-leb _ _ m, le-leb _ _ o))

  module _ (first hash : ℕ) (inv : hash_from first l ≡ hash_from hash (drop i l)) where
    pub hash_end : length l ≤ i → hash ≡ hash_from first l
    hash_end h = sym (inv ∙ ap (hash_from hash) (drop_of_length-le l h))

    pub hash_next : (n : ℕ) → n ≡ get_or l i 0 → i < length l
        → hash_from first l ≡ hash_from ((hash * 9 + n) % 1024) (drop (i + 1) l)
    hash_next n e h = rw e (inv ∙ ap (hash_from hash) (at_place l i h))

-- ---- a label's test as the code returns it

pub label_not : (good : Bool) (hash : ℕ) → good ≡ false → None ≡ hashed good hash
unfolding hashed
label_not good hash e = rw e

pub label_yes : (good : Bool) (hash h : ℕ) → good ≡ true → h ≡ hash → Some h ≡ hashed good hash
unfolding hashed
label_yes good hash h e f = rw e (ap Some f)

-- ---- the first colon

colon_is : (l : List ℕ) → first_colon l ≡ position_or_len (λ b. eqb b 58) l
colon_is l =
    is_position_or_len first_colon (λ b. eqb b 58) refl (λ x xs. ap (cond (eqb x 58) 0) (omega arith)) l

pub first_inside : (l : List ℕ) → first_colon l ≤ length l
first_inside [] = omega arith
first_inside (b ∷ bs) = go (eqb b 58) (first_inside bs)
  where
    go : (t : Bool) → first_colon bs ≤ length bs → cond t 0 (suc (first_colon bs)) ≤ suc (length bs)
    go true h = omega arith
    go false h = omega arith

-- what the search gives, or the length
pub colon_found : (l : List ℕ) {r : Option ℕ}
    → r ≡ cond (ltb (position_or_len (λ b. eqb b 58) l) (length l)) (Some (position_or_len (λ b. eqb b 58) l)) None
    → unwrap_or r (length l) ≡ first_colon l
colon_found l {r} e = go (ltb (first_colon l) (length l)) refl (rw (← colon_is l) at e)
  where
    go : (u : Bool) → ltb (first_colon l) (length l) ≡ u → r ≡ cond u (Some (first_colon l)) None
        → unwrap_or r (length l) ≡ first_colon l
    go true t f = rw f
    go false t f =
        let h : length l ≤ first_colon l = ltb-false _ _ t in
        rw f (omega (arith, first_inside l))

module _ (l : List ℕ) (p : ℕ) (e : p ≡ first_colon l) where
  pub colon_first : p < 1 → label_good l ≡ false
  unfolding label_good
  colon_first h = rw (← e, lt-leb 1 p h) (and-false (printable l))

  module _ (h : 1 ≤ p) where
    pub colon_last : length l ≤ p + 1 → label_good l ≡ false
    unfolding label_good
    colon_last g = rw (← e, le-leb 1 p h, le-ltb (p + 1) (length l) g) (and-false (printable l))

    pub colon_inside : p + 1 < length l → {r : Option ℕ} (hash : ℕ) → r ≡ hashed (printable l) hash
        → r ≡ hashed (label_good l) hash
    unfolding label_good
    colon_inside g {r} hash f =
        f ∙ ap (λ (t : Bool). hashed t hash)
        (sym (rw (← e, le-leb 1 p h, lt-ltb (p + 1) (length l) g) (and-true (printable l))))

-- the label is the part after its entry's first two bytes
pub label_part : (b : List ℕ) (at size first : ℕ) {r : Option ℕ} → first ≡ get_or b at 0 → first < 256
    → r ≡ hashed (label_good (take (at + 2 + size - (at + 2)) (drop (at + 2) b)))
    (hash_from first (take (at + 2 + size - (at + 2)) (drop (at + 2) b)))
    → r ≡ hashed (label_good (take size (drop (at + 2) b))) (hash_of (get_or b at 0) (take size (drop (at + 2) b)))
unfolding hash_of
label_part b at size first e few f =
    let w : at + 2 + size - (at + 2) ≡ size = omega arith in
    let m : get_or b at 0 % 1024 ≡ first = omega arith in
    rw m (rw w at f)

-- ---- an entry's hash

from_few : (h : ℕ) (l : List ℕ) → h < 1024 → hash_from h l < 1024
from_few h [] few = few
from_few h (b ∷ bs) few = from_few ((h * 9 + b) % 1024) bs (omega arith)

pub hash_few : (b : List ℕ) (at : ℕ) → hash_at b at < 1024
unfolding hash_at hash_of
hash_few b at = from_few (get_or b at 0 % 1024) (take (get_or b (at + 1) 0) (drop (at + 2) b)) (omega arith)

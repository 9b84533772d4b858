-- The steps of `put` and the turns of `copy`: what is done and what is left make up the whole.
-- Assumes nothing.
use Prim.Native.Nat.{ℕ, zero, suc, ◌+◌, ◌-◌, ◌/◌, ◌%◌, ◌≤◌, ◌<◌}
use native.Mathlib.Omega.{arith}
use native.Mathlib.Nat.{le_of_suc-le-suc, not-suc-le-zero}
use native.Mathlib.Numerals.{add-one}
use mathlib.Core.Path.{◌≡◌, refl, sym, ap, ◌∙◌}
use mathlib.Core.List.{List, [], ◌∷◌, ◌++◌, append_assoc, append-nil}
use lib.ListN.{length, take, drop, get_or, set, length-set}
use lib.Seq.{drop-length, take-length, drop-cons, take-suc-set}
use Rattle.octets.specs.Octets.{bytes}
use Rattle.octets.proofs.NumberLaws.{bytes_snoc}

-- the element at the cursor, and the rest after it
pub drop_next : (xs : List ℕ) (i : ℕ) → i < length xs → drop i xs ≡ get_or xs i 0 ∷ drop (i + 1) xs
drop_next xs i h = rw (add-one, drop-cons xs i 0)

-- a store at the cursor lengthens what is written by one
take_store : (xs : List ℕ) (i a : ℕ) → i < length xs → take (i + 1) (set xs i a) ≡ take i xs ++ (a ∷ [])
take_store xs i a h = rw (add-one, take-suc-set)

drop_set : (xs : List ℕ) (i a : ℕ) → i < length xs → drop i (set xs i a) ≡ a ∷ drop (suc i) xs
drop_set [] i a h = absurd (not-suc-le-zero h)
drop_set (x ∷ xs) zero a h = refl
drop_set (x ∷ xs) (suc i) a h = drop_set xs i a (le_of_suc-le-suc h)

-- `put` works from the last byte to the first: the i bytes of w, then what is written from the
-- cursor i on, are the number's bytes
record Putting (n v i w : ℕ) (part : List ℕ) : Type 0 where
  inside : i ≤ length part
  left : bytes n v ≡ bytes i w ++ drop i part

put_begin : (part : List ℕ) (v : ℕ) → Putting (length part) v (length part) v part
put_begin part v = record { inside = omega arith; left = rw (drop-length, append-nil) }

-- the lowest byte of what is left is stored just before the cursor
put_step : {n v w j : ℕ} {part : List ℕ} → Putting n v (suc j) w part → Putting n v j (w / 256) (set part j (w % 256))
put_step {w = w} {j = j} {part = part} z = record {
  inside = simp length-set (omega (arith, z.inside));
  left = z.left ∙ rw (bytes_snoc j w, append_assoc, drop_set part j (w % 256) z.inside);
}

put_end : {n v w : ℕ} {part : List ℕ} → Putting n v 0 w part → part ≡ bytes n v
unfolding bytes
put_end z = sym z.left

at_cursor : {n v i j w : ℕ} {part : List ℕ} → i ≡ j → Putting n v i w part → Putting n v j w part
at_cursor e z = rw e at z

-- `put` into a part of none to four bytes
module _ (part : List ℕ) (v : ℕ) where
  abbrev n : ℕ
  n = length part

  pub put_none : n < 1 → part ≡ bytes n v
  put_none h = put_end (at_cursor (omega arith) (put_begin part v))

  module _ (h : 1 ≤ n) where
    abbrev p₁ : List ℕ
    p₁ = set part (n - 1) (v % 256)

    z₁ : Putting n v (n - 1) (v / 256) p₁
    z₁ = put_step (at_cursor (omega arith) (put_begin part v))

    pub put_one : n < 2 → p₁ ≡ bytes n v
    put_one l = put_end (at_cursor (omega arith) z₁)

    module _ (h₁ : 2 ≤ n) where
      abbrev p₂ : List ℕ
      p₂ = set p₁ (n - 2) (v / 256 % 256)

      z₂ : Putting n v (n - 2) (v / 256 / 256) p₂
      z₂ = put_step (at_cursor (omega arith) z₁)

      pub put_two : n < 3 → p₂ ≡ bytes n v
      put_two l = put_end (at_cursor (omega arith) z₂)

      module _ (h₂ : 3 ≤ n) where
        abbrev p₃ : List ℕ
        p₃ = set p₂ (n - 3) (v / 256 / 256 % 256)

        z₃ : Putting n v (n - 3) (v / 256 / 256 / 256) p₃
        z₃ = put_step (at_cursor (omega arith) z₂)

        pub put_three : n < 4 → p₃ ≡ bytes n v
        put_three l = put_end (at_cursor (omega arith) z₃)

        pub put_four : 4 ≤ n → n ≤ 4 → set p₃ (n - 4) (v / 256 / 256 / 256 % 256) ≡ bytes n v
        put_four h₃ most =
            let z₄ : Putting n v (n - 4) (v / 256 / 256 / 256 / 256) (set p₃ (n - 4) (v / 256 / 256 / 256 % 256)) =
            put_step (at_cursor (omega arith) z₃) in
            put_end (at_cursor (omega arith) z₄)

pub copy_turn : (part from : List ℕ) (i : ℕ) → i < length part → i < length from
    → take i part ++ drop i from ≡ take (i + 1) (set part i (get_or from i 0)) ++ drop (i + 1) from
copy_turn part from i h k = rw (drop_next from i k, take_store part i (get_or from i 0) h, append_assoc)

pub copy_end : (part from : List ℕ) (i : ℕ) → i ≡ length from → i ≡ length part → take i part ++ drop i from ≡ part
copy_end part from i e f = ap (λ (k : ℕ). take i part ++ drop k from) e ∙ rw (drop-length, append-nil, f, take-length)

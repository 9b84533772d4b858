-- An entry, except for repeats: each answer from the tests that lead there, and what an accepted entry tells.
-- Assumes nothing.
use Prim.Native.Nat.{ℕ, ◌+◌, ◌-◌, ◌≤◌, ◌<◌}
use mathlib.Core.Path.{◌≡◌, refl, sym, ◌∙◌}
use mathlib.Core.List.{List}
use mathlib.Core.Bool.{Bool, true, false, ◌&&◌}
use Rattle.std.specs.Prelude.{Option, None, Result, Ok, Err}
use Rattle.std.specs.Option.{ok_or}
use native.Mathlib.Omega.{arith}
use lib.ListN.{length, get_or, take, drop}
use lib.Dec.{leb}
use borrow.Author.Tests.{lt-leb, le-leb, leb-true}
use Rattle.history.specs.declared.Answer.{Answer}
use Rattle.history.specs.Verdict.{Refused, naming, Verdict, refused, done, refusal, refusal_at, ◌unless◌⨾◌, numbers}
use Rattle.history.specs.Verdict.{given}
use Rattle.history.proofs.OutputLaws.{given_done}
use Rattle.elements.specs.Elements.{carried}
use Rattle.history.specs.Table.{label_limit, label_good}
use Rattle.history.proofs.VerdictLaws.{left, right, held}
use Rattle.tables.specs.Places.{check_object_at, hash_at}
use Rattle.tables.specs.Hashes.{hash_of, hashed}
use Rattle.tables.proofs.LabelLaws.{hash_few}

-- ---- what checking an entry gives

pub refuses : (hash : ℕ) {v : Verdict ℕ} {x : Refused} {a : Answer} → a ≡ numbers x 0 → v ≡ refused x
    → Err a ≡ given (λ (next : ℕ). hash) v
refuses hash e f = rw (f, e)

hashed_or : (k size : ℕ) (good : Bool) (hash : ℕ) {r : Option ℕ} → r ≡ hashed good hash
    → ok_or r (numbers (naming 6 k 255) 0) ≡ given (λ (next : ℕ). hash) (refusal_at 6 k unless good ⨾ done size)
unfolding hashed
hashed_or k size false hash e = rw e
hashed_or k size true hash e = rw e

was_bad : (good : Bool) (hash : ℕ) → None ≡ hashed good hash → good ≡ false
unfolding hashed
was_bad false hash e = refl
was_bad true hash e = absurd (let z : ◌≡◌ {A = ℕ} 0 1 = cc in omega arith)

-- ---- each test

module _ (b : List ℕ) (at k : ℕ) where
  pub entry_cut : length b - at < 2 → check_object_at b at k ≡ refusal 8
  unfolding check_object_at
  entry_cut h = simp (lt-leb (at + 2) (length b) (omega arith))

  module _ (two : 2 ≤ length b - at) where
    both : leb (at + 2) (length b) ≡ true
    both = le-leb (at + 2) (length b) (omega arith)

    pub entry_type : carried (get_or b 5 0) (get_or b at 0) ≡ false → check_object_at b at k ≡ refusal_at 5 k
    unfolding check_object_at
    entry_type h = simp (both, h)

    module _ (type : carried (get_or b 5 0) (get_or b at 0) ≡ true) (n : ℕ) (e : n ≡ get_or b (at + 1) 0) where
      pub entry_size : leb 1 n && leb n (label_limit (get_or b 4 0)) ≡ false → check_object_at b at k ≡ refusal_at 6 k
      unfolding check_object_at
      entry_size h = rw (← e) (simp (both, type, h))

      module _ (size : leb 1 n && leb n (label_limit (get_or b 4 0)) ≡ true) where
        pub label_cut : length b - at - 2 < n → check_object_at b at k ≡ refusal 8
        unfolding check_object_at
        label_cut h = rw (← e) (simp (both, type, size, lt-leb (at + (2 + n)) (length b) (omega arith)))

        -- a bad label refuses
        pub label_bad : n ≤ length b - at - 2 → {r : Option ℕ}
            → r ≡ hashed (label_good (take n (drop (at + 2) b))) (hash_of (get_or b at 0) (take n (drop (at + 2) b)))
            → r ≡ None → check_object_at b at k ≡ refusal_at 6 k
        unfolding check_object_at
        label_bad rest r-is h =
            let all : leb (at + (2 + n)) (length b) ≡ true = le-leb (at + (2 + n)) (length b) (omega arith) in
            let bad = was_bad (label_good (take n (drop (at + 2) b))) _ (sym h ∙ r-is) in
            rw (← e) (simp (both, type, size, all, bad))

        -- the label decides
        pub label_tested : n ≤ length b - at - 2 → (r : Option ℕ)
            → r ≡ hashed (label_good (take n (drop (at + 2) b))) (hash_of (get_or b at 0) (take n (drop (at + 2) b)))
            → (a : Answer) → a ≡ numbers (naming 6 k 255) 0
            → ok_or r a ≡ given (λ (next : ℕ). hash_at b at) (check_object_at b at k)
        unfolding check_object_at hash_at
        label_tested rest r r-is a a-is =
            let all : leb (at + (2 + n)) (length b) ≡ true = le-leb (at + (2 + n)) (length b) (omega arith) in
            rw (a-is, ← e)
            (simp (both, type, size, all)
            (hashed_or k (at + (2 + n)) (label_good (take n (drop (at + 2) b)))
            (hash_of (get_or b at 0) (take n (drop (at + 2) b))) r-is))

-- what an accepted entry tells
pub record GoodEntry (b : List ℕ) (at : ℕ) : Type 0 where
  pub type : carried (get_or b 5 0) (get_or b at 0) ≡ true
  pub some : 1 ≤ get_or b (at + 1) 0
  pub few : get_or b (at + 1) 0 ≤ label_limit (get_or b 4 0)
  pub all : at + (2 + get_or b (at + 1) 0) ≤ length b
  pub label : label_good (take (get_or b (at + 1) 0) (drop (at + 2) b)) ≡ true

pub good_entry : (b : List ℕ) (at k : ℕ) {n : ℕ} → check_object_at b at k ≡ done n → GoodEntry b at
unfolding check_object_at
good_entry b at k e =
    let n : ℕ = get_or b (at + 1) 0 in
    let p₁ = held (leb (at + 2) (length b)) _ _ e in
    let p₂ = held (carried (get_or b 5 0) (get_or b at 0)) _ _ p₁.1 in
    let p₃ = held (leb 1 n && leb n (label_limit (get_or b 4 0))) _ _ p₂.1 in
    let p₄ = held (leb (at + (2 + n)) (length b)) _ _ p₃.1 in
    let p₅ = held (label_good (take n (drop (at + 2) b))) _ _ p₄.1 in
    record {
      type = p₂.0;
      some = leb-true _ _ (left (leb 1 n) _ p₃.0);
      few = leb-true _ _ (right (leb 1 n) _ p₃.0);
      all = leb-true _ _ p₄.0;
      label = p₅.0;
    }

-- ---- what the result of `check_object` tells

module _ (b : List ℕ) (at k : ℕ) {r : Result ℕ Answer}
    (r-is : r ≡ given (λ (next : ℕ). hash_at b at) (check_object_at b at k))
    {own : ℕ} (e : r ≡ Ok own) where
  pub was_found : (next : ℕ) × (check_object_at b at k ≡ done next) × (hash_at b at ≡ own)
  was_found = given_done (check_object_at b at k) (λ (next : ℕ). hash_at b at) (sym e ∙ r-is)

  pub found_two : at + 2 ≤ length b
  found_two = omega (arith, good_entry b at k was_found.1)

  pub found_few : own < 1024
  found_few = omega (arith, was_found.2, hash_few b at)

-- no label is longer than 48 bytes, so an entry takes at most 50, and the places of 1,024 fit the u16 of `starts`
pub limit_48 : (version : ℕ) → label_limit version ≤ 48
unfolding label_limit
limit_48 version = omega arith

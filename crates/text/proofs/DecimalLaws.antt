-- The digits of a number stand for it: read in decimal they give it back, each is 0 to 9, and
-- the first is 0 only if it is the only one.
-- Assumes nothing.
use mathlib.Core.Path.{◌≡◌, refl, sym, ◌∙◌}
use mathlib.Core.Bool.{Bool, true, false, cond, ◌&&◌}
use mathlib.Core.List.{List, [], ◌∷◌, ◌++◌}
use Prim.Native.Nat.{ℕ, zero, suc, ◌+◌, ◌-◌, ◌*◌, ◌/◌, ◌%◌, ◌^◌, ◌≤◌, ◌<◌}
use native.Mathlib.Omega.{arith}
use lib.Dec.{leb, ltb}
use lib.ListN.{length, get_or, length-append, get_or-append}
use borrow.Author.Tests.{le-leb, ltb-true, ltb-false}
use Rattle.text.specs.Decimal.{decimal_in, decimal}
use Rattle.text.proofs.Laws.{tenth}

-- digits read from the highest down, after a number already read
abbrev pub read_from : ℕ → List ℕ → ℕ
read_from n [] = n
read_from n (d ∷ ds) = read_from (n * 10 + (d - 48)) ds

-- 48 to 57: 0 to 9 in ASCII
abbrev pub digits : List ℕ → Bool
digits [] = true
digits (d ∷ ds) = (leb 48 d && leb d 57) && digits ds

pub record Says (n : ℕ) (ds : List ℕ) : Type 0 where
  pub value : read_from 0 ds ≡ n
  pub each : digits ds ≡ true
  pub some : 0 < length ds
  pub first : get_or ds 0 0 ≡ 48 → (n ≡ 0) × (length ds ≡ 1)

-- ---- one digit after others

read_last : (n : ℕ) (ds : List ℕ) (d : ℕ) → read_from n (ds ++ (d ∷ [])) ≡ read_from n ds * 10 + (d - 48)
read_last n [] d = refl
read_last n (x ∷ ds) d = read_last (n * 10 + (x - 48)) ds d

-- both tests, with the second weakened
more : (b : Bool) {t u : Bool} → (t ≡ true → u ≡ true) → b && t ≡ true → b && u ≡ true
more true f e = f e
more false f e = e

digits_last : (ds : List ℕ) (d : ℕ) → 48 ≤ d → d ≤ 57 → digits ds ≡ true → digits (ds ++ (d ∷ [])) ≡ true
digits_last [] d l h e = simp (le-leb 48 d l, le-leb d 57 h)
digits_last (x ∷ ds) d l h e = more (leb 48 x && leb x 57) (digits_last ds d l h) e

-- ---- the digits

says_at : (b : Bool) (k n : ℕ) → ltb n 10 ≡ b → (10 ≤ n → Says (n / 10) (decimal_in k (n / 10)))
    → Says n (cond b ((48 + n) ∷ []) (decimal_in k (n / 10) ++ ((48 + n % 10) ∷ [])))
says_at true k n e tens =
    let few : n < 10 = ltb-true n 10 e in
    record {
      value = omega arith;
      each = simp (le-leb 48 (48 + n) (omega arith), le-leb (48 + n) 57 (omega arith));
      some = omega arith;
      first = λ z. (omega arith, refl);
    }
says_at false k n e tens =
    let ten : 10 ≤ n = ltb-false n 10 e in
    let t = tens ten in
    let ds = decimal_in k (n / 10) in
    let d = 48 + n % 10 in
    record {
      value = read_last 0 ds d ∙ omega (arith, t.value);
      each = digits_last ds d (omega arith) (omega arith) t.each;
      some = omega (arith, length-append ds (d ∷ []));
      first = λ z. absurd (omega (arith, (t.first (sym (get_or-append ds (d ∷ []) 0 0 t.some) ∙ z)).0));
    }

says : (k n : ℕ) → n < 10 ^ suc k → Says n (decimal_in (suc k) n)
unfolding decimal_in
says zero n h = says_at (ltb n 10) zero n refl (λ ten. absurd (omega arith))
says (suc k) n h = says_at (ltb n 10) (suc k) n refl (λ ten. says k (n / 10) (tenth k n h))

pub decimal_says : (n : ℕ) → n < 10000000000 → Says n (decimal n)
unfolding decimal
decimal_says n h = says 9 n h

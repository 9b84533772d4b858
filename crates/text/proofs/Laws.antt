-- Digits of a number, bytes in hex, and writes one after the other: the laws for the writers of text.
-- Assumes nothing.
use mathlib.Core.Path.{◌≡◌, refl, sym, ap, ◌∙◌}
use mathlib.Core.Bool.{Bool, true, false, cond}
use mathlib.Core.List.{List, [], ◌∷◌, ◌++◌, append_assoc}
use Prim.Native.Nat.{ℕ, zero, suc, ◌+◌, ◌-◌, ◌*◌, ◌/◌, ◌%◌, ◌^◌, ◌≤◌, ◌<◌}
use native.Mathlib.Nat.{add-zero, add-suc, suc-add, le_of_lt, div-lt_iff_lt-mul, pow-suc}
use native.Mathlib.Omega.{arith}
use native.Mathlib.Numerals.{add-one}
use lib.Dec.{ltb, lit<}
use lib.ListN.{length, get_or, take, drop, set, length-append}
use lib.Seq.{sets, sets-eq, length-take-le, take_all, take-suc}
use borrow.Rule.Slice.PartMut.{put_mid, Post-is}
use borrow.Author.Tests.{lt-ltb, le-ltb, ltb-true, ltb-false}
use Rattle.text.specs.Decimal.{decimal_in, decimal}
use Rattle.text.specs.Hex.{hex_digit, hexes}
use Rattle.text.specs.Grew.{Grew}
use Rattle.text.specs.Wrote.{Wrote}
use Rattle.text.specs.declared.Page.{Page}

-- a tenth of a number has one digit less
pub tenth : (k n : ℕ) → n < 10 ^ suc (suc k) → n / 10 < 10 ^ suc k
tenth k n h = (div-lt_iff_lt-mul (lit< tt)).1 (rw pow-suc at h)

-- any limit that is enough for the number gives the same digits
enough_at : (b : Bool) (k j n : ℕ) → ltb n 10 ≡ b → (10 ≤ n → decimal_in k (n / 10) ≡ decimal_in j (n / 10))
    → cond b ((48 + n) ∷ []) (decimal_in k (n / 10) ++ ((48 + n % 10) ∷ []))
    ≡ cond b ((48 + n) ∷ []) (decimal_in j (n / 10) ++ ((48 + n % 10) ∷ []))
enough_at true k j n e less = refl
enough_at false k j n e less = ap (λ (l : List ℕ). l ++ ((48 + n % 10) ∷ [])) (less (ltb-false n 10 e))

enough : (k j n : ℕ) → n < 10 ^ suc k → n < 10 ^ suc j → decimal_in (suc k) n ≡ decimal_in (suc j) n
unfolding decimal_in
enough zero j n h h' = enough_at (ltb n 10) zero j n refl (λ ten. absurd (omega arith))
enough (suc k) zero n h h' = enough_at (ltb n 10) (suc k) zero n refl (λ ten. absurd (omega arith))
enough (suc k) (suc j) n h h' =
    enough_at (ltb n 10) (suc k) (suc j) n refl (λ ten. enough k j (n / 10) (tenth k n h) (tenth j n h'))

pub decimal_small : (n : ℕ) → n < 10 → decimal n ≡ (48 + n) ∷ []
unfolding decimal decimal_in
decimal_small n h = simp (lt-ltb _ _ h)

decimal_more : (n : ℕ) → 10 ≤ n → n < 10000000000 → decimal n ≡ decimal (n / 10) ++ ((48 + n % 10) ∷ [])
unfolding decimal decimal_in
decimal_more n h h' =
    simp (le-ltb _ _ h)
    (ap (λ (l : List ℕ). l ++ ((48 + n % 10) ∷ [])) (enough 8 9 (n / 10) (omega arith) (omega arith)))

sets_append : (l : List ℕ) (i : ℕ) (xs ys : List ℕ) → sets (sets l i xs) (i + length xs) ys ≡ sets l i (xs ++ ys)
sets_append l i [] ys = ap (λ (k : ℕ). sets l k ys) (add-zero i)
sets_append l i (a ∷ xs) ys =
    ap (λ (k : ℕ). sets (sets (set l i a) (suc i) xs) k ys) (add-suc i (length xs) ∙ sym (suc-add i (length xs)))
    ∙ sets_append (set l i a) (suc i) xs ys

decimal_length : (n : ℕ) → 10 ≤ n → n < 10000000000 → length (decimal n) ≡ length (decimal (n / 10)) + 1
decimal_length n h h' = ap length (decimal_more n h h') ∙ length-append (decimal (n / 10)) ((48 + n % 10) ∷ [])

-- a number below 10 ^ k, with k not 0, has at most k digits
fits_at : (b : Bool) (k n : ℕ) → ltb n 10 ≡ b → n < 10000000000 → (10 ≤ n → length (decimal (n / 10)) ≤ k)
    → length (decimal n) ≤ suc k
fits_at true k n e h less = omega (arith, ap length (decimal_small n (ltb-true n 10 e)))
fits_at false k n e h less = omega (arith, decimal_length n (ltb-false n 10 e) h, less (ltb-false n 10 e))

pub decimal_fits : (k n : ℕ) → n < 10 ^ suc k → n < 10000000000 → length (decimal n) ≤ suc k
decimal_fits zero n h h' = omega (arith, ap length (decimal_small n h))
decimal_fits (suc k) n h h' =
    fits_at (ltb n 10) (suc k) n refl h' (λ _. decimal_fits k (n / 10) (tenth k n h) (omega arith))

pub then : {l : List ℕ} {at : ℕ} {xs m : List ℕ} {p : ℕ} {ys n : List ℕ} {r : ℕ} → Wrote l at xs m p → Wrote m p ys n r
    → Wrote l at (xs ++ ys) n r
then {l} {at} {xs} {m} {p} {ys} {n} {r} a b = record {
  next = omega (arith, a.next, b.next, length-append xs ys);
  text = b.text ∙ (λ i. sets (a.text i) (a.next i) ys) ∙ sets_append l at xs ys;
}

-- the same of a page
pub grew_then : {p q r : Page} {xs ys : List ℕ} → Grew p xs q → Grew q ys r → Grew p (xs ++ ys) r
grew_then a b = record { same = b.same ∙ a.same; size = b.size ∙ a.size; wrote = then a.wrote b.wrote }

-- what is written into a page that begins at the front of a buffer, and the buffer and the place in the end
pub grew_front : {l n xs : List ℕ} {p q : Page} {r : ℕ} → p.out.now ≡ l → p.at ≡ 0 → Grew p xs q → n ≡ q.out.now
    → r ≡ q.at → Wrote l 0 xs n r
grew_front {xs = xs} front begins w left place =
    record {
      next = place ∙ w.wrote.next ∙ ap (λ (k : ℕ). k + length xs) begins;
      text = left ∙ w.wrote.text ∙ (λ i. sets (front i) (begins i) xs);
    }

-- the whole buffer, once a part of it is a copy of xs
pub copied : (l : List ℕ) (at : ℕ) {ys : List ℕ} (xs : List ℕ) → ys ≡ xs → at + length xs ≤ length l
    → put_mid at (at + length xs - at) l ys ≡ sets l at xs
copied l at xs e h =
    (λ i. take at l ++ (e i ++ Post-is at (at + length xs) l (omega arith) i))
    ∙ sym (append_assoc (take at l) xs (drop (at + length xs) l)) ∙ sym (sets-eq xs l at h)

-- for n of two digits or more: a tenth of n is written, and then its last digit
module _ {n : ℕ} (h : 10 ≤ n) (h' : n < 4294967296) where
  pub tenth_room : (at k : ℕ) → at + length (decimal n) ≤ k → at + length (decimal (n / 10)) ≤ k
  tenth_room at k r = omega (arith, decimal_length n h (omega arith))

  module _ {p q : Page} (w : Grew p (decimal (n / 10)) q) where
    pub last_room : p.at + length (decimal n) ≤ length p.out.now → q.at + 1 ≤ length q.out.now
    last_room r = omega (arith, decimal_length n h (omega arith), w.wrote.next, w.size)

    pub last_digit : {r : Page} → Grew q ((48 + n % 10) ∷ []) r → Grew p (decimal n) r
    last_digit v = rw (decimal_more n h (omega arith)) (grew_then w v)

-- bytes in hex
pub hexes_length : (bs : List ℕ) → length (hexes bs) ≡ 2 * length bs
hexes_length [] = refl
hexes_length (b ∷ bs) = omega (arith, hexes_length bs)

hexes_append : (xs bs : List ℕ) → hexes (xs ++ bs) ≡ hexes xs ++ hexes bs
hexes_append [] bs = refl
hexes_append (a ∷ xs) bs = ap (λ (l : List ℕ). hex_digit (a / 16) ∷ hex_digit (a % 16) ∷ l) (hexes_append xs bs)

-- the two digits of a byte
pub two_digits : {p q r : Page} {d e : ℕ} (b : ℕ) → d ≡ hex_digit (b / 16) → e ≡ hex_digit (b % 16)
    → Grew p (d ∷ []) q → Grew q (e ∷ []) r
    → Grew p (hexes (b ∷ [])) r
two_digits b high low a c = simp (high, low) at (grew_then a c)

-- the first i bytes of s are written, in hex
module _ (s : List ℕ) {p q : Page} {i : ℕ} (w : Grew p (hexes (take i s)) q) where
  pub hex_room : i < length s → p.at + 2 * length s ≤ length p.out.now → q.at + 2 ≤ length q.out.now
  hex_room h r = omega (arith, hexes_length (take i s), length-take-le i s (le_of_lt h), w.wrote.next, w.size)

  pub hex_next : i < length s → {r : Page} → Grew q (hexes (get_or s i 0 ∷ [])) r → Grew p (hexes (take (i + 1) s)) r
  hex_next h b = rw (add-one, take-suc s i 0, hexes_append) (grew_then w b)

  pub hex_end : length s ≤ i → Grew p (hexes s) q
  hex_end h = rw (take_all i s h) at w

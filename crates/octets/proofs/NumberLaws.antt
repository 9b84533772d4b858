-- Numbers in bytes: `number` and `bytes` are inverse to each other, and both grow by a byte at their end.
-- Assumes nothing.
use Prim.Native.Nat.{ℕ, zero, suc, ◌+◌, ◌*◌, ◌/◌, ◌%◌, ◌^◌, ◌≤◌, ◌<◌}
use native.Mathlib.Omega.{arith}
use native.Mathlib.Numerals.{add-one}
use native.Mathlib.Nat.{pow-zero, pow-suc, pow-succ', mul_assoc, div-add-mod', mod-lt, mod-eq_of_lt, div-one}
use native.Mathlib.Nat.{div-div-eq-div-mul, div-lt_iff_lt-mul, mul-add-div_right, mul-add-mod_self_right, div-eq_of_lt}
use native.Mathlib.Nat.{add-zero, mul-le-mul_right, pow-le-pow_right}
use mathlib.Core.Path.{◌≡◌, refl, sym, ap, ap₂, ◌∙◌}
use mathlib.Core.List.{List, [], ◌∷◌, ◌++◌}
use lib.ListN.{length, take, drop, get_or, length-append, length-drop, take-append-drop}
use lib.Seq.{take_at, drop_at, length-take-le, get_or-drop, take-suc}
use Rattle.octets.specs.Octets.{bytes, number, Bytes}

pub length_bytes : (n x : ℕ) → length (bytes n x) ≡ n
unfolding bytes
length_bytes zero x = refl
length_bytes (suc n) x = ap suc (length_bytes n x)

bytes_fit : (n x : ℕ) → Bytes (bytes n x)
unfolding bytes
bytes_fit zero x i = omega arith
bytes_fit (suc n) x zero = mod-lt (x / 256 ^ n) (omega arith)
bytes_fit (suc n) x (suc i) = bytes_fit n x i

-- ---- one more byte at the end

number_snoc : (xs : List ℕ) (b : ℕ) → number (xs ++ (b ∷ [])) ≡ number xs * 256 + b
number_snoc [] b = omega arith
number_snoc (x ∷ xs) b =
    let long : length (xs ++ (b ∷ [])) ≡ suc (length xs) = length-append xs (b ∷ []) ∙ omega arith in
    rw (long, pow-suc 256 (length xs), number_snoc xs b) (omega (arith, mul_assoc x (256 ^ length xs) 256))

pub bytes_snoc : (n x : ℕ) → bytes (suc n) x ≡ bytes n (x / 256) ++ (x % 256 ∷ [])
unfolding bytes
bytes_snoc zero x = rw (pow-zero, div-one)
bytes_snoc (suc n) x =
    ap₂ ◌∷◌ (ap (λ (d : ℕ). d % 256)
    (ap (λ (p : ℕ). x / p) (pow-succ' 256 n) ∙ sym (div-div-eq-div-mul x 256 (256 ^ n))))
    (bytes_snoc n x)

-- ---- inverse to each other

pub number_bytes : (n x : ℕ) → x < 256 ^ n → number (bytes n x) ≡ x
unfolding bytes
number_bytes zero x h = omega (arith, rw pow-zero at h)
number_bytes (suc n) x h =
    let less : x / 256 < 256 ^ n =
    (div-lt_iff_lt-mul {k = 256} {x = x} {y = 256 ^ n} (omega arith)).1 (rw (pow-suc 256 n) at h) in
    ap number (bytes_snoc n x) ∙ number_snoc (bytes n (x / 256)) (x % 256)
    ∙ rw (number_bytes n (x / 256) less) (div-add-mod' x 256)

number_lt : (b : List ℕ) → Bytes b → number b < 256 ^ length b
number_lt [] h = omega arith
number_lt (x ∷ xs) h =
    omega (arith, number_lt xs (λ i. h (suc i)), pow-succ' 256 (length xs), mul-le-mul_right (256 ^ length xs) (h 0))

-- n bytes don't depend on what is above them
bytes_low : (n a x : ℕ) → bytes n (a * 256 ^ n + x) ≡ bytes n x
unfolding bytes
bytes_low zero a x = refl
bytes_low (suc n) a x =
    let y : ℕ = a * 256 ^ n in
    let e : a * 256 ^ suc n + x ≡ y * 256 + x = rw (pow-suc 256 n) (omega (arith, mul_assoc a (256 ^ n) 256)) in
    ap (bytes (suc n)) e ∙ bytes_snoc n (y * 256 + x)
    ∙ ap₂ (λ (d m : ℕ). bytes n d ++ (m ∷ [])) (mul-add-div_right {m = 256} (omega arith) y x)
    (mul-add-mod_self_right y 256 x)
    ∙ ap (λ (r : List ℕ). r ++ (x % 256 ∷ [])) (bytes_low n a (x / 256)) ∙ sym (bytes_snoc n x)

big : (n : ℕ) → 0 < 256 ^ n
big zero = omega arith
big (suc n) = omega (arith, pow-suc 256 n, big n)

pub bytes_number : (b : List ℕ) → Bytes b → bytes (length b) (number b) ≡ b
unfolding bytes
bytes_number [] h = refl
bytes_number (x ∷ xs) h =
    let t : Bytes xs = λ i. h (suc i) in
    let n : ℕ = length xs in
    let high : (x * 256 ^ n + number xs) / 256 ^ n ≡ x =
    mul-add-div_right (big n) x (number xs) ∙ rw (div-eq_of_lt (number_lt xs t)) (add-zero x) in
    ap₂ ◌∷◌ (rw high (mod-eq_of_lt (h 0))) (bytes_low n x (number xs) ∙ bytes_number xs t)

-- ---- parts of bytes

module _ (n x : ℕ) (rest : List ℕ) where
  pub take_bytes : take n (bytes n x ++ rest) ≡ bytes n x
  take_bytes = take_at (bytes n x) rest n (length_bytes n x)

  pub drop_bytes : drop n (bytes n x ++ rest) ≡ rest
  drop_bytes = drop_at (bytes n x) rest n (length_bytes n x)

  pub read_bytes : x < 256 ^ n → number (take n (bytes n x ++ rest)) ≡ x
  read_bytes h = rw take_bytes (number_bytes n x h)

pub drop_is : (n : ℕ) (b : List ℕ) → Bytes b → Bytes (drop n b)
drop_is n b h i = rw (get_or-drop n b i 0) (h (n + i))

pub take_is : (n : ℕ) (b : List ℕ) → Bytes b → Bytes (take n b)
take_is zero b h i = omega arith
take_is (suc n) [] h i = omega arith
take_is (suc n) (x ∷ xs) h zero = h 0
take_is (suc n) (x ∷ xs) h (suc i) = take_is n xs (λ j. h (suc j)) i

module _ (n : ℕ) (b : List ℕ) (s : n ≤ length b) (h : Bytes b) where
  pub below : number (take n b) < 256 ^ n
  below = rw (length-take-le n b s) at (number_lt (take n b) (take_is n b h))

  pub cut : b ≡ bytes n (number (take n b)) ++ drop n b
  cut =
      let e : bytes n (number (take n b)) ≡ take n b =
      rw (length-take-le n b s) at (bytes_number (take n b) (take_is n b h)) in
      rw e (sym (take-append-drop n b))

-- ---- one more byte is read

pub number_next : (s : List ℕ) (at i v : ℕ) → at + i < length s → v ≡ number (take i (drop at s))
    → v * 256 + get_or s (at + i) 0 ≡ number (take (i + 1) (drop at s))
number_next s at i v h e =
    rw (
      add-one,
      take-suc (drop at s) i 0 (rw length-drop (omega arith)),
      number_snoc (take i (drop at s)),
      get_or-drop at s i 0,
      e,
    )

pub small_next : (i v x : ℕ) → v < 256 ^ i → x < 256 → v * 256 + x < 256 ^ (i + 1)
small_next i v x h k = rw (add-one, pow-suc) (omega arith)

-- a number of fewer than four bytes has room for one more
pub fits_next : (i v x : ℕ) → i < 4 → v < 256 ^ i → x < 256 → v * 256 + x < 2 ^ 32
fits_next i v x l h k =
    let n : i + 1 ≤ 4 = omega arith in
    let m : 256 ^ (i + 1) ≤ 256 ^ 4 = pow-le-pow_right (omega arith) n in
    omega (arith, small_next i v x h k)

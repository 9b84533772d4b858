-- Where a byte or a word is, and bytes read from hex, one more at a time.
use Rattle.std.proofs.Common.{◌≡◌, ℕ, Bool, true, eqb, ◌+◌, ◌-◌, ◌*◌, ◌/◌, ◌%◌, ◌<◌, ◌≤◌, List, [], ◌∷◌, ◌++◌, arith}
use Rattle.std.proofs.Common.{◌≢◌, sym, ap, ◌∙◌, length, take, take_all, drop, set, get_or}
use Rattle.std.proofs.lemmas.List.{flat_map_more, take_more_set, length-take, length-set, length-drop, take-append-drop}
use Rattle.std.proofs.lemmas.List.{drop_more, drop-drop, get_or-drop}
use Rattle.std.proofs.Math.Path.{ap₂}
use Rattle.std.proofs.Math.Seq.{take-add, take-append_seam}
use Rattle.std.proofs.lemmas.Bool.Decides.{Decides-eqb}
use Rattle.std.proofs.lemmas.Slice.Eq.{starts_is}
use Rattle.std.specs.List.{flat_map, starts_with, AllWithin, HoldsAt}
use Rattle.script.specs.Placed.{IsNotIn, IsAt, IsHexAt}
use Rattle.script.specs.Printed.{hex_digit, hex_byte}

-- a line's rest from a place on, as code takes it
abbrev rest_of : List ℕ → ℕ → List ℕ
rest_of line at = take (length line - at) (drop at line)

module _ (line word : List ℕ) (at : ℕ) (r : Bool) (value : r ≡ starts_with eqb (rest_of line at) word) where
  rest_is : rest_of line at ≡ drop at line
  rest_is = take_all (length line - at) (drop at line) (omega (arith, length-drop at line))

  told : (r ≡ true → drop at line ≡ word ++ drop (length word) (drop at line))
      × ((tail : List ℕ) → drop at line ≡ word ++ tail → r ≡ true)
  told = starts_is Decides-eqb (drop at line) word r (value ∙ ap (λ l. starts_with eqb l word) rest_is)

  -- a rest that starts with a word
  pub starts_at : r ≡ true → length word ≤ length (rest_of line at) → at ≤ length line → IsAt line at word
  starts_at started inside start = (
    omega (arith, ap length rest_is, length-drop at line),
    ap (take (length word)) (told.0 started) ∙ take-append_seam word (drop (length word) (drop at line)),
  )

  -- a rest starts with a word that is there
  pub at_starts : IsAt line at word → r ≡ true
  at_starts there =
      told.1 (drop (length word) (drop at line))
      (sym (take-append-drop (length word) (drop at line)) ∙ ap (λ l. l ++ drop (length word) (drop at line)) there.1)

-- a byte of two digits
two_digits : (high low : ℕ) → low < 16 → hex_byte (high * 16 + low) ≡ hex_digit high ∷ hex_digit low ∷ []
two_digits high low small =
    let front : (high * 16 + low) / 16 ≡ high = omega arith in
    let back : (high * 16 + low) % 16 ≡ low = omega arith in
    ap₂ (λ a b. hex_digit a ∷ hex_digit b ∷ []) front back

-- the two bytes at a place
two_at : (text : List ℕ) (i : ℕ) → i + 2 ≤ length text
    → take 2 (drop i text) ≡ get_or text i 0 ∷ get_or text (i + 1) 0 ∷ []
two_at text i inside =
    ap (take 2) (drop_more text i 0 (omega arith)
    ∙ ap (λ l. get_or text i 0 ∷ l) (drop_more text (i + 1) 0 (omega arith)))

-- two more bytes of text
two_more : (text : List ℕ) (from i n : ℕ) → i ≡ from + 2 * n
    → take (2 * n) (drop from text) ++ take 2 (drop i text) ≡ take (2 * (n + 1)) (drop from text)
two_more text from i n place =
    let rest : drop (2 * n) (drop from text) ≡ drop i text =
    drop-drop (2 * n) from text ∙ ap (λ m. drop m text) (sym place) in
    let size : 2 * n + 2 ≡ 2 * (n + 1) = omega arith in
    ap (λ l. take (2 * n) (drop from text) ++ take 2 l) (sym rest)
    ∙ sym (take-add (2 * n) 2 (drop from text))
    ∙ ap (λ m. take m (drop from text)) size

pub more_read : (text out : List ℕ) (from i n high low : ℕ) → i ≡ from + 2 * n → i + 2 ≤ length text → n < length out
    → low < 16 → hex_digit high ≡ get_or text i 0 → hex_digit low ≡ get_or text (i + 1) 0
    → IsHexAt text from (take n out) → IsHexAt text from (take (n + 1) (set out n (high * 16 + low)))
more_read text out from i n high low place inside room small first second before =
    let b = high * 16 + low in
    let grown : take (n + 1) (set out n b) ≡ take n out ++ b ∷ [] = take_more_set out n b room in
    let long : length (take n out) ≡ n = omega (arith, length-take n out) in
    let longer : length (take (n + 1) (set out n b)) ≡ n + 1 =
    omega (arith, length-take (n + 1) (set out n b), length-set out n b) in
    let byte : hex_byte b ≡ take 2 (drop i text) =
    two_digits high low small ∙ ap₂ (λ x y. x ∷ y ∷ []) first second ∙ sym (two_at text i inside) in
    ap (flat_map hex_byte) grown
    ∙ sym (flat_map_more hex_byte [] (take n out) b)
    ∙ ap₂ (λ xs ys. xs ++ ys) (before ∙ ap (λ m. take (2 * m) (drop from text)) long) byte
    ∙ two_more text from i n place
    ∙ ap (λ m. take (2 * m) (drop from text)) (sym longer)

-- ---- the first place of a byte in a text's rest

module _ (text rest : List ℕ) (from byte : ℕ) (rest-is : rest ≡ rest_of text from) where
  e : rest ≡ drop from text
  e = rest-is ∙ take_all (length text - from) (drop from text) (omega (arith, length-drop from text))

  at_place : (k : ℕ) → from ≤ k → get_or rest (k - from) 0 ≡ get_or text k 0
  at_place k after =
      let place : from + (k - from) ≡ k = omega arith in
      ap (λ l. get_or l (k - from) 0) e ∙ get_or-drop from text (k - from) 0 ∙ ap (λ m. get_or text m 0) place

  size : length rest ≡ length text - from
  size = ap length e ∙ length-drop from text

  pub nowhere : AllWithin (λ x. x ≢ byte) rest 0 (length rest) → IsNotIn text from (length text) byte
  nowhere none k after before is = none (k - from) 0 (omega arith) (omega (arith, size)) (at_place k after ∙ is)

  pub first_there : (i : ℕ)
      → (i < length rest) × HoldsAt (λ x. x ≡ byte) rest i × AllWithin (λ x. x ≢ byte) rest 0 i
      → (from ≤ from + i) × (from + i < length text) × (get_or text (from + i) 0 ≡ byte)
      × IsNotIn text from (from + i) byte
  first_there i found =
      let place : from + i - from ≡ i = omega arith in (
        omega arith,
        omega (arith, found.0, size),
        sym (at_place (from + i) (omega arith)) ∙ ap (λ m. get_or rest m 0) place ∙ found.1 0,
        λ k after before is. found.2 (k - from) 0 (omega arith) (omega arith) (at_place k after ∙ is),
      )

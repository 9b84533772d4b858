-- An object's element among an image's elements: where it is, which number is read there, and that laying a new one
-- over it gives the elements with that one changed.
-- Assumes nothing.
use Prim.Native.Nat.{ℕ, zero, suc, ◌+◌, ◌≤◌, ◌<◌}
use native.Mathlib.Omega.{arith}
use mathlib.Core.Path.{◌≡◌, refl, sym, ap, ap₂, ◌∙◌}
use mathlib.Core.List.{List, [], ◌∷◌, ◌++◌, append_assoc}
use lib.ListN.{length, take, drop, get_or, set, length-append, length-take, length-drop}
use lib.Seq.{take-append-add, drop-append-add, drop_at, drop-drop}
use Rattle.octets.specs.Octets.{bytes, number}
use Rattle.octets.proofs.NumberLaws.{length_bytes, read_bytes, drop_bytes}
use Rattle.kinds.specs.Kinds.{width_of}
use Rattle.kinds.specs.declared.Kind.{Kind}
use Rattle.history.specs.Table.{kind_at}
use Rattle.history.specs.Image.{widths, words_bytes, admits, Every, nil, and}
use Rattle.history.proofs.ElementLaws.{admits_fits}
use Rattle.forms.specs.Places.{place_in, Sized, over}

-- ---- bytes laid over others

pub over_past : (xs bs l : List ℕ) (at n : ℕ) → at ≡ length xs + n → over at bs (xs ++ l) ≡ xs ++ over n bs l
over_past xs bs l at n e =
    let f : at + length bs ≡ length xs + (n + length bs) = omega arith in
    ap₂ (λ (p q : ℕ). take p (xs ++ l) ++ (bs ++ drop q (xs ++ l))) e f
    ∙ rw (take-append-add xs l n, drop-append-add xs l (n + length bs), append_assoc)

over_here : (c bs l : List ℕ) → length bs ≡ length c → over 0 bs (c ++ l) ≡ bs ++ l
over_here c bs l e =
    let f : length c ≡ 0 + length bs = omega arith in
    rw (drop_at c l (0 + length bs) f)

pub over_long : (at : ℕ) (bs l : List ℕ) → at + length bs ≤ length l → length (over at bs l) ≡ length l
over_long at bs l h = simp (length-append, length-take, length-drop) (omega arith)

-- ---- the elements

module _ (w : ℕ) where
  -- the bytes of all elements, with a new one laid over object i's
  pub words_over : {ks : List Kind} {ws : List ℕ} → Every admits ks ws → (i : ℕ) → i < length ks
      → over (widths (take i ks)) (bytes (width_of (kind_at ks i)) w) (words_bytes ks ws) ≡ words_bytes ks (set ws i w)
  words_over nil i l = absurd (omega arith)
  words_over (and {a = k} {b = u} {xs = ks} {ys = ws} h r) zero l =
      over_here (bytes (width_of k) u) (bytes (width_of k) w) (words_bytes ks ws)
      (length_bytes (width_of k) w ∙ sym (length_bytes (width_of k) u))
  words_over (and {a = k} {b = u} {xs = ks} {ys = ws} h r) (suc i) l =
      over_past (bytes (width_of k) u) (bytes (width_of (kind_at ks i)) w) (words_bytes ks ws)
      (width_of k + widths (take i ks)) (widths (take i ks))
      (ap (λ (n : ℕ). n + widths (take i ks)) (sym (length_bytes (width_of k) u)))
      ∙ ap (λ (l : List ℕ). bytes (width_of k) u ++ l) (words_over r i (omega arith))

  -- a new element leaves the elements as long as they were
  pub words_long : {ks : List Kind} {ws : List ℕ} → Every admits ks ws → (i : ℕ)
      → length (words_bytes ks (set ws i w)) ≡ length (words_bytes ks ws)
  words_long nil i = refl
  words_long (and {a = k} {b = u} {xs = ks} {ys = ws} h r) zero =
      length-append (bytes (width_of k) w) (words_bytes ks ws)
      ∙ ap (λ (n : ℕ). n + length (words_bytes ks ws))
      (length_bytes (width_of k) w ∙ sym (length_bytes (width_of k) u))
      ∙ sym (length-append (bytes (width_of k) u) (words_bytes ks ws))
  words_long (and {a = k} {b = u} {xs = ks} {ys = ws} h r) (suc i) =
      length-append (bytes (width_of k) u) (words_bytes ks (set ws i w))
      ∙ ap (λ (n : ℕ). length (bytes (width_of k) u) + n) (words_long r i)
      ∙ sym (length-append (bytes (width_of k) u) (words_bytes ks ws))

-- object i's element is read from its place
pub words_number : {ks : List Kind} {ws : List ℕ} → Every admits ks ws → (i : ℕ) → i < length ks
    → number (take (width_of (kind_at ks i)) (drop (widths (take i ks)) (words_bytes ks ws))) ≡ get_or ws i 0
words_number nil i l = absurd (omega arith)
words_number (and {a = k} {b = w} {xs = ks} {ys = ws} h r) zero l =
    read_bytes (width_of k) w (words_bytes ks ws) (admits_fits k w h)
words_number (and {a = k} {b = w} {xs = ks} {ys = ws} h r) (suc i) l =
    ap (λ (b : List ℕ). number (take (width_of (kind_at ks i)) b))
    (sym (drop-drop (widths (take i ks)) (width_of k) (words_bytes (k ∷ ks) (w ∷ ws)))
    ∙ ap (drop (widths (take i ks))) (drop_bytes (width_of k) w (words_bytes ks ws)))
    ∙ words_number r i (omega arith)

-- it ends within the elements
pub place_within : (ks : List Kind) (i : ℕ) → i < length ks → place_in ks i + width_of (kind_at ks i) ≤ widths ks
place_within [] i l = absurd (omega arith)
place_within (k ∷ ks) zero l = omega arith
place_within (k ∷ ks) (suc i) l = omega (arith, place_within ks i (omega arith))

-- ---- from what the code knows of an object: its place, its kind, its width

module _ {ks : List Kind} {es : List ℕ} {i : ℕ} (s : Sized ks es i) {at : ℕ} (at-is : at ≡ place_in ks i) {kind : Kind}
    (kind_is_lem : kind ≡ kind_at ks i) {w : ℕ} (w-is : w ≡ width_of kind) where
  pub own_width : w ≡ width_of (kind_at ks i)
  own_width = w-is ∙ ap width_of kind_is_lem

  -- the element ends within the bytes
  pub element_inside : at + w ≤ length es
  element_inside =
      omega (arith, own_width, at-is, s.long, place_within ks i s.below)

  -- the number read there is the element's
  pub number_at : number (take w (drop at es))
      ≡ number (take (width_of (kind_at ks i)) (drop (place_in ks i) es))
  number_at = ap₂ (λ (n m : ℕ). number (take n (drop m es))) own_width at-is

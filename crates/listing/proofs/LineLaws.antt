-- The lines of the listing: writes one after the other make a line, and how long a line is.
-- Assumes nothing.
use Prim.Native.Nat.{ℕ, zero, suc, ◌+◌, ◌*◌, ◌/◌, ◌%◌, ◌≤◌}
use native.Mathlib.Omega.{arith}
use mathlib.Core.Path.{◌≡◌}
use mathlib.Core.Bool.{Bool, true, false, cond}
use mathlib.Core.List.{List, [], ◌∷◌, ◌++◌}
use lib.Dec.{ltb}
use lib.ListN.{length, length-append}
use lib.Seq.{append_snoc}
use Rattle.text.specs.Decimal.{decimal_in, decimal}
use Rattle.text.specs.Hex.{hexes}
use Rattle.text.specs.Grew.{Grew}
use Rattle.text.specs.declared.Page.{Page}
use Rattle.text.proofs.Laws.{grew_then, hexes_length}
use Rattle.listing.specs.Listing.{refused_word, first_line, object_line, refused_line}
use Rattle.listing.specs.Walk.{Numbered, line_size}

-- ---- a number's digits: ten at most

ten_at : (b : Bool) (k n : ℕ) (r : List ℕ) → length r ≤ k
    → length (cond b ((48 + n) ∷ []) (r ++ ((48 + n % 10) ∷ []))) ≤ suc k
ten_at true k n r h = omega arith
ten_at false k n r h = omega (arith, length-append r ((48 + n % 10) ∷ []))

digits : (k n : ℕ) → length (decimal_in k n) ≤ k
unfolding decimal_in
digits zero n = omega arith
digits (suc k) n = ten_at (ltb n 10) k n (decimal_in k (n / 10)) (digits k (n / 10))

pub ten : (n : ℕ) → length (decimal n) ≤ 10
unfolding decimal
ten n = digits 10 n

pub room : (n at size : ℕ) → at + 11 ≤ size → at + (length (decimal n) + 1) ≤ size
room n at size h = omega (arith, ten n)

-- ---- a number and the byte after it, and the next

pub numbered : {p q r : Page} (n mark : ℕ) → Grew p (decimal n) q → Grew q (mark ∷ []) r → Numbered p n mark r
numbered n mark w v = record {
  written = grew_then w v;
  place = omega (arith, w.wrote.next, v.wrote.next);
  few = omega (arith, w.wrote.next, v.wrote.next, ten n);
}

next : {p q r : Page} {n mark : ℕ} {ys : List ℕ} → Numbered p n mark q → Grew q ys r
    → Grew p (decimal n ++ (mark ∷ ys)) r
next {n = n} {mark = mark} {ys = ys} w v = rw (append_snoc (decimal n) mark ys) at (grew_then w.written v)

-- where an element in hex ends
pub after_hexes : (element : List ℕ) {p q : Page} → Grew p (hexes element) q → q.at ≡ p.at + 2 * length element
after_hexes element w = omega (arith, w.wrote.next, hexes_length element)

-- ---- the three lines

pub first_line_lem : {x y position count : ℕ} {p₀ p₁ p₂ p₃ p₄ : Page}
    → Numbered p₀ x 46 p₁ → Numbered p₁ y 32 p₂ → Numbered p₂ position 32 p₃ → Numbered p₃ count 10 p₄
    → Grew p₀ (first_line x y position count) p₄
unfolding first_line
first_line_lem w₁ w₂ w₃ w₄ = next w₁ (next w₂ (next w₃ w₄.written))

pub object_line_lem : {i type : ℕ} {label : List ℕ} (element : List ℕ) {p₀ p₁ p₂ p₃ p₄ p₅ p₆ : Page}
    → Numbered p₀ i 32 p₁ → Numbered p₁ type 32 p₂ → Grew p₂ label p₃ → Grew p₃ (32 ∷ []) p₄
    → Grew p₄ (hexes element) p₅ → Grew p₅ (10 ∷ []) p₆
    → Grew p₀ (object_line i type label element) p₆
unfolding object_line
object_line_lem element w₁ w₂ w₃ w₄ w₅ w₆ = next w₁ (next w₂ (grew_then w₃ (grew_then w₄ (grew_then w₅ w₆))))

pub refused_line_lem : {code object bit : ℕ} {p₀ p₁ p₂ p₃ p₄ : Page}
    → Grew p₀ (refused_word ++ (32 ∷ [])) p₁ → Numbered p₁ code 32 p₂ → Numbered p₂ object 32 p₃
    → Numbered p₃ bit 10 p₄
    → Grew p₀ (refused_line code object bit) p₄
unfolding refused_line
refused_line_lem w₁ w₂ w₃ w₄ = grew_then w₁ (next w₂ (next w₃ w₄.written))

-- ---- lengths

pub first_length : (x y position count : ℕ) → length (first_line x y position count) ≤ 44
unfolding first_line
first_length x y position count = simp length-append (omega (arith, ten x, ten y, ten position, ten count))

pub refused_length : (code object bit : ℕ) → length (refused_line code object bit) ≤ 41
unfolding refused_line
refused_length code object bit = simp length-append (omega (arith, ten code, ten object, ten bit))

pub object_length : (i type : ℕ) (label element : List ℕ)
    → length (object_line i type label element) ≡ line_size i type label element
unfolding object_line
object_length i type label element = simp (length-append, hexes_length) (omega arith)

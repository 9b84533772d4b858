-- A glance at all fields of a number at once: if nothing is carried into a marked bit, each field has a listed value.
-- Assumes nothing.
use mathlib.Core.Path.{◌≡◌, ◌∙◌, refl, sym, ap}
use mathlib.Core.Bool.{Bool, true, false, ◌||◌}
use mathlib.Core.List.{List, [], ◌∷◌}
use Prim.Native.Nat.{ℕ, suc, ◌+◌, ◌-◌, ◌*◌, ◌/◌, ◌%◌, ◌^◌, ◌<◌, ◌≤◌}
use native.Mathlib.Omega.{arith}
use native.Mathlib.Nat.{mod-lt, zero-div, add-mul, div-lt_iff_lt-mul}
use borrow.Author.Tests.{eqb-true, leb-true, leb-false}
use lib.Bits.{bit_and, bit_xor, and_shr, and_mod, and_mask, xor_shr, xor_add_and}
use lib.Dec.{T, leb, eqb, eqb→eq}
use lib.Pow.{pow_pos, pow-add, shl-shr, split, high, mod-pow-add}
use Rattle.rows.specs.Rows.{Row}
use Rattle.rows.specs.Values.{field_of, values_of}
use Rattle.rows.specs.Marks.{admits_all, marks, marked, carries_none, Shows}
use Rattle.rows.proofs.Tests.{both_left, both_right}
use Rattle.rows.proofs.Words.{Within}
use Rattle.rows.proofs.Listed.{within_accepted}

-- if no marked bit is 1, each marked bit is 0
bit_clear : (x c p : ℕ) → bit_and x c ≡ 0 → c / 2 ^ p % 2 ≡ 1 → x / 2 ^ p % 2 ≡ 0
bit_clear x c p h m =
    let b = x / 2 ^ p % 2 in
    let none : bit_and (x / 2 ^ p) (c / 2 ^ p) ≡ 0 =
    sym (and_shr x c p) ∙ ap (λ (n : ℕ). n / 2 ^ p) h ∙ zero-div (2 ^ p) in
    let own : bit_and (x / 2 ^ p) (c / 2 ^ p) % 2 ≡ b % 2 =
    and_mod (x / 2 ^ p) (c / 2 ^ p) 1 ∙ ap (bit_and b) m ∙ and_mask b 1 in
    omega arith

-- if bit p of a sum is the exclusive or of its parts' bits, nothing was carried into it: what is below didn't overflow
no_carry : (w a p : ℕ) → bit_xor (bit_xor (w + a) w) a / 2 ^ p % 2 ≡ 0 → w % 2 ^ p + a % 2 ^ p < 2 ^ p
no_carry w a p e = go (leb (2 ^ p) (w % 2 ^ p + a % 2 ^ p)) refl
  where
    go : (b : Bool) → leb (2 ^ p) (w % 2 ^ p + a % 2 ^ p) ≡ b → w % 2 ^ p + a % 2 ^ p < 2 ^ p
    go false t = leb-false _ _ t
    go true t =
        let x = w / 2 ^ p in
        let y = a / 2 ^ p in
        let s = (w + a) / 2 ^ p in
        let over : 2 ^ p ≤ w % 2 ^ p + a % 2 ^ p = leb-true _ _ t in
        let q = w % 2 ^ p + a % 2 ^ p - 2 ^ p in
        let small : q < 2 ^ p = omega (arith, mod-lt w (pow_pos p), mod-lt a (pow_pos p)) in
        let sum : w + a ≡ (x + y + 1) * 2 ^ p + q =
        omega (arith, split w p, split a p, add-mul x y (2 ^ p), add-mul (x + y) 1 (2 ^ p)) in
        let carried : s ≡ x + y + 1 = ap (λ (n : ℕ). n / 2 ^ p) sum ∙ high (x + y + 1) p small in
        let bits : bit_xor (bit_xor (w + a) w) a / 2 ^ p ≡ bit_xor (bit_xor s x) y =
        xor_shr (bit_xor (w + a) w) a p ∙ ap (λ (n : ℕ). bit_xor n y) (xor_shr (w + a) w p) in
        omega (arith, xor_add_and s x, xor_add_and (bit_xor s x) y)

-- if nothing is carried out of a field, the sum of its value and what is added fits in it
field_fits : (w a k d : ℕ) → w % 2 ^ (d + k) + a % 2 ^ (d + k) < 2 ^ (d + k)
    → w / 2 ^ k % 2 ^ d + a / 2 ^ k % 2 ^ d < 2 ^ d
field_fits w a k d h =
    let v = w / 2 ^ k % 2 ^ d in
    let u = a / 2 ^ k % 2 ^ d in
    let less : (v + u) * 2 ^ k < 2 ^ d * 2 ^ k =
    omega (arith, mod-pow-add w d k, mod-pow-add a d k, pow-add 2 d k, add-mul v u (2 ^ k)) in
    rw shl-shr at ((div-lt_iff_lt-mul {k = 2 ^ k} {x = (v + u) * 2 ^ k} {y = 2 ^ d} (pow_pos k)).1 less)

module _ (w add carry : ℕ) (none : carries_none add carry w ≡ true) where
  narrow : (r : Row) → T (marks add carry r) → field_of w r ≤ r.top
  unfolding carries_none
  narrow r t =
      let sum = eqb (suc (add / 2 ^ r.low % 2 ^ r.width + r.top)) (2 ^ r.width) in
      let bit = eqb (carry / 2 ^ (r.width + r.low) % 2) 1 in
      let filled : suc (add / 2 ^ r.low % 2 ^ r.width + r.top) ≡ 2 ^ r.width = eqb→eq _ _ (both_left sum bit t) in
      let clear = bit_clear _ carry (r.width + r.low) (eqb-true _ 0 none) (eqb→eq _ _ (both_right sum bit t)) in
      let fits = field_fits w add r.low r.width (no_carry w add (r.width + r.low) clear) in
      omega arith

  wide : (r : Row) → admits_all r ≡ true → field_of w r ≤ r.top
  wide r e =
      let m : field_of w r < 2 ^ r.width = mod-lt (w / 2 ^ r.low) (pow_pos r.width) in
      omega (arith, eqb-true (suc r.top) (2 ^ r.width) e)

  here : (r : Row) (b : Bool) → admits_all r ≡ b → T (b || marks add carry r) → field_of w r ≤ r.top
  here r true e t = wide r e
  here r false e t = narrow r t

  within : (rs : List Row) → T (marked add carry rs) → Within rs (values_of w rs)
  within [] t = tt
  within (r ∷ rs) t =
      let own = admits_all r || marks add carry r in (
        here r (admits_all r) refl (both_left own (marked add carry rs) t),
        within rs (both_right own (marked add carry rs) t),
      )

pub shows : (add carry : ℕ) {rs : List Row} {w : ℕ} {listed : Bool} → T (marked add carry rs)
    → listed ≡ carries_none add carry w → Shows rs w listed
shows add carry {rs} {w} t e = record { accepted = λ on. within_accepted w rs (within w add carry (sym e ∙ on) rs t) }

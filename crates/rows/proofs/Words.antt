-- The arithmetic of fields, once for any rows that tile the bits: a number's fields compose to it, and the fields of a
-- composed number are the values it was composed of.
-- Assumes nothing.
use mathlib.Core.Path.{◌≡◌, ◌∙◌, refl, sym, ap, ap₂, subst}
use mathlib.Core.Bool.{◌&&◌}
use mathlib.Core.List.{List, [], ◌∷◌}
use Prim.Native.Nat.{ℕ, ◌+◌, ◌*◌, ◌/◌, ◌%◌, ◌^◌, ◌<◌, ◌≤◌}
use native.Mathlib.Omega.{arith}
use native.Mathlib.Nat.{add-mul, mul_assoc, mul_comm, mul-one, zero-mul, one-mul, div-one, div-eq_of_lt}
use native.Mathlib.Nat.{mul-le-mul_right, add_assoc, zero-add, lt_of_le_of_lt}
use native.Mathlib.Numerals.{add-one-le}
use lib.Pow.{pow_pos, pow-add, shr-shr, split, high, low}
use lib.Dec.{T, eqb, eqb→eq}
use Rattle.rows.specs.Rows.{Row}
use Rattle.rows.specs.Values.{values_of, compose_of}
use Rattle.rows.specs.Covering.{row_good, tiles}
use Rattle.rows.proofs.Tests.{both_left, both_right}
use Rattle.rows.proofs.Rows.{Good, good}

-- what a passed covering test says of the first row and of the rest
pub record Tiled (at : ℕ) (r : Row) (rs : List Row) (end : ℕ) : Type 0 where
  pub starts : r.low ≡ at
  pub is_good : Good r
  pub rest : T (tiles (at + r.width) rs end)

pub tiled : (at : ℕ) (r : Row) (rs : List Row) (end : ℕ) → T (tiles at (r ∷ rs) end) → Tiled at r rs end
tiled at r rs end t =
    let a = both_left (eqb r.low at && row_good r) (tiles (at + r.width) rs end) t in
    record {
      starts = eqb→eq _ _ (both_left (eqb r.low at) (row_good r) a);
      is_good = good r (both_right (eqb r.low at) (row_good r) a);
      rest = both_right (eqb r.low at && row_good r) (tiles (at + r.width) rs end) t;
    }

-- each value is one that its row admits
abbrev pub Within : List Row → List ℕ → Type 0
Within [] [] = Unit
Within [] (v ∷ vs) = ⊥
Within (r ∷ rs) [] = ⊥
Within (r ∷ rs) (v ∷ vs) = (v ≤ r.top) × Within rs vs

join : (q a d : ℕ) → (q % 2 ^ d) * 2 ^ a + q / 2 ^ d * 2 ^ (a + d) ≡ q * 2 ^ a
join q a d =
    let m = 2 ^ d in
    let e : q / m * m + q % m ≡ q = split q d in
    ap (λ (p : ℕ). (q % m) * 2 ^ a + q / m * p) (pow-add 2 a d ∙ mul_comm (2 ^ a) m)
    ∙ ap (λ (p : ℕ). (q % m) * 2 ^ a + p) (sym (mul_assoc (q / m) m (2 ^ a)))
    ∙ sym (add-mul (q % m) (q / m * m) (2 ^ a))
    ∙ ap (λ (p : ℕ). p * 2 ^ a) (omega arith)

-- the fields of w compose to w
compose_from : (rs : List Row) (at end w : ℕ) → T (tiles at rs end) → w < 2 ^ end
    → compose_of rs (values_of w rs) ≡ w / 2 ^ at * 2 ^ at
compose_from [] at end w t h =
    let e : at ≡ end = eqb→eq at end t in
    sym (ap (λ (q : ℕ). q * 2 ^ at) (div-eq_of_lt (rw e h)) ∙ zero-mul (2 ^ at))
compose_from (r ∷ rs) at end w t h =
    let g = tiled at r rs end t in
    let ih = compose_from rs (at + r.width) end w g.rest h in
    ap₂ (λ (l c : ℕ). (w / 2 ^ l % 2 ^ r.width) * 2 ^ l + c) g.starts
    (ih ∙ ap (λ (q : ℕ). q * 2 ^ (at + r.width)) (sym (shr-shr w at r.width)))
    ∙ join (w / 2 ^ at) at r.width

pub compose_values : (rs : List Row) (end w : ℕ) → T (tiles 0 rs end) → w < 2 ^ end → compose_of rs (values_of w rs) ≡ w
compose_values rs end w t h = compose_from rs 0 end w t h ∙ simp (div-one, mul-one)

-- a composed number has nothing below the first row's bit
divides : (rs : List Row) (vs : List ℕ) (at end : ℕ) → T (tiles at rs end) → (y : ℕ) × (compose_of rs vs ≡ y * 2 ^ at)
divides [] vs at end t = (0, sym (zero-mul (2 ^ at)))
divides (r ∷ rs) [] at end t = (0, sym (zero-mul (2 ^ at)))
divides (r ∷ rs) (v ∷ vs) at end t =
    let g = tiled at r rs end t in
    let y = divides rs vs (at + r.width) end g.rest in (
      v + y.0 * 2 ^ r.width,
      ap₂ (λ (l c : ℕ). v * 2 ^ l + c) g.starts
          (y.1 ∙ ap (λ (p : ℕ). y.0 * p) (pow-add 2 at r.width ∙ mul_comm (2 ^ at) (2 ^ r.width))
          ∙ sym (mul_assoc y.0 (2 ^ r.width) (2 ^ at)))
          ∙ sym (add-mul v (y.0 * 2 ^ r.width) (2 ^ at)),
    )

-- a value that fits its field, shifted to its place, stays below the next row's bit
below_next : (v a d : ℕ) → v < 2 ^ d → v * 2 ^ a + 2 ^ a ≤ 2 ^ (a + d)
below_next v a d h =
    subst (λ (p : ℕ). v * 2 ^ a + 2 ^ a ≤ p) (mul_comm (2 ^ d) (2 ^ a) ∙ sym (pow-add 2 a d))
    (subst (λ (p : ℕ). p ≤ 2 ^ d * 2 ^ a) (add-mul v 1 (2 ^ a) ∙ ap (λ (p : ℕ). v * 2 ^ a + p) (one-mul (2 ^ a)))
    (mul-le-mul_right (2 ^ a) (add-one-le h)))

-- a composed number fits the bits that its rows cover
pub compose_bound : (rs : List Row) (vs : List ℕ) (at end : ℕ) → T (tiles at rs end) → Within rs vs
    → compose_of rs vs + 2 ^ at ≤ 2 ^ end
compose_bound [] [] at end t h = rw (eqb→eq at end t) (omega arith)
compose_bound [] (v ∷ vs) at end t h = absurd h
compose_bound (r ∷ rs) [] at end t h = absurd h
compose_bound (r ∷ rs) (v ∷ vs) at end t h =
    let g = tiled at r rs end t in
    let ih = compose_bound rs vs (at + r.width) end g.rest h.1 in
    let b : v * 2 ^ at + 2 ^ at ≤ 2 ^ (at + r.width) =
    below_next v at r.width (lt_of_le_of_lt h.0 g.is_good.admits) in
    rw g.starts (omega arith)

-- the fields of a composed number, with anything below the first row's bit, are the values
values_from : (rs : List Row) (vs : List ℕ) (at end lo : ℕ) → T (tiles at rs end) → Within rs vs → lo < 2 ^ at
    → values_of (lo + compose_of rs vs) rs ≡ vs
values_from [] [] at end lo t h l = refl
values_from [] (v ∷ vs) at end lo t h l = absurd h
values_from (r ∷ rs) [] at end lo t h l = absurd h
values_from (r ∷ rs) (v ∷ vs) at end lo t h l =
    let g = tiled at r rs end t in
    let y = divides rs vs (at + r.width) end g.rest in
    let d = r.width in
    let c = compose_of rs vs in
    let small : v < 2 ^ d = lt_of_le_of_lt h.0 g.is_good.admits in
    let b : v * 2 ^ at + 2 ^ at ≤ 2 ^ (at + d) = below_next v at d small in
    let whole : lo + (v * 2 ^ at + c) ≡ (y.0 * 2 ^ d + v) * 2 ^ at + lo =
    ap (λ (p : ℕ). lo + (v * 2 ^ at + p))
    (y.1 ∙ ap (λ (p : ℕ). y.0 * p) (pow-add 2 at d ∙ mul_comm (2 ^ at) (2 ^ d))
    ∙ sym (mul_assoc y.0 (2 ^ d) (2 ^ at)))
    ∙ omega (arith, add-mul (y.0 * 2 ^ d) v (2 ^ at)) in
    let here : (lo + (v * 2 ^ at + c)) / 2 ^ at % 2 ^ d ≡ v =
    ap (λ (p : ℕ). p / 2 ^ at % 2 ^ d) whole ∙ ap (λ (p : ℕ). p % 2 ^ d) (high (y.0 * 2 ^ d + v) at l)
    ∙ low y.0 d small in
    let rest : values_of (lo + v * 2 ^ at + c) rs ≡ vs =
    values_from rs vs (at + d) end (lo + v * 2 ^ at) g.rest h.1 (omega arith) in
    ap₂ ◌∷◌
    (ap (λ (k : ℕ). (lo + (v * 2 ^ k + c)) / 2 ^ k % 2 ^ d) g.starts ∙ here)
    (ap (λ (p : ℕ). values_of p rs)
    (ap (λ (k : ℕ). lo + (v * 2 ^ k + c)) g.starts ∙ sym (add_assoc lo (v * 2 ^ at) c)) ∙ rest)

pub values_compose : (rs : List Row) (vs : List ℕ) (end : ℕ) → T (tiles 0 rs end) → Within rs vs
    → values_of (compose_of rs vs) rs ≡ vs
values_compose rs vs end t h = rw zero-add at (values_from rs vs 0 end 0 t h (pow_pos 0))

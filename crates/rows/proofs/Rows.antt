-- What the range rule says of a row, and the machine's `1 << width`.
-- Assumes nothing.
use mathlib.Core.Path.{◌≡◌, ◌∙◌, ap}
use mathlib.Core.Bool.{◌&&◌}
use Prim.Native.Nat.{ℕ, ◌+◌, ◌*◌, ◌%◌, ◌^◌, ◌<◌, ◌≤◌}
use native.Mathlib.Nat.{one-mul, mod-eq_of_lt}
use lib.Pow.{pow-lt}
use lib.Dec.{T, leb, ltb, leb→le, ltb→lt}
use Rattle.rows.specs.Rows.{Row}
use Rattle.rows.specs.Covering.{row_good}
use Rattle.rows.proofs.Tests.{both_left, both_right}

pub record Good (r : Row) : Type 0 where
  pub some : 0 < r.width
  pub small : r.width < 32
  pub within : r.low + r.width ≤ 32
  pub admits : r.top < 2 ^ r.width

pub good : (r : Row) → T (row_good r) → Good r
good r t =
    let size = ltb 0 r.width && ltb r.width 32 in
    let range = leb (r.low + r.width) 32 && ltb r.top (2 ^ r.width) in
    let a = both_left size range t in
    let b = both_right size range t in
    record {
      some = ltb→lt _ _ (both_left (ltb 0 r.width) (ltb r.width 32) a);
      small = ltb→lt _ _ (both_right (ltb 0 r.width) (ltb r.width 32) a);
      within = leb→le _ _ (both_left (leb (r.low + r.width) 32) (ltb r.top (2 ^ r.width)) b);
      admits = ltb→lt _ _ (both_right (leb (r.low + r.width) 32) (ltb r.top (2 ^ r.width)) b);
    }

-- the machine's 1 << k is 2^k below 32 bits
pub one_shl : (k : ℕ) → k < 32 → 1 * 2 ^ k % 4294967296 ≡ 2 ^ k
one_shl k h = ap (λ (n : ℕ). n % 4294967296) (one-mul (2 ^ k)) ∙ mod-eq_of_lt (pow-lt h)

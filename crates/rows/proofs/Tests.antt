-- The parts of a computed test, and what the last arm of a `match` knows.
-- Assumes nothing.
use mathlib.Core.Path.{◌≡◌, sym}
use mathlib.Core.Bool.{Bool, true, false, ◌&&◌}
use Prim.Native.Nat.{ℕ, zero, suc, ◌≤◌, zero-le}
use lib.Arith.{lt_of_le-ne}
use lib.Dec.{T}

pub both_left : (a b : Bool) → T (a && b) → T a
both_left true b t = tt
both_left false b t = t

pub both_right : (a b : Bool) → T (a && b) → T b
both_right true b t = t
both_right false b t = absurd t

-- after the arms for 0, .., n - 1: v is none of them, so v is at least n
abbrev pub None : ℕ → ℕ → Type 0
None v zero = Unit
None v (suc n) = None v n × (v ≡ n → ⊥)

pub past : (v n : ℕ) → None v n → n ≤ v
past v zero r = zero-le
past v (suc n) r = lt_of_le-ne (past v n r.0) (λ e. r.1 (sym e))

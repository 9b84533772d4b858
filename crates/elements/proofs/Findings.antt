-- What the check of an element can find: nothing, or 10, 11 or 12, and with which bit; and nothing in the number 0.
-- Assumes nothing.
use mathlib.Core.Path.{◌≡◌, refl}
use mathlib.Core.Bool.{Bool, true, false, cond}
use mathlib.Core.List.{List, ◌∷◌, ◌++◌}
use mathlib.Core.Logic.{◌⊎◌, inl, inr}
use Prim.Native.Nat.{ℕ}
use lib.Dec.{eqb}
use borrow.Author.Tests.{eqb-true, eqb-false}
use Rattle.rows.specs.Rows.{Row}
use Rattle.rows.specs.Values.{code_at, check_rows}
use Rattle.rows.specs.declared.Refusal.{Refusal}
use Rattle.std.proofs.Common.{Ok, Err}
use Rattle.rows.proofs.Listed.{FirstUnlisted, zero_accepted}
use Rattle.kinds.specs.Kinds.{layout_of, rows_of}
use Rattle.kinds.specs.declared.Kind.{Kind}
use Rattle.elements.specs.Elements.{element_check}
use Rattle.elements.proofs.DatLaws.{Stale, element_names, not_stale}

-- a row of a kind's layout
pub record RowOf (k : Kind) (r : Row) : Type 0 where
  pub below : List Row
  pub above : List Row
  pub parts : rows_of k ≡ below ++ (r ∷ above)

-- how an element of a kind may be refused: 10 with the lowest bit of a reserved field, 11 with that of another field,
-- 12 with bit 0, which is DAT
pub data Refuses (k : Kind) : (code bit : ℕ) → Type 0 where
  reserved : {r : Row} → RowOf k r → r.top ≡ 0 → Refuses k 10 r.low
  unlisted : {r : Row} → RowOf k r → (r.top ≡ 0 → ⊥) → Refuses k 11 r.low
  silent : (layout_of k).dat ≡ true → Refuses k 12 0

pub element_refuses : (k : Kind) (w : ℕ) {x : Refusal} → element_check k w ≡ Err x
    → Refuses k x.code x.bit
element_refuses k w {x} e = go (element_names k w e)
  where
    field : (r : Row) → RowOf k r → (b : Bool) → eqb r.top 0 ≡ b → Refuses k (cond b 10 11) r.low
    field r m true q = reserved m (eqb-true _ _ q)
    field r m false q = unlisted m (eqb-false _ _ q)

    go : FirstUnlisted w (rows_of k) x
        ⊎ ((check_rows w (rows_of k) ≡ Ok tt) × Stale k w × (x ≡ code_at 12 0))
        → Refuses k x.code x.bit
    go (inl q) =
        rw q.told
        (field q.row (record { below = q.below; above = q.above; parts = q.parts })
        (eqb q.row.top 0) refl)
    go (inr q) = rw q.2 (silent q.1.dat)

-- the number 0 is an accepted element of every kind
pub zero_found : (k : Kind) → element_check k 0 ≡ Ok tt
unfolding element_check
zero_found k = rw (zero_accepted (rows_of k)) (not_stale k 0 (λ s. s.other refl))

-- The covering rule for each kind; and kinds with the same layout number are the same.
-- Assumes nothing.
use mathlib.Core.Path.{◌≡◌, refl, sym, ap}
use mathlib.Core.Bool.{Bool, true, false}
use borrow.Author.Tests.{eq-eqb, ne_eqb}
use Prim.Native.Nat.{ℕ, ◌*◌, ◌<◌}
use Rattle.rows.specs.Covering.{holding}
use Rattle.rows.proofs.Covering.{Covered, layout_covered, held_once}
use Rattle.kinds.specs.Kinds.{place, layout_of, layout_no, width_of, rows_of}
use Rattle.elements.specs.Elements.{carried_kind, kind_numbered, same_kind}
use Rattle.kinds.specs.declared.Kind.{Kind}
use Rattle.kinds.proofs.KindLaws.{placed, kind_found}

pub cover : (k : Kind) → Covered (layout_of k)
cover k = layout_covered (place k) (placed k)

-- each bit of a kind's element is in exactly one of its rows
pub bit_once : (k : Kind) (b : ℕ) → b < 8 * width_of k → holding b (rows_of k) ≡ 1
bit_once k b h = held_once (layout_of k) (cover k) b h

pub kind_numbered_lem : (k : Kind) → kind_numbered (layout_no k) ≡ k
unfolding kind_numbered
kind_numbered_lem k = ap carried_kind (kind_found k)

pub kind_same : (j k : Kind) → layout_no j ≡ layout_no k → j ≡ k
kind_same j k e = let a = kind_numbered_lem j in let b = kind_numbered_lem k in let c = ap kind_numbered e in cc

-- whether kinds are equal is whether their layouts' numbers are
pub same_by_number : (j k : Kind) (b : Bool) → (b ≡ true → j ≡ k) → (b ≡ false → j ≡ k → ⊥) → b ≡ same_kind j k
same_by_number j k true t f = sym (eq-eqb _ _ (ap layout_no (t refl)))
same_by_number j k false t f = sym (ne_eqb _ _ (λ e. f refl (kind_same j k e)))

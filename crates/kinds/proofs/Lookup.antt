-- Looking up a number among lines: what a test says of every line holds of the line found.
-- Written by catalogue/write.py. Assumes nothing.
use mathlib.Core.Path.{◌≡◌, refl, subst, subst⁻¹}
use mathlib.Core.Bool.{Bool, true, false, cond, ◌&&◌}
use mathlib.Core.List.{List, [], ◌∷◌}
use Prim.Native.Nat.{ℕ}
use native.Mathlib.Omega.{arith}
use lib.Dec.{T, eqb}
use borrow.Author.Tests.{eqb-true}
use Rattle.std.proofs.Common.{Some}
use Rattle.rows.proofs.Tests.{both_left, both_right}
use Rattle.kinds.specs.Kinds.{KindLine, find_in}
use Rattle.kinds.specs.declared.Kind.{Kind}

abbrev pub all_lines : (ℕ → Kind → Bool) → List KindLine → Bool
all_lines test [] = true
all_lines test (l ∷ ls) = test l.number l.kind && all_lines test ls

pub every_line : (test : ℕ → Kind → Bool) (n : ℕ) (ls : List KindLine) → T (all_lines test ls) → {k : Kind}
    → find_in n ls ≡ Some k → T (test n k)
every_line test n [] t e = absurd (let z : ◌≡◌ {A = ℕ} 0 1 = cc in omega arith)
every_line test n (l ∷ ls) t {k} e =
    at (eqb n l.number) refl (every_line test n ls (both_right (test l.number l.kind) (all_lines test ls) t)) e
  where
    here : (j : Kind) → T (test l.number j) → Some j ≡ Some k → n ≡ l.number
        → T (test n k)
    here j h e q =
        subst⁻¹ (λ (m : ℕ). T (test m k)) q
        (let same : j ≡ k = cc in subst (λ (j : Kind). T (test l.number j)) same h)

    at : (b : Bool) → eqb n l.number ≡ b → (find_in n ls ≡ Some k → T (test n k))
        → cond b (Some l.kind) (find_in n ls) ≡ Some k → T (test n k)
    at true q rest e =
        here l.kind (both_left (test l.number l.kind) (all_lines test ls) t) e (eqb-true n l.number q)
    at false q rest e = rest e

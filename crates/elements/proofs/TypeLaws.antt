-- Looking up a catalogue by its X: if none has this X, no kind is found. And what a test says of every line of the
-- catalogues holds of every type that is carried and its kind.
-- Assumes nothing.
use mathlib.Core.Path.{◌≡◌, ◌∙◌, refl, sym, ap, subst⁻¹}
use mathlib.Core.Bool.{Bool, true, false, cond, ◌&&◌}
use mathlib.Core.List.{List, [], ◌∷◌}
use Prim.Native.Nat.{ℕ}
use native.Mathlib.Omega.{arith}
use lib.Dec.{T, eqb}
use borrow.Author.Tests.{ne_eqb, eqb-true}
use Rattle.rows.proofs.Tests.{both_left, both_right}
use Rattle.kinds.specs.Kinds.{find_in}
use Rattle.kinds.specs.declared.Kind.{Kind}
use Rattle.std.proofs.Common.{Option, Some, None, is_some}
use Rattle.kinds.proofs.Lookup.{all_lines, every_line}
use Rattle.elements.specs.Types.{Catalogue, catalogues, find_under, find_by_type}
use Rattle.elements.specs.Elements.{carried_kind, carried, kind_of}

abbrev pub Unknown : ℕ → List Catalogue → Type 0
Unknown x [] = Unit
Unknown x (c ∷ cs) = (x ≡ c.x → ⊥) × Unknown x cs

pub not_carried : (x type : ℕ) (cs : List Catalogue) → Unknown x cs → None ≡ find_under x type cs
not_carried x type [] u = refl
not_carried x type (c ∷ cs) u =
    not_carried x type cs u.1
    ∙ sym (ap (λ (b : Bool). cond b (find_in type c.types) (find_under x type cs)) (ne_eqb x c.x u.0))

-- ---- every type that is carried

abbrev pub all_types : (ℕ → ℕ → Kind → Bool) → List Catalogue → Bool
all_types test [] = true
all_types test (c ∷ cs) = all_lines (test c.x) c.types && all_types test cs

every_found : (test : ℕ → ℕ → Kind → Bool) (cs : List Catalogue) → T (all_types test cs) → (x type : ℕ) {k : Kind}
    → find_under x type cs ≡ Some k → T (test x type k)
every_found test [] t x type e = absurd (let z : ◌≡◌ {A = ℕ} 0 1 = cc in omega arith)
every_found test (c ∷ cs) t x type {k} e =
    at (eqb x c.x) refl
    (every_found test cs (both_right (all_lines (test c.x) c.types) (all_types test cs) t) x type) e
  where
    at : (b : Bool) → eqb x c.x ≡ b → (find_under x type cs ≡ Some k → T (test x type k))
        → cond b (find_in type c.types) (find_under x type cs) ≡ Some k → T (test x type k)
    at true q rest e =
        subst⁻¹ (λ (y : ℕ). T (test y type k)) (eqb-true x c.x q)
        (every_line (test c.x) type c.types
        (both_left (all_lines (test c.x) c.types) (all_types test cs) t) e)
    at false q rest e = rest e

its_kind : (s : Option Kind) → is_some s ≡ true → s ≡ Some (carried_kind s)
its_kind (Some k) e = refl
its_kind None e = absurd (let z : ◌≡◌ {A = ℕ} 0 1 = cc in omega arith)

pub every_carried : (test : ℕ → ℕ → Kind → Bool) → T (all_types test catalogues) → (x type : ℕ) → carried x type ≡ true
    → T (test x type (kind_of x type))
unfolding carried kind_of
every_carried test t x type e = every_found test catalogues t x type (its_kind (find_by_type x type) e)

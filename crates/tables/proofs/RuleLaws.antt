-- The rules that a version or a catalogue sets, from the code's tests.
-- Assumes nothing.
use Prim.Native.Nat.{ℕ, ◌≤◌, ◌<◌}
use mathlib.Core.Path.{◌≡◌, refl}
use mathlib.Core.Bool.{false, ◌&&◌}
use lib.Dec.{eqb, leb}
use borrow.Author.Tests.{lt-leb, le-leb, ne_eqb}
use Rattle.history.specs.Table.{version_good, catalogue_good, label_limit}

pub version_is : (v : ℕ) → eqb v 1 ≡ version_good v
unfolding version_good
version_is v = refl

pub catalogue_other : (x y : ℕ) → (x ≡ 1 → ⊥) → (x ≡ 3 → ⊥) → false ≡ catalogue_good x y
unfolding catalogue_good
catalogue_other x y n m = simp (ne_eqb _ _ n, ne_eqb _ _ m)

pub limit_is : (v : ℕ) → 32 ≡ label_limit v
unfolding label_limit
limit_is v = refl

module _ (v n : ℕ) where
  pub size_none : n < 1 → false ≡ (leb 1 n && leb n (label_limit v))
  size_none h = simp (lt-leb _ _ h)

  pub size_some : 1 ≤ n → (l : ℕ) → l ≡ label_limit v → leb n l ≡ (leb 1 n && leb n (label_limit v))
  size_some h l e = rw (← e) (simp (le-leb _ _ h))

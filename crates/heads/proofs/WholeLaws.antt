-- `is_whole`, the test of code 1, from the three tests that the code makes.
-- Assumes nothing.
use Prim.Native.Nat.{ℕ, ◌+◌, ◌≤◌, ◌<◌}
use mathlib.Core.Path.{◌≡◌}
use mathlib.Core.Bool.{false}
use mathlib.Core.List.{List}
use lib.Dec.{leb}
use lib.ListN.{length, take}
use borrow.Author.Tests.{lt-leb, le-leb, eq-eqb, ne_eqb}
use Rattle.octets.specs.Octets.{number}
use Rattle.history.specs.Form.{is_whole}

module _ (least : ℕ) (b : List ℕ) where
  pub short : length b < 4 → false ≡ is_whole least b
  unfolding is_whole
  short h = simp (lt-leb _ _ h)

  module _ (h4 : 4 ≤ length b) (n : ℕ) (e : n ≡ number (take 4 b)) where
    pub other : (length b ≡ 4 + n → ⊥) → false ≡ is_whole least b
    unfolding is_whole
    other h = rw (← e) (simp (le-leb _ _ h4, ne_eqb _ _ h))

    pub fills : length b ≡ 4 + n → leb least n ≡ is_whole least b
    unfolding is_whole
    fills h = rw (← e) (simp (le-leb _ _ h4, eq-eqb _ _ h))

-- The kinds of objects, and their widths, object by object.
-- Assumes nothing.
use Prim.Native.Nat.{ℕ, suc, ◌+◌, ◌≤◌, ◌<◌}
use native.Mathlib.Omega.{arith}
use mathlib.Core.Path.{◌≡◌, sym, ap, ◌∙◌}
use mathlib.Core.List.{List, [], ◌∷◌}
use lib.ListN.{length, get_or, drop, get_or-map, drop_of_length-le}
use lib.Seq.{drop-cons}
use Rattle.rows.specs.Rows.{layouts}
use Rattle.kinds.specs.declared.Kind.{Kind}
use Rattle.history.specs.Table.{kind_at}
use Rattle.elements.specs.Elements.{kind_numbered}
use Rattle.tables.specs.Outlines.{kinds_of}

-- of the kinds that layout numbers stand for
pub kind_is_lem : (ns : List ℕ) (i : ℕ) → kind_numbered (get_or ns i 0) ≡ kind_at (kinds_of ns) i
unfolding kinds_of kind_numbered layouts
kind_is_lem ns i = sym (get_or-map kind_numbered ns i 0)

module _ (ks : List Kind) (i : ℕ) where
  pub kinds_next : i < length ks → drop i ks ≡ kind_at ks i ∷ drop (i + 1) ks
  kinds_next h =
      let one : suc i ≡ i + 1 = omega arith in
      drop-cons ks i Kind.Signal (omega arith)
      ∙ ap (λ (n : ℕ). kind_at ks i ∷ drop n ks) one

  pub kinds_end : length ks ≤ i → drop i ks ≡ []
  kinds_end h = drop_of_length-le ks {i = i} (omega arith)

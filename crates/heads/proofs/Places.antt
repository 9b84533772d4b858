-- The places as numbers: what a head holds comes before them.
-- Assumes nothing.
use Prim.Native.Nat.{ℕ, ◌+◌, ◌-◌, ◌≤◌, ◌<◌}
use native.Mathlib.Omega.{arith}
use mathlib.Core.Path.{◌≡◌, refl, sym, ap, ◌∙◌}
use mathlib.Core.List.{List}
use lib.ListN.{length, get_or, take, drop, length-drop}
use Rattle.history.specs.Table.{object, Table, objects_bytes}
use Rattle.history.specs.Image.{elements_from}
use Rattle.history.specs.Calls.{label_place}
use Rattle.heads.specs.Heads.{objects_place, elements_place, image_head, elements_in, entries_place}
use Rattle.heads.proofs.Forms.{to_end}

-- before a table's objects are the length, version, X, Y and the count
pub objects_place_lem : objects_place ≡ 9
unfolding objects_place
objects_place_lem = refl

-- before a label are the earlier entries and its own type and length
pub label_from : (t : Table) (i : ℕ)
    → label_place t i
    ≡ record {
      offset = objects_place + (length (objects_bytes (take i t.objects)) + 2);
      size = length (object t i).label;
    }
unfolding objects_place
label_from t i = refl

-- before an image's elements are the length, version, X, Y and the position
pub elements_place_lem : (version : ℕ) → elements_place version ≡ 11
unfolding elements_place elements_from
elements_place_lem version = refl

pub head_place : (b : List ℕ) → 11 ≤ image_head b
unfolding image_head
head_place b = omega (arith, elements_place_lem (get_or b 4 0))

pub head_few : (b : List ℕ) → image_head b ≤ 16
unfolding image_head
head_few b = omega (arith, elements_place_lem (get_or b 4 0))

-- if the elements begin inside, the version and the position are inside
pub version_inside : (b : List ℕ) → image_head b ≤ length b → 4 < length b
version_inside b h = omega (arith, head_place b)

pub position_inside : (b : List ℕ) → image_head b ≤ length b → 11 ≤ length b
position_inside b h = omega (arith, head_place b)

-- the place where an image's elements begin, as the code finds it
module _ (b : List ℕ) (place : ℕ) (e : place ≡ elements_place (get_or b 4 0)) where
  pub head_is : image_head b ≡ place
  unfolding image_head
  head_is = sym e

  pub head_inside : place ≤ length b → image_head b ≤ length b
  head_inside h = omega (arith, head_is)

  -- elements that fill the rest of the image
  pub elements_fill : {w : ℕ} → length b ≡ place + w → {s : List ℕ} → s ≡ elements_in b → length s ≡ w
  unfolding elements_in
  elements_fill h f = ap length f ∙ length-drop (image_head b) b ∙ omega (arith, head_is)

-- the bytes from that place on are the elements
pub elements_from_lem : (b : List ℕ) (place : ℕ) → place ≡ image_head b
    → take (length b - place) (drop place b) ≡ elements_in b
unfolding elements_in
elements_from_lem b place e = to_end place b ∙ ap (λ (n : ℕ). drop n b) e

-- before a list's entries are the length, version, X, Y, the positions and the count
pub entries_place_lem : entries_place ≡ 17
unfolding entries_place
entries_place_lem = refl

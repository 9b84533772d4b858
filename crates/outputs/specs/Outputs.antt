-- The bytes that are written: the list of a walk's changes; an image after a list's entries, and after one element.
use Rattle.std.specs.Prelude.{ℕ, List}
use Rattle.octets.specs.Octets.{bytes}
use Rattle.kinds.specs.Kinds.{width_of}
use Rattle.kinds.specs.declared.Kind.{Kind}
use Rattle.history.specs.Table.{kind_at}
use Rattle.history.specs.Changes.{list_bytes}
use Rattle.heads.specs.Heads.{elements_in}
use Rattle.heads.specs.Written.{with_elements}
use Rattle.steps.specs.declared.Walk.{Walk}
use Rattle.tables.specs.Plans.{plan_with}
use Rattle.forms.specs.Places.{place_in, over}
use Rattle.walks.specs.Walks.{walked, renewal}

-- the list of a walk's changes
unfoldable pub walk_list : Walk → ℕ → ℕ → List Kind → ℕ → ℕ → List ℕ → List ℕ → List ℕ
walk_list walk x y ks from to f s =
    list_bytes (plan_with x y ks) (record { from = from; to = to; each = walked walk 0 ks f s })

-- the image b after the entries e, at the position to
unfoldable pub image_after : List Kind → ℕ → List ℕ → List ℕ → List ℕ
image_after ks to e b = with_elements b to (renewal 0 ks e (elements_in b))

-- the image b with the number w for object i's element, at the position to
unfoldable pub image_with : List Kind → ℕ → ℕ → ℕ → List ℕ → List ℕ
image_with ks to i w b = with_elements b to (over (place_in ks i) (bytes (width_of (kind_at ks i)) w) (elements_in b))

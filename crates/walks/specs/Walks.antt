-- The walk over two forms, and an image's elements under a list's entries, object by object, on any bytes.
-- A device between the code and the meaning, which is in `history`:
-- proofs/Bridges ties it to the meaning where the bytes are those of accepted forms.
use Rattle.std.specs.Prelude.{ℕ, suc, ◌≤◌, ◌≡◌, cond, List, [], ◌∷◌, ◌++◌, length, take, drop}
use Rattle.octets.specs.Octets.{number}
use Rattle.kinds.specs.Kinds.{width_of}
use Rattle.kinds.specs.declared.Kind.{Kind}
use Rattle.history.specs.declared.Change.{Change}
use Rattle.history.specs.Changes.{entries_bytes, entries, fits}
use Rattle.history.specs.Image.{widths}
use Rattle.steps.specs.declared.Walk.{Walk}
use Rattle.steps.specs.Steps.{span, change_at, step_of, renewed}

-- the changes of the objects from i on, and their entries
unfoldable pub walked : Walk → ℕ → List Kind → List ℕ → List ℕ → List Change
walked walk i [] f s = []
walked walk i (k ∷ ks) f s =
    (step_of walk i (width_of k) f s).change
    ∷ walked walk (suc i) ks (drop (step_of walk i (width_of k) f s).first f)
    (drop (step_of walk i (width_of k) f s).second s)

abbrev pub walk_bytes : Walk → ℕ → List Kind → List ℕ → List ℕ → List ℕ
walk_bytes walk i ks f s = entries_bytes i ks (walked walk i ks f s)

-- f and s are as long as the objects' elements together, as those of an image are
pub record ElementsLong (ks : List Kind) (f s : List ℕ) : Type 0 where
  pub first : length f ≡ widths ks
  pub second : length s ≡ widths ks

-- what a walk asks of the two forms
abbrev pub Asked : Walk → List Kind → List ℕ → List ℕ → Type 0
Asked Walk.Difference ks f s = ElementsLong ks f s
Asked Walk.Join ks f s = Unit {0}
Asked Walk.Turn ks f s = Unit {0}

-- the count of a walk's entries, and the bytes that they take
pub record Measured (walk : Walk) (ks : List Kind) (f s : List ℕ) (count size : ℕ) : Type 0 where
  pub entries : count ≡ entries (walked walk 0 ks f s)
  pub bytes : size ≡ length (walk_bytes walk 0 ks f s)
  pub few : count ≤ 1024
  pub short : size ≤ 10240

-- the lowest object on which the forms do not agree, or one past the last
unfoldable pub misfit : Walk → ℕ → List Kind → List ℕ → List ℕ → ℕ
misfit walk i [] f s = i
misfit walk i (k ∷ ks) f s =
    cond (step_of walk i (width_of k) f s).agrees
    (misfit walk (suc i) ks (drop (step_of walk i (width_of k) f s).first f)
    (drop (step_of walk i (width_of k) f s).second s))
    i

-- ---- the elements b under the entries e

-- the lowest object whose element is not its entry's old one, or one past the last
unfoldable pub unfit : ℕ → List Kind → List ℕ → List ℕ → ℕ
unfit i [] e b = i
unfit i (k ∷ ks) e b =
    cond (fits (change_at i (width_of k) e) (number (take (width_of k) b)))
    (unfit (suc i) ks (drop (span (width_of k) (change_at i (width_of k) e)) e) (drop (width_of k) b))
    i

-- the elements after the entries
unfoldable pub renewal : ℕ → List Kind → List ℕ → List ℕ → List ℕ
renewal i [] e b = []
renewal i (k ∷ ks) e b =
    renewed (change_at i (width_of k) e) (take (width_of k) b)
    ++ renewal (suc i) ks (drop (span (width_of k) (change_at i (width_of k) e)) e) (drop (width_of k) b)

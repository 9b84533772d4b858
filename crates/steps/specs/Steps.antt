-- One object's step over two forms, on any bytes. A device between the code and the meaning, which is in `history`:
-- the laws of `walks` tie it to the meaning where the bytes are those of accepted forms.
use Rattle.std.specs.Prelude.{ℕ, ◌+◌, ◌≤◌, ◌<◌, ◌≡◌, Bool, true, false, cond, ◌&&◌, List, [], ◌++◌, eqb, leb, length}
use Rattle.std.specs.Prelude.{take, drop}
use Rattle.octets.specs.Octets.{bytes, number}
use Rattle.history.specs.declared.Change.{Change}
use Rattle.history.specs.declared.Change.TheVariants.{Keep as keep, Swap as swap}
use Rattle.history.specs.Changes.{differ, meets, joined, back}
use Rattle.steps.specs.declared.Walk.{Walk}

-- the bytes that an object's entry takes, and the entry itself
abbrev pub span : ℕ → Change → ℕ
span w keep = 0
span w (swap old new) = 2 + (w + w)

abbrev pub entry_bytes : ℕ → ℕ → Change → List ℕ
entry_bytes i w keep = []
entry_bytes i w (swap old new) = bytes 2 i ++ (bytes w old ++ bytes w new)

-- the first entry of b is whole and names object i
unfoldable pub names : ℕ → ℕ → List ℕ → Bool
names i w b = leb (2 + (w + w)) (length b) && eqb (number (take 2 b)) i

-- 1 if there is an entry; the bytes that it takes; and what it says
abbrev pub count_if : Bool → ℕ
count_if t = cond t 1 0

abbrev pub size_if : Bool → ℕ → ℕ
size_if t w = cond t (2 + (w + w)) 0

abbrev pub said_if : Bool → ℕ → List ℕ → Change
said_if t w b = cond t (swap (number (take w (drop 2 b))) (number (take w (drop (2 + w) b)))) keep

-- what the entries b say of object i; only the first is looked at
unfoldable pub change_at : ℕ → ℕ → List ℕ → Change
change_at i w b = said_if (names i w b) w b

-- there is an entry
abbrev pub is_swap : Change → Bool
is_swap keep = false
is_swap (swap old new) = true

-- the element b after a change
abbrev pub renewed : Change → List ℕ → List ℕ
renewed keep b = b
renewed (swap old new) b = bytes (length b) new

-- at one object: its change, whether the two forms agree on it, and how far the cursor into each of them moves
pub record Step : Type 0 where
  pub change : Change
  pub agrees : Bool
  pub first : ℕ
  pub second : ℕ

-- the step at object i, of width w, where f and s are what remains of the two forms
unfoldable pub step_of : Walk → ℕ → ℕ → List ℕ → List ℕ → Step
step_of Walk.Difference i w f s =
    record { change = differ (number (take w f)) (number (take w s)); agrees = true; first = w; second = w }
step_of Walk.Join i w f s = record {
  change = joined (change_at i w f) (change_at i w s);
  agrees = meets (change_at i w f) (change_at i w s);
  first = span w (change_at i w f);
  second = span w (change_at i w s);
}
step_of Walk.Turn i w f s =
    record { change = back (change_at i w f); agrees = true; first = span w (change_at i w f); second = 0 }

-- the step taken with the cursors at p and q: neither leaves its form
pub record Stepped (walk : Walk) (i w : ℕ) (f : List ℕ) (p : ℕ) (s : List ℕ) (q : ℕ) (r : Step) : Type 0 where
  pub is : r ≡ step_of walk i w (drop p f) (drop q s)
  pub near : p + r.first ≤ length f
  pub far : q + r.second ≤ length s

-- the entries b say nothing of the objects from i to below j; j is at most n
pub record Silent (i j n : ℕ) (b : List ℕ) : Type 0 where
  pub on : i ≤ j
  pub within : j ≤ n
  pub says : (k w : ℕ) → i ≤ k → k < j → change_at k w b ≡ keep

-- the step where there is nothing to do; and that it is the step at each object from i to below j, where f and s are
-- what remains of the two forms
abbrev pub idle : Step
idle = record { change = keep; agrees = true; first = 0; second = 0 }

pub record AllIdle (walk : Walk) (i j n : ℕ) (f s : List ℕ) : Type 0 where
  pub on : i ≤ j
  pub within : j ≤ n
  pub is : (k w : ℕ) → i ≤ k → k < j → step_of walk k w f s ≡ idle

-- Where an object's element is among an image's elements. A device of the code: the meaning is in `history`.
use Rattle.std.specs.Prelude.{ℕ, ◌+◌, ◌≤◌, ◌<◌, ◌≡◌, List, ◌++◌, length, take, drop}
use Rattle.kinds.specs.declared.Kind.{Kind}
use Rattle.history.specs.Image.{widths}

-- after the elements of the objects before it
abbrev pub place_in : List Kind → ℕ → ℕ
place_in ks i = widths (take i ks)

-- i is one of at most 1,024 objects, and es is as long as their elements together
pub record Sized (ks : List Kind) (es : List ℕ) (i : ℕ) : Type 0 where
  pub below : i < length ks
  pub few : length ks ≤ 1024
  pub long : length es ≡ widths ks

-- l with the bytes bs laid over it from `at` on
abbrev pub over : ℕ → List ℕ → List ℕ → List ℕ
over at bs l = take at l ++ (bs ++ drop (at + length bs) l)

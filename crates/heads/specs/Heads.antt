-- Where each part of a form is in its bytes: X and Y, and the parts after them.
use Rattle.std.specs.Prelude.{ℕ, ◌+◌, Bool, ◌&&◌, List, eqb, get_or, take, drop}
use Rattle.octets.specs.Octets.{number}
use Rattle.history.specs.Image.{elements_from}

-- the form's X and Y are x and y
unfoldable pub is_under : ℕ → ℕ → List ℕ → Bool
is_under x y b = eqb (get_or b 5 0) x && eqb (get_or b 6 0) y

-- the first of several forms end to end; bytes that hold none in full stay as they are, and are no whole form
unfoldable pub front_form : List ℕ → List ℕ
front_form b = take (4 + number (take 4 b)) b

-- ---- a table

-- its object count
unfoldable pub count_in : List ℕ → ℕ
count_in b = number (take 2 (drop 7 b))

-- where its objects begin
unfoldable pub objects_place : ℕ
objects_place = 9

-- ---- an image

-- where its elements begin, given its version byte
unfoldable pub elements_place : ℕ → ℕ
elements_place version = 7 + elements_from version

-- where they begin in this image
unfoldable pub image_head : List ℕ → ℕ
image_head b = elements_place (get_or b 4 0)

-- its position
unfoldable pub position_in : List ℕ → ℕ
position_in b = number (take 4 (drop 7 b))

-- its elements
unfoldable pub elements_in : List ℕ → List ℕ
elements_in b = drop (image_head b) b

-- ---- a list

-- the position that it starts from
unfoldable pub from_in : List ℕ → ℕ
from_in b = number (take 4 (drop 7 b))

-- the position that it reaches
unfoldable pub to_in : List ℕ → ℕ
to_in b = number (take 4 (drop 11 b))

-- how many entries it says it has
unfoldable pub entry_count_in : List ℕ → ℕ
entry_count_in b = number (take 2 (drop 15 b))

-- where they begin
unfoldable pub entries_place : ℕ
entries_place = 17

-- its entries
unfoldable pub entries_in : List ℕ → List ℕ
entries_in b = drop entries_place b

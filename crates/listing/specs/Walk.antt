-- For the contracts of the writers of lines and of the walk over an accepted table and image.
-- The meaning is in `Listing`.
use Rattle.std.specs.Prelude.{ℕ, ◌+◌, ◌*◌, ◌≤◌, ◌≡◌, List, [], ◌∷◌, ◌++◌, length, Ok}
use Rattle.text.specs.Decimal.{decimal}
use Rattle.text.specs.Grew.{Grew}
use Rattle.text.specs.declared.Page.{Page}
use Rattle.history.specs.Verdict.{Verdict, refused, done, checked}
use Rattle.history.specs.Table.{Plan, plan_of}
use Rattle.history.specs.Image.{read_image}
use Rattle.history.specs.Calls.{read_plan}
use Rattle.listing.specs.Listing.{Panel, lines_of}

-- a number and the byte after it were written
pub record Numbered (old : Page) (n mark : ℕ) (new : Page) : Type 0 where
  pub written : Grew old (decimal n ++ (mark ∷ [])) new
  pub place : new.at ≡ old.at + (length (decimal n) + 1)
  pub few : new.at ≤ old.at + 11

-- how long an object's line is
abbrev pub line_size : ℕ → ℕ → List ℕ → List ℕ → ℕ
line_size i type label element =
    (length (decimal i) + 1) + ((length (decimal type) + 1) + (length label + (1 + (2 * length element + 1))))

-- the table and the image are accepted, and the image is read by this plan
pub record Ready (b a : List ℕ) (p : Plan) : Type 0 where
  pub plan : read_plan b ≡ done p
  pub image : Ok tt ≡ checked (read_image p a)

-- the lines below the first
unfoldable pub lines_in : Verdict Panel → List ℕ
lines_in (refused r) = []
lines_in (done p) = lines_of 0 p.table.objects (plan_of p.table).kinds p.image.words

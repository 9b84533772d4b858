-- What a writer of text ensures of the page.
use Rattle.std.specs.Prelude.{◌≡◌, List, ℕ, length}
use Rattle.text.specs.Wrote.{Wrote}
use Rattle.text.specs.declared.Page.{Page}

-- xs was written into the page's buffer at the page's place: it is the same buffer, and as long as it was
pub record Grew (old : Page) (xs : List ℕ) (new : Page) : Type 0 where
  pub same : new.out.ghost_name ≡ old.out.ghost_name
  pub size : length new.out.now ≡ length old.out.now
  pub wrote : Wrote old.out.now old.at xs new.out.now new.at

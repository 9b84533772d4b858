-- `listing::put_listing` meets its contract: the tests of the input in their order, then the two forms.
-- Assumes nothing.
use mathlib.Core.Path.{ap}
use Rattle.std.specs.Prelude.{Err}
use Rattle.history.proofs.OutputLaws.{puts_as, refused_puts}
use Rattle.listing.proofs.InputLaws.{above, under_four, unsplit, split}
use Rattle.listing.proofs.put_listing.Goals as goal

pub returns-then-all-gt-MOST : goal.returns-then-all-gt-MOST
returns-then-all-gt-MOST c = refused_puts _ _ (search above) (ap Err c.refused.ensures)

pub returns-then-all-lt4 : goal.returns-then-all-lt4
returns-then-all-lt4 c = refused_puts _ _ (search under_four) (ap Err c.refused-then-all-lt4.ensures)

pub returns-then-all-size : goal.returns-then-all-size
returns-then-all-size c = refused_puts _ _ (search unsplit) (ap Err c.refused-then-all-size.ensures)

pub returns : goal.returns
returns c = puts_as _ (search split) c.put_panel.ensures

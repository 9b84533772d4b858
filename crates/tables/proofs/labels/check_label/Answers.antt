-- `tables::labels::check_label` meets its contract: without a colon that has a byte before and after it, it is bad;
-- else its bytes decide.
-- Assumes nothing.
use native.Mathlib.Omega.{arith}
use Rattle.tables.proofs.LabelLaws.{colon_first, colon_last, colon_inside, label_not}
use Rattle.tables.proofs.labels.check_label.Goals as goal

pub returns-then-colon-lt1 : goal.returns-then-colon-lt1
returns-then-colon-lt1 c = label_not _ _ (search colon_first)

pub returns-then-label-colon : goal.returns-then-label-colon
returns-then-label-colon c = label_not _ _ (colon_last _ _ c.first_colon-colon.ensures.0 (omega arith) (omega arith))

pub returns : goal.returns
returns c = search colon_inside

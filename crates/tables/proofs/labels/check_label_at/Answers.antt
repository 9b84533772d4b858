-- `tables::labels::check_label_at` meets its contract: the check of the part after the type and the label length.
-- Assumes nothing.
use Rattle.tables.proofs.LabelLaws.{label_part}
use Rattle.tables.proofs.labels.check_label_at.Goals as goal

pub returns : goal.returns
returns c = search label_part

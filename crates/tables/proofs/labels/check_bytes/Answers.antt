-- `tables::labels::check_bytes` meets its contract. The invariant: the label is printable if what is left is, and its
-- hash is the hash so far continued over what is left. Assumes nothing.
use Rattle.tables.proofs.LabelLaws.{print_low, print_high, print_end, hash_end, label_not}
use Rattle.tables.proofs.LabelLaws.{label_yes}
use Rattle.tables.proofs.labels.check_bytes.Goals as goal

pub returns-then-byte-lt33 : goal.returns-then-byte-lt33
returns-then-byte-lt33 c = label_not _ _ (search print_low)

pub returns-then-byte-gt126 : goal.returns-then-byte-gt126
returns-then-byte-gt126 c = label_not _ _ (search print_high)

pub returns : goal.returns
returns c = label_yes _ _ _ (search print_end) (search hash_end)

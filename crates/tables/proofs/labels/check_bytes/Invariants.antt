-- `tables::labels::check_bytes` meets its contract. The invariant: the label is printable if what is left is, and its
-- hash is the hash so far continued over what is left. Assumes nothing.
use Prim.Native.Nat.{◌<◌}
use mathlib.Core.Path.{◌≡◌}
use lib.ListN.{drop}
use Rattle.history.specs.Table.{printable}
use Rattle.tables.specs.Hashes.{hash_from}
use Rattle.tables.proofs.labels.check_bytes.Given as goal

abbrev pub invariant-loop-byte : goal.invariant-loop-byte
invariant-loop-byte l = (l.hash < 1024) × (printable l.label ≡ printable (drop l.byte-index l.label))
    × (hash_from l.first l.label ≡ hash_from l.hash (drop l.byte-index l.label))

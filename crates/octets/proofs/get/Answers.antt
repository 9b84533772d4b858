-- `octets::get` meets its contract: all bytes are read, from the first on.
-- Assumes nothing.
use native.Mathlib.Omega.{arith}
use mathlib.Core.Path.{ap, ◌∙◌}
use lib.ListN.{length}
use lib.Seq.{take_all}
use Rattle.octets.specs.Octets.{number}
use Rattle.octets.proofs.get.Goals as goal

pub returns : goal.returns
returns c = let read = c.get_at.ensures in
    let part = c.args.part.now in
    (read.0 ∙ ap number (take_all (length part) part (omega arith)), read.1)

-- Two writes, one after the other.
-- Assumes nothing.
use Rattle.listing.proofs.LineLaws.{numbered}
use Rattle.listing.proofs.lines.put_number.Goals as goal

pub returns : goal.returns
returns c = search numbered

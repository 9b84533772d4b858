-- `walks::put_changes` meets its contract: each operation's own loop writes what its walk gives.
-- Assumes nothing.
use Rattle.walks.proofs.Lists.{room_alone, bytes_turned}
use Rattle.walks.proofs.put_changes.Goals as goal

pub put_turned-requires : goal.put_turned-requires
put_turned-requires c = record { part_len = search room_alone }

pub returns-in-Turn : goal.returns-in-Turn
returns-in-Turn c = search bytes_turned

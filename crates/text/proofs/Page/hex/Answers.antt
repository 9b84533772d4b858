-- One more byte is written.
-- Assumes nothing.
use Rattle.text.proofs.Laws.{hex_room, hex_next}
use Rattle.text.proofs.Page.hex.Goals as goal

pub hex_byte-requires : goal.hex_byte-requires
hex_byte-requires c = search hex_room

pub loop-b-preserved : goal.loop-b-preserved
loop-b-preserved c = search hex_next

-- `tables::answers::put_front` meets its contract: the room is tested before the first byte is written.
-- Assumes nothing.
use mathlib.Core.Path.{refl, ap}
use Rattle.std.specs.Prelude.{Err}
use Rattle.history.proofs.OutputLaws.{short_puts, written_puts}
use Rattle.tables.proofs.answers.put_front.Goals as goal

pub returns-then-out-size-clause-puts : goal.returns-then-out-size-clause-puts
returns-then-out-size-clause-puts c = short_puts _ _ refl c.if-out-size.true (ap Err c.short.ensures)

pub returns-clause-puts : goal.returns-clause-puts
returns-clause-puts c = written_puts _ _ refl c.if-out-size.false refl (rw c.copy.ensures refl)

-- `changes::accepted::write_applied` meets its contract: a refusal is the answer, else the image is written.
-- Assumes nothing.
use Rattle.history.proofs.OutputLaws.{puts_as, check_puts}
use Rattle.heads.proofs.Parts.{list_inside}
use Rattle.changes.proofs.Calls.{passed}
use Rattle.changes.proofs.Outcomes.{image_sized, apply_is}
use Rattle.changes.proofs.accepted.write_applied.Goals as goal

pub returns-in_err-check_applies : goal.returns-in_err-check_applies
returns-in_err-check_applies c =
    passed _ _ c.from_residual.ensures.1 (check_puts _ _ _ c.in_err-check_applies.ensures)

pub to_of-to-requires : goal.to_of-to-requires
to_of-to-requires c = search list_inside

pub entries_of-requires : goal.entries_of-requires
entries_of-requires c = search list_inside

pub write_image-requires : goal.write_image-requires
write_image-requires c = search image_sized

pub returns : goal.returns
returns c = puts_as _ (search (apply_is, c.in_ok-check_applies.ensures)) c.write_image.ensures

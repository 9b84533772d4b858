-- `outputs::image::write_image` meets its contract: the image is copied where there is room, and the copy is changed.
-- Assumes nothing.
use Rattle.std.proofs.lemmas.Result.{err_from_is_err_and}
use Rattle.outputs.specs.Outputs.{image_after}
use Rattle.outputs.proofs.Images.{few_bytes, length_after, not_copied, copied_puts}
use Rattle.outputs.proofs.image.write_image.Goals as goal

pub put_front-requires : goal.put_front-requires
put_front-requires c = search few_bytes

pub returns-in_err-size : goal.returns-in_err-size
returns-in_err-size c =
    let p = err_from_is_err_and c.from_residual.result c.from_residual.ensures.1 in
    rw (p.1, p.2) (not_copied _ _ (search length_after) c.in_err-size.ensures.no_room)

pub returns : goal.returns
returns c = copied_puts _ _ c.in_ok-size.ensures.copied (image_after _ _ _) (search length_after) c.take_entries.ensures

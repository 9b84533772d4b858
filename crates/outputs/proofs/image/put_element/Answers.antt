-- `outputs::image::put_element` meets its contract: the element is put through a part of the
-- image, then the position is set.
-- Assumes nothing.
use mathlib.Core.Path.{refl}
use Rattle.outputs.proofs.Images.{put_inside, put_head, put_done}
use Rattle.outputs.proofs.image.put_element.Goals as goal

pub slice_bounds-put-end : goal.slice_bounds-put-end
slice_bounds-put-end c = search put_inside

pub finish-requires : goal.finish-requires
finish-requires c = put_head _ _ c.requires.image_len _ c.image_head-place.ensures.0 c.requires.object_in_bounds
    c.args.plan.few c.place_of.ensures.0 refl c.width.ensures.0 0 _ c.put.ensures

pub returns : goal.returns
returns c = search put_done

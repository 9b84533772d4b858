-- `listing::list` meets its contract: every listing fits in a buffer of 65,536 bytes, so
-- its refusals are those of any output.
-- Assumes nothing.
use Rattle.std.proofs.lemmas.Result.{err_from_is_err_and}
use Rattle.history.proofs.OutputLaws.{puts_as}
use Rattle.listing.proofs.InputLaws.{zeros_room, refusal_puts, text_is, text_inside, text_sized}
use Rattle.listing.proofs.list.Goals as goal

pub returns-in_err-size : goal.returns-in_err-size
returns-in_err-size c =
    let p = err_from_is_err_and c.from_residual.result c.from_residual.ensures.1 in
    rw (p.1, p.2) (refusal_puts _ _ zeros_room c.in_err-size.ensures _)

pub slice_bounds-text-end : goal.slice_bounds-text-end
slice_bounds-text-end c = text_inside _ _ zeros_room c.in_ok-size.ensures

pub slice_bounds-put_front-end : goal.slice_bounds-put_front-end
slice_bounds-put_front-end c = text_sized _ _ zeros_room c.in_ok-size.ensures

pub returns : goal.returns
returns c = puts_as _ (text_is _ _ zeros_room c.in_ok-size.ensures) c.put_front.ensures.puts

-- `panel::write::write_under` meets its contract: the image's refusal, then the state's, then
-- the image with its new element.
-- Assumes nothing.
use Rattle.std.proofs.lemmas.Result.{err_from_is_err_and}
use Rattle.history.proofs.OutputLaws.{puts_as}
use Rattle.panel.proofs.WriteLaws.{image_writes, state_writes, state_object, image_sized, write_is}
use Rattle.panel.proofs.write.write_under.Goals as goal

pub returns-in_err-check_image_under : goal.returns-in_err-check_image_under
returns-in_err-check_image_under c =
    let p = err_from_is_err_and c.from_residual.result c.from_residual.ensures.1 in
    rw (p.1, p.2) (image_writes _ _ _ _ _ c.in_err-check_image_under.ensures _)

pub returns-in_err-check_state : goal.returns-in_err-check_state
returns-in_err-check_state c =
    let p =
    err_from_is_err_and c.from_residual-in_err-check_state.result c.from_residual-in_err-check_state.ensures.1 in
    rw (p.1, p.2)
    (state_writes _ _ _ _ _ c.type_inv.image c.in_ok-check_image_under.ensures c.in_err-check_state.ensures _)

pub write_element-requires : goal.write_element-requires
write_element-requires c = record {
  object_in_bounds = state_object _ _ _ c.in_ok-check_state.ensures;
  image_len = image_sized _ _ 0 c.args.state 0 c.type_inv.image c.in_ok-check_image_under.ensures;
}

pub returns : goal.returns
returns c = puts_as _ (write_is _ _ _ _ _ c.type_inv.image c.in_ok-check_image_under.ensures
    c.in_ok-check_state.ensures c.word_of-word.ensures)
    c.write_element.ensures

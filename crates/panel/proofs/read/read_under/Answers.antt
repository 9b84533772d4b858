-- `panel::read::read_under` meets its contract: the image's refusal, 13, or the state at the object's place.
-- Assumes nothing.
use Rattle.std.proofs.lemmas.Result.{err_from_is_err_and}
use Rattle.panel.proofs.ReadLaws.{image_read, other_object, head_inside, image_sized, state_is}
use Rattle.panel.proofs.read.read_under.Goals as goal

pub returns-in_err-check_image_under : goal.returns-in_err-check_image_under
returns-in_err-check_image_under c =
    let p = err_from_is_err_and c.from_residual.result c.from_residual.ensures.1 in
    rw (p.1, p.2) (image_read _ _ _ c.in_err-check_image_under.ensures)

pub returns-then-plan-index : goal.returns-then-plan-index
returns-then-plan-index c = search (other_object, c.in_ok-check_image_under.ensures)

pub elements_of-requires : goal.elements_of-requires
elements_of-requires c = search (head_inside, c.in_ok-check_image_under.ensures)

pub word_at-word-requires : goal.word_at-word-requires
word_at-word-requires c =
    image_sized _ _ _ c.type_inv.image c.in_ok-check_image_under.ensures c.if-plan-index.false c.args.plan.few
    c.elements_of.ensures

pub returns : goal.returns
returns c = search (state_is, c.in_ok-check_image_under.ensures)

-- `receiver::backlog::backlog_under` meets its contract: the image and its room come first;
-- then the copy takes the lists.
-- Assumes nothing.
use Rattle.forms.proofs.Accepted.{image_accepted}
use Rattle.receiver.proofs.BacklogSteps.{image_fits, image_refused, no_room, copy_accepted, lists_taken}
use Rattle.receiver.proofs.backlog.backlog_under.Goals as goal

pub returns-in-Err : goal.returns-in-Err
returns-in-Err c = image_refused _ _ _ _ _ c.none_taken.ensures c.in-Err.ensures

pub put_front-requires : goal.put_front-requires
put_front-requires c = image_fits _ _ c.type_inv.image c.in_default.ensures c.args.plan.few

pub take_lists-requires : goal.take_lists-requires
take_lists-requires c =
    record {
      accepted_image = copy_accepted _ _ c.in-Ok.ensures.copied
          (image_accepted _ _ c.type_inv.image c.in_default.ensures);
    }

pub returns-in-Ok : goal.returns-in-Ok
returns-in-Ok c =
    lists_taken _ _ c.in-Ok.ensures.copied _ _ _ c.args.plan.few
    (image_accepted _ _ c.type_inv.image c.in_default.ensures) c.type_inv.lists c.take_lists.ensures

pub returns-in-Err-put_front : goal.returns-in-Err-put_front
returns-in-Err-put_front c =
    no_room _ _ _ _ _ c.none_taken-in-Err-put_front.ensures
    (image_accepted _ _ c.type_inv.image c.in_default.ensures)
    c.in-Err-put_front.ensures.no_room

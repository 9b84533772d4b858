-- `view::label_answer` meets its contract: 0 if there is a place, else the refusal's numbers.
-- Assumes nothing.
use Rattle.view.proofs.PartLaws.{found_told, refused_told}
use Rattle.view.proofs.label_answer.Goals as goal

pub returns-in-Ok : goal.returns-in-Ok
returns-in-Ok c = found_told c.label_place.ensures c.in-Ok.is _ c.accepted.ensures

pub returns-in-Err : goal.returns-in-Err
returns-in-Err c = refused_told c.label_place.ensures c.in-Err.is

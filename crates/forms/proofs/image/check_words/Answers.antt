-- `forms::image::check_words` meets its contract: what the whole gives is what the rest gives.
-- Assumes nothing.
use Rattle.forms.proofs.WordLaws.{stops, goes_on}
use Rattle.forms.proofs.image.check_words.Goals as goal

pub returns-in-Err : goal.returns-in-Err
returns-in-Err c = search stops

pub loop-i-preserved : goal.loop-i-preserved
loop-i-preserved c = search goes_on

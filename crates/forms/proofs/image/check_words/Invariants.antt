-- `forms::image::check_words` meets its contract: what the whole gives is what the rest gives.
-- Assumes nothing.
use Rattle.forms.proofs.WordLaws.{Left}
use Rattle.forms.proofs.image.check_words.Given as goal

abbrev pub invariant-loop-i : goal.invariant-loop-i
invariant-loop-i l = Left l.plan.kinds.now l.words l.i l.at

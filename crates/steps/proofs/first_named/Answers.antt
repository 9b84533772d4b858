-- `steps::first_named` meets its contract: no entry is left, or the next one names an object
-- already passed, one past the end, or one between.
-- Assumes nothing.
use Rattle.steps.proofs.StepLaws.{silent_cut, silent_past, silent_after, silent_between}
use Rattle.steps.proofs.first_named.Goals as goal

pub returns-then-entries-at-lt2 : goal.returns-then-entries-at-lt2
returns-then-entries-at-lt2 c = search silent_cut

pub returns-then-name-object : goal.returns-then-name-object
returns-then-name-object c = search silent_past

pub returns-then-end-name : goal.returns-then-end-name
returns-then-end-name c = search silent_after

pub returns : goal.returns
returns c = search silent_between

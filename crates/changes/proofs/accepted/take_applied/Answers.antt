-- `changes::accepted::take_applied` meets its contract: a refusal is the answer, else the entries are taken.
-- Assumes nothing.
use Rattle.heads.proofs.Parts.{list_inside}
use Rattle.changes.proofs.Outcomes.{image_sized, apply_takes}
use Rattle.changes.proofs.accepted.take_applied.Goals as goal

pub to_of-requires : goal.to_of-requires
to_of-requires c = search list_inside

pub entries_of-requires : goal.entries_of-requires
entries_of-requires c = search list_inside

pub take_entries-requires : goal.take_entries-requires
take_entries-requires c = search image_sized

pub returns : goal.returns
returns c = (
  c.in_ok-check_applies.ensures,
  apply_takes _ _ _ c.args.plan.few c.requires.accepted_image c.requires.accepted_list
      c.in_ok-check_applies.ensures c.entries_of.ensures (search) c.take_entries.ensures,
)

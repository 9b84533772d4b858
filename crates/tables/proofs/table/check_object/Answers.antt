-- `tables::table::check_object` meets its contract: each answer from the tests that lead there.
-- Assumes nothing.
use native.Mathlib.Omega.{arith}
use mathlib.Core.Path.{◌∙◌}
use Rattle.heads.proofs.Places.{objects_place_lem}
use Rattle.tables.proofs.AnswerLaws.{no, yes}
use Rattle.tables.proofs.EntryLaws.{refuses, entry_cut, entry_type, entry_size, label_cut, label_tested}
use Rattle.tables.proofs.table.check_object.Goals as goal

pub returns-then-left-lt2 : goal.returns-then-left-lt2
returns-then-left-lt2 c = refuses _ c.refused.ensures (search entry_cut)

pub bounds-table-5 : goal.bounds-table-5
bounds-table-5 c = omega (arith, objects_place_lem)

pub returns-then-not-is_carried : goal.returns-then-not-is_carried
returns-then-not-is_carried c = refuses _ c.refused_at.ensures (search (entry_type, no))

pub bounds-table-4 : goal.bounds-table-4
bounds-table-4 c = omega (arith, objects_place_lem)

pub returns-then-not-is_size : goal.returns-then-not-is_size
returns-then-not-is_size c = refuses _ c.refused_at-then-not-is_size.ensures (search (entry_size, yes, no))

pub returns-then-left-size : goal.returns-then-left-size
returns-then-left-size c = refuses _ c.refused-then-left-size.ensures (search (label_cut, yes))

pub returns : goal.returns
returns c = c.ok_or.ensures.value ∙ search (label_tested, yes)

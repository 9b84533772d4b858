-- `tables::table::check_objects` meets its contract. The invariants: the verdict for the whole is that for what is
-- left, and the entries passed are chained by their hashes; no earlier entry searched so far is the same; the label
-- bytes compared so far are, from the last down.
-- Assumes nothing.
use native.Mathlib.Omega.{arith}
use mathlib.Core.Path.{ap, ◌∙◌}
use Rattle.std.specs.Prelude.{Err}
use Rattle.tables.proofs.AnswerLaws.{passed_on}
use Rattle.tables.proofs.EntryLaws.{found_two, found_few}
use Rattle.tables.proofs.RepeatLaws.{agree_none, agree_more}
use Rattle.tables.proofs.ChainLaws.{chain_begins, head_low}
use Rattle.tables.proofs.RoundLaws.{walk_begins, walk_stops, end_over, end_good}
use Rattle.tables.proofs.RoundLaws.{search_begins, goes_by_size, goes_by_type, goes_by_byte, was_fits}
use Rattle.tables.proofs.RoundLaws.{search_finds, walk_next, chained_next}
use Rattle.tables.proofs.table.check_objects.Goals as goal
use Rattle.tables.proofs.table.check_objects.Goals.{else-entries-test}
use Rattle.tables.proofs.table.check_objects.Goals.{then-entries-test+in_ok-hash+then-earlier-test+else-table-was+else-entry_size-size+else-bytes-test}

pub entries-init : goal.entries-init
entries-init c = (search walk_begins, search chain_begins)

pub returns-in_err-hash : goal.returns-in_err-hash
returns-in_err-hash c =
    passed_on _ c.from_residual.ensures.1
    ∙ walk_stops c.entries.invariant.0 c.entries-test.true c.check_object.ensures c.in_err-hash.was

pub entry_size-size-requires : goal.entry_size-size-requires
entry_size-size-requires c = found_two _ _ _ c.check_object.ensures c.in_ok-hash.was

pub offset_bounds-lasts-hash : goal.offset_bounds-lasts-hash
offset_bounds-lasts-hash c = omega (arith, found_few _ _ _ c.check_object.ensures c.in_ok-hash.was)

pub bounds-lasts-hash : goal.bounds-lasts-hash
bounds-lasts-hash c = found_few _ _ _ c.check_object.ensures c.in_ok-hash.was

pub overflow_cast-j : goal.overflow_cast-j
overflow_cast-j c =
    omega (arith, head_low c.entries.invariant.1 _ (found_few _ _ _ c.check_object.ensures c.in_ok-hash.was))

pub earlier-init : goal.earlier-init
earlier-init c =
    search_begins c.entries.invariant.0 c.entries-test.true c.check_object.ensures c.in_ok-hash.was _
    c.entry_size-size.ensures.0 c.entries.invariant.1

pub earlier-preserved-then-table-was : goal.earlier-preserved-then-table-was
earlier-preserved-then-table-was c =
    goes_by_type c.earlier.invariant c.earlier-test.true (λ z. omega (arith, c.if-table-was.true))

pub earlier-preserved-then-entry_size-size : goal.earlier-preserved-then-entry_size-size
earlier-preserved-then-entry_size-size c = goes_by_size c.earlier.invariant c.earlier-test.true _ c.entry_size.ensures.0
    (λ z. omega (arith, c.if-entry_size-size.true))

pub bytes-init : goal.bytes-init
bytes-init c = (
  omega arith,
  was_fits c.earlier.invariant c.earlier-test.true _ c.entry_size.ensures.0
      (omega arith),
  agree_none (omega arith),
)

pub earlier-preserved : goal.earlier-preserved
earlier-preserved c =
    goes_by_byte c.earlier.invariant c.earlier-test.true c.bytes.i (omega arith) (omega arith)
    (λ z. omega (arith, c.if-table-was-2.true))

pub bytes-preserved : goal.bytes-preserved
bytes-preserved c = (omega arith, search, search agree_more)

pub entries-preserved : goal.entries-preserved
entries-preserved c =
    let inv = c.earlier.invariant in (walk_next inv c.earlier-test.false, chained_next inv (omega arith))

-- the loop was left at a repeat
pub returns-then-k-count : goal.returns-then-k-count
returns-then-k-count c =
    ap Err c.refused_at.ensures ∙ elim c.entries-test.branch [
      | else-entries-test w ↦ absurd (omega arith)
      | then-entries-test+in_ok-hash+then-earlier-test+else-table-was+else-entry_size-size+else-bytes-test w ↦
          search_finds w.earlier.invariant w.earlier-test.true _ w.entry_size.ensures.0 w.if-entry_size-size.false
          w.if-table-was.false _ (omega arith) w.bytes.invariant.2
    ]

pub returns-then-at-table : goal.returns-then-at-table
returns-then-at-table c = ap Err c.refused.ensures ∙ search end_over

pub returns : goal.returns
returns c = search end_good

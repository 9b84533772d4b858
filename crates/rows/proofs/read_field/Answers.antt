-- `rows::read_field` meets its contract: the machine's shifts and remainder are the field's value.
-- Assumes nothing.
use Rattle.std.proofs.Common.{Ok, Err}
use borrow.Author.Tests.{le-leb, lt-leb, eq-eqb, ne_eqb}
use mathlib.Core.Path.{◌≡◌, ◌∙◌, sym}
use Prim.Native.Nat.{ℕ, ◌*◌, ◌/◌, ◌%◌, ◌^◌, ◌<◌, ◌≤◌}
use lib.Pow.{pow_pos}
use Rattle.rows.specs.Rows.{row_at, row_total}
use Rattle.rows.specs.Values.{code_at, field_of, field_read}
use Rattle.rows.proofs.Rows.{one_shl}
use Rattle.rows.proofs.Covering.{low_small, width_small}
use Rattle.rows.proofs.read_field.Goals as goal

-- once the row's numbers have been read
module _ (i : ℕ) (h : i < row_total) {d : ℕ} (ed : d ≡ (row_at i).width) where
  shifted : 1 * 2 ^ d % 4294967296 ≡ 2 ^ d
  shifted = one_shl d (width_small i h ed)

  shift_pos : 0 < 1 * 2 ^ d % 4294967296
  shift_pos = rw shifted (pow_pos d)

  module _ (w : ℕ) {l t : ℕ} (el : l ≡ (row_at i).low) (et : t ≡ (row_at i).top) where
    field_law : w / 2 ^ l % (1 * 2 ^ d % 4294967296) ≡ field_of w (row_at i)
    field_law = rw (shifted, el, ed)

    value_law : w / 2 ^ l % (1 * 2 ^ d % 4294967296) ≤ t
        → Ok (w / 2 ^ l % (1 * 2 ^ d % 4294967296)) ≡ field_read w (row_at i)
    value_law h = rw field_law (simp (le-leb (field_of w (row_at i)) (row_at i).top (rw (field_law, et) at h)))

    reserved_law : t < w / 2 ^ l % (1 * 2 ^ d % 4294967296) → t ≡ 0
        → Err (code_at 10 l) ≡ field_read w (row_at i)
    reserved_law h z =
        rw el (simp (
          lt-leb (field_of w (row_at i)) (row_at i).top (rw (field_law, et) at h),
          eq-eqb (row_at i).top 0 (sym et ∙ z),
        ))

    unlisted_law : t < w / 2 ^ l % (1 * 2 ^ d % 4294967296) → (t ≡ 0 → ⊥)
        → Err (code_at 11 l) ≡ field_read w (row_at i)
    unlisted_law h z =
        rw el (simp (
          lt-leb (field_of w (row_at i)) (row_at i).top (rw (field_law, et) at h),
          ne_eqb (row_at i).top 0 (λ e. z (et ∙ e)),
        ))

pub overflow_shr-value : goal.overflow_shr-value
overflow_shr-value c = search low_small

pub overflow_shl-value : goal.overflow_shl-value
overflow_shl-value c = search width_small

pub nonzero_rem-value : goal.nonzero_rem-value
nonzero_rem-value c = search shift_pos

pub returns-then-value-top : goal.returns-then-value-top
returns-then-value-top c = search value_law

pub returns-then-top-eq0 : goal.returns-then-top-eq0
returns-then-top-eq0 c = search reserved_law

pub returns-else-top-eq0 : goal.returns-else-top-eq0
returns-else-top-eq0 c = search unlisted_law

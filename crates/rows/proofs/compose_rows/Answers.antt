-- `rows::compose_rows` meets its contract: the sum so far and what is to come make up the whole.
-- Assumes nothing.
use native.Mathlib.Omega.{arith}
use Rattle.rows.proofs.Covering.{low_small}
use Rattle.rows.proofs.Loops.{compose_fits, compose_turn, compose_ends}
use Rattle.rows.proofs.compose_rows.Goals as goal

pub overflow_shl-word : goal.overflow_shl-word
overflow_shl-word c = low_small _ (omega arith) c.cell-low.ensures

pub overflow_add-word : goal.overflow_add-word
overflow_add-word c = record { fits = search compose_fits }

pub loop-k-preserved : goal.loop-k-preserved
loop-k-preserved c = search compose_turn

pub returns : goal.returns
returns c = search compose_ends

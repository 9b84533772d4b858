-- `octets::get_next` meets its contract: the number grows by a byte at its end.
-- Assumes nothing.
use Prim.Native.Nat.{◌+◌}
use native.Mathlib.Omega.{arith}
use Rattle.octets.proofs.NumberLaws.{number_next, small_next, fits_next}
use Rattle.octets.proofs.get_next.Goals as goal

pub overflow_mul-result : goal.overflow_mul-result
overflow_mul-result c = let a = c.args in
    omega (arith, fits_next a.i a.value 0 (omega arith) c.requires.3 (omega arith))

pub overflow_cast-result : goal.overflow_cast-result
overflow_cast-result c = omega (arith, c.shared_slice_known-1.given (c.args.at + c.args.i))

pub overflow_add-result-2 : goal.overflow_add-result-2
overflow_add-result-2 c = let a = c.args in
    record {
      fits = fits_next a.i a.value _ (omega arith) c.requires.3
          (c.shared_slice_known-1.given _).fits;
    }

pub returns : goal.returns
returns c = let a = c.args in (
  number_next a.s.now a.at a.i _ (omega arith) c.requires.2,
  small_next a.i a.value _ c.requires.3 (c.shared_slice_known-1.given _).fits,
)

-- Fields by computation: those of three states and of a refused reading;
-- and fields handed in for the paper's fixed T and for a table of catalogue 3.0.
-- Assumes nothing.
use mathlib.Core.Path.{◌≡◌, refl}
use mathlib.Core.List.{◌∷◌, ◌++◌}
use Rattle.std.specs.Prelude.{Ok, Err}
use lib.ListN.{take, set, replicate}
use Rattle.rows.specs.Rows.{cells, layouts}
use Rattle.kinds.specs.declared.Kind.{Kind}
use Rattle.elements.specs.Elements.{state_of}
use Rattle.history.proofs.Examples.{computed}
use Rattle.history.specs.Verdict.{naming, refused, done, numbers}
use Rattle.history.proofs.Examples.{T, A, C, T3, A3}
use Rattle.fields.specs.PlainFields.{shown_plain, plain_of}
use Rattle.fields.specs.Calls.{write_fields_call}

-- a green high signal; a signal of catalogue 3.0, whose kind is 31;
-- a track circuit of points whose third row is reserved; a refusal
pub handed_out : (plain_of (Ok (state_of Kind.Signal 0x000001B5))
    ≡ Ok (record { kind = 1; count = 23; fields = 1 ∷ 2 ∷ 11 ∷ 1 ∷ replicate 28 0 }))
    × (plain_of (Ok (state_of Kind.SignalV3 0xA00001BD))
    ≡ Ok (record {
      kind = 31;
      count = 24;
      fields = 1 ∷ 2 ∷ 1 ∷ 11 ∷ 1 ∷ replicate 17 0 ++ (2 ∷ 2 ∷ replicate 8 0);
    }))
    × (plain_of (Ok (state_of Kind.PointsTrackCircuit 0x0009))
    ≡ Ok (record { kind = 5; count = 8; fields = 1 ∷ 0 ∷ 1 ∷ replicate 29 0 }))
    × (plain_of (Err (numbers (naming 13 7 255) 0)) ≡ Err (numbers (naming 13 7 255) 0))
unfolding cells layouts state_of shown_plain plain_of
handed_out = (refl, refl, refl, refl)

-- fixed C is written; refused are a value with no named case, and before it another kind's number and no such object;
-- and a value without data
pub taken_in : (write_fields_call T A 1 2 (1 ∷ 2 ∷ replicate 30 0) 9 ≡ done C)
    × (write_fields_call T A 1 2 (1 ∷ 4 ∷ replicate 30 0) 9 ≡ refused (naming 11 1 1))
    × (write_fields_call T A 1 4 (1 ∷ 4 ∷ replicate 30 0) 9 ≡ refused (naming 22 1 255))
    × (write_fields_call T A 7 2 (1 ∷ 4 ∷ replicate 30 0) 9 ≡ refused (naming 13 7 255))
    × (write_fields_call T A 1 2 (0 ∷ 1 ∷ replicate 30 0) 9 ≡ refused (naming 12 1 0))
unfolding computed write_fields_call
taken_in = (refl, refl, refl, refl, refl)

-- a signal's number is 31 under catalogue 3.0 and 1 under 1.0: the other's is refused with 22
pub other_signal : (write_fields_call T3 A3 0 1 (1 ∷ replicate 31 0) 7 ≡ refused (naming 22 0 255))
    × (write_fields_call (set T3 5 1) (set (set A3 5 1) 14 0x01) 0 31 (1 ∷ replicate 31 0) 7
    ≡ refused (naming 22 0 255))
unfolding computed write_fields_call
other_signal = (refl, refl)

-- two faults at once: the table before the image, the image before 13, the lowest value first, 11 before 12;
-- a value too high for a field of one bit; a number that no kind has; fields after the kind's own, which change nothing
pub taken_orders : (write_fields_call (set T 6 1) (take 3 A) 7 4 (1 ∷ 4 ∷ replicate 30 0) 9
    ≡ refused (naming 3 65535 255))
    × (write_fields_call T (set A 13 0x09) 7 4 (1 ∷ 4 ∷ replicate 30 0) 9 ≡ refused (naming 10 1 3))
    × (write_fields_call T A 0 4 (1 ∷ 0 ∷ 0 ∷ 0 ∷ 0 ∷ 3 ∷ 0 ∷ 0 ∷ 5 ∷ replicate 23 0) 9 ≡ refused (naming 11 0 6))
    × (write_fields_call T A 0 4 (0 ∷ 0 ∷ 0 ∷ 0 ∷ 0 ∷ 0 ∷ 0 ∷ 0 ∷ 5 ∷ replicate 23 0) 9 ≡ refused (naming 11 0 10))
    × (write_fields_call T A 0 4 (1 ∷ 0 ∷ 0 ∷ 2 ∷ replicate 28 0) 9 ≡ refused (naming 11 0 3))
    × (write_fields_call T A 1 10 (1 ∷ 2 ∷ replicate 30 0) 9 ≡ refused (naming 22 1 255))
    × (write_fields_call T A 1 2 (1 ∷ 2 ∷ replicate 30 9) 9 ≡ done C)
unfolding computed write_fields_call
taken_orders = (refl, refl, refl, refl, refl, refl, refl)

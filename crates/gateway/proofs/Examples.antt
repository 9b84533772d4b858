-- The numbers that C sees, place by place, and elements by themselves, as bytes: computed.
-- Assumes nothing.
use mathlib.Core.Path.{◌≡◌, refl}
use mathlib.Core.List.{[], ◌∷◌, map}
use Rattle.std.specs.Prelude.{Ok, Err}
use Rattle.history.proofs.Examples.{computed}
use Rattle.history.specs.Verdict.{naming, refused, done, numbers, unnamed}
use Rattle.history.specs.Standing.{tallies_of}
use Rattle.gateway.specs.Slots.{answer_slots, read_slots, label_slots, capped, progress_slots, standing_in}
use Rattle.gateway.specs.Calls.{element_call}

-- code, object, bit, length, 0, zeros; with the kind; with the label's offset and size, each with its refusal, which
-- adds nothing; with the number taken, up to the highest of 32 bits; applied, late, gap, other
pub places : (answer_slots (numbers (naming 11 4 10) 3) ≡ 11 ∷ 4 ∷ 10 ∷ 3 ∷ 0 ∷ 0 ∷ 0 ∷ 0 ∷ [])
    × (read_slots (Ok (record { kind = 5; count = 8; fields = [] })) ≡ 0 ∷ 65535 ∷ 255 ∷ 0 ∷ 0 ∷ 5 ∷ 0 ∷ 0 ∷ [])
    × (read_slots (Err (numbers (naming 13 7 255) 0)) ≡ 13 ∷ 7 ∷ 255 ∷ 0 ∷ 0 ∷ 0 ∷ 0 ∷ 0 ∷ [])
    × (label_slots (Ok (record { offset = 19; size = 6 })) ≡ 0 ∷ 65535 ∷ 255 ∷ 0 ∷ 0 ∷ 19 ∷ 6 ∷ 0 ∷ [])
    × (label_slots (Err (numbers (naming 13 7 255) 0)) ≡ 13 ∷ 7 ∷ 255 ∷ 0 ∷ 0 ∷ 0 ∷ 0 ∷ 0 ∷ [])
    × (progress_slots (record { answer = unnamed 16 14; taken = 1 }) ≡ 16 ∷ 65535 ∷ 255 ∷ 14 ∷ 0 ∷ 1 ∷ 0 ∷ 0 ∷ [])
    × (map capped (0 ∷ 4294967294 ∷ 4294967295 ∷ 4294967296 ∷ []) ≡ 0 ∷ 4294967294 ∷ 4294967295 ∷ 4294967295 ∷ [])
    × (tallies_of (record { applied = 1; late = 2; gap = 3; other = 4 }) ≡ 1 ∷ 2 ∷ 3 ∷ 4 ∷ [])
    × (standing_in (1 ∷ 2 ∷ 3 ∷ 4 ∷ []) ≡ record { applied = 1; late = 2; gap = 3; other = 4 })
unfolding answer_slots read_slots label_slots progress_slots
places = (refl, refl, refl, refl, refl, refl, refl, refl, refl)

-- IC 03, AVG 01 00, SIG 00 00 01 D5; a type that is not carried, whatever the length; a length that is not the type's,
-- whatever the bits; a catalogue that is not carried, whatever the type
pub elements : (element_call 1 0 2 (0x03 ∷ []) ≡ done 0x03)
    × (element_call 1 0 22 (0x01 ∷ 0x00 ∷ []) ≡ done 0x0100)
    × (element_call 1 0 1 (0x00 ∷ 0x00 ∷ 0x01 ∷ 0xD5 ∷ []) ≡ refused (naming 11 65535 4))
    × (element_call 1 0 2 (0x02 ∷ []) ≡ refused (naming 12 65535 0))
    × (element_call 1 0 10 (0x03 ∷ []) ≡ refused (naming 5 65535 255))
    × (element_call 1 0 2 (0x00 ∷ 0x03 ∷ []) ≡ refused (naming 8 65535 255))
    × (element_call 1 0 2 (0x00 ∷ 0x09 ∷ []) ≡ refused (naming 8 65535 255))
    × (element_call 1 0 2 [] ≡ refused (naming 8 65535 255))
    × (element_call 1 0 2 (0x09 ∷ []) ≡ refused (naming 10 65535 3))
    × (element_call 1 1 2 (0x03 ∷ []) ≡ refused (naming 3 65535 255))
    × (element_call 0 0 2 (0x03 ∷ []) ≡ refused (naming 3 65535 255))
    × (element_call 1 1 10 [] ≡ refused (naming 3 65535 255))
    × (element_call 3 1 10 [] ≡ refused (naming 3 65535 255))
    × (element_call 2 0 2 (0x03 ∷ []) ≡ refused (naming 3 65535 255))
unfolding computed element_call
elements = (refl, refl, refl, refl, refl, refl, refl, refl, refl, refl, refl, refl, refl, refl)

-- the same under 3.0, whose signal has EAR in bit 3 and GRP_ARS in bits 30 and 31
pub new_elements : (element_call 3 0 2 (0x03 ∷ []) ≡ done 0x03)
    × (element_call 3 0 8 (0x03 ∷ []) ≡ refused (naming 5 65535 255))
    × (element_call 3 0 1 (0x03 ∷ []) ≡ refused (naming 8 65535 255))
    × (element_call 3 0 1 (0x00 ∷ 0x00 ∷ 0x00 ∷ 0x09 ∷ []) ≡ done 0x00000009)
    × (element_call 3 0 1 (0xC0 ∷ 0x00 ∷ 0x00 ∷ 0x01 ∷ []) ≡ refused (naming 11 65535 30))
    × (element_call 1 0 1 (0x00 ∷ 0x00 ∷ 0x00 ∷ 0x09 ∷ []) ≡ refused (naming 11 65535 1))
unfolding computed element_call
new_elements = (refl, refl, refl, refl, refl, refl)

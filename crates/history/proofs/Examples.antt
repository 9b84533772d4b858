-- The paper's table, images and lists, as bytes. The calls give what it prints; each code is given where it should be
-- and names what it should; of two faults the first is named; the limits of the forms; the trap about joins; backlogs;
-- and the calls under catalogue 3.0.
-- Assumes nothing.
use Prim.Native.Nat.{ℕ}
use mathlib.Core.Path.{◌≡◌, refl}
use mathlib.Core.List.{List, [], ◌∷◌, ◌++◌, map, zip_with}
use mathlib.Core.Bool.{Bool, true, false}
use lib.ListN.{take, set, replicate}
use Rattle.rows.specs.Rows.{cells, layouts}
use Rattle.elements.specs.Elements.{carried, kind_of, dat_rule, element_check, state_of, word_of}
use Rattle.kinds.specs.declared.Element.{Element}
use Rattle.cases.specs.declared.ChangerAspect.{ChangerAspect}
use Rattle.cases.specs.declared.BoardAspect.{BoardAspect}
use Rattle.cases.specs.declared.SignalKind.{SignalKind}
use Rattle.cases.specs.declared.SignalAspect.{SignalAspect}
use Rattle.cases.specs.declared.MixedGaugeIndication.{MixedGaugeIndication}
use Rattle.cases.specs.declared.AutoRouteIndication.{AutoRouteIndication}
use Rattle.cases.specs.declared.AutoRoute.{AutoRoute}
use Rattle.cases.specs.declared.RouterIndication.{RouterIndication}
use Rattle.states.specs.declared.signal.Signal.{Signal}
use Rattle.states.specs.declared.signal_v3.SignalV3.{SignalV3}
use Rattle.history.specs.declared.Standing.{Standing}
use Rattle.octets.specs.Octets.{bytes}
use Rattle.history.specs.Verdict.{naming, refused, done, told, settled, numbers, unnamed}
use Rattle.history.specs.Form.{form_bytes, is_whole, read_form, front_form, after_front, forms_in}
use Rattle.history.specs.Table.{version_good, catalogue_good, label_limit, first_colon, label_good, check_object}
use Rattle.history.specs.Table.{read_table, plan_of}
use Rattle.history.specs.Image.{image_version_good, element, image_bytes, elements_from, read_image}
use Rattle.history.specs.declared.Change.TheVariants.{Keep as keep, Swap as swap}
use Rattle.history.specs.Changes.{list_version, list_bytes, read_number, read_elements, check_entry, read_list}
use Rattle.history.specs.Changes.{difference, applied, join, turned}
use Rattle.history.specs.Calls.{read_plan, table_call, image_call, list_call, difference_under, difference_call}
use Rattle.history.specs.Calls.{apply_under, apply_call, join_under, join_call, turn_under, turn_call, read_state_under}
use Rattle.history.specs.Calls.{read_state_call, check_state, write_state_under, write_state_call, label_call}
use Rattle.history.specs.Standing.{fresh, counted, receive_call}
use Rattle.history.specs.Backlog.{outcome, backlog_under, backlog_call}

abbrev pub T : List ℕ
T =
    0 ∷ 0 ∷ 0 ∷ 0x14 ∷ 1 ∷ 1 ∷ 0 ∷ 0 ∷ 2 ∷ 4 ∷ 6 ∷ 0x41 ∷ 0x41 ∷ 0x3A ∷ 0x43 ∷ 0x56 ∷ 0x31 ∷ 2 ∷ 5 ∷ 0x41 ∷ 0x41 ∷
    0x3A ∷ 0x53 ∷ 0x31 ∷ []

abbrev pub A : List ℕ
A = 0 ∷ 0 ∷ 0 ∷ 0x0A ∷ 1 ∷ 1 ∷ 0 ∷ 0 ∷ 0 ∷ 0 ∷ 7 ∷ 0 ∷ 0x01 ∷ 0x03 ∷ []

abbrev B : List ℕ
B = 0 ∷ 0 ∷ 0 ∷ 0x0A ∷ 1 ∷ 1 ∷ 0 ∷ 0 ∷ 0 ∷ 0 ∷ 8 ∷ 0 ∷ 0x31 ∷ 0x03 ∷ []

abbrev pub C : List ℕ
C = 0 ∷ 0 ∷ 0 ∷ 0x0A ∷ 1 ∷ 1 ∷ 0 ∷ 0 ∷ 0 ∷ 0 ∷ 9 ∷ 0 ∷ 0x01 ∷ 0x05 ∷ []

abbrev AB : List ℕ
AB = 0 ∷ 0 ∷ 0 ∷ 0x13 ∷ 1 ∷ 1 ∷ 0 ∷ 0 ∷ 0 ∷ 0 ∷ 7 ∷ 0 ∷ 0 ∷ 0 ∷ 8 ∷ 0 ∷ 1 ∷ 0 ∷ 0 ∷ 0 ∷ 0x01 ∷ 0 ∷ 0x31 ∷ []

abbrev BC : List ℕ
BC =
    0 ∷ 0 ∷ 0 ∷ 0x17 ∷ 1 ∷ 1 ∷ 0 ∷ 0 ∷ 0 ∷ 0 ∷ 8 ∷ 0 ∷ 0 ∷ 0 ∷ 9 ∷ 0 ∷ 2 ∷ 0 ∷ 0 ∷ 0 ∷ 0x31 ∷ 0 ∷ 0x01 ∷ 0 ∷ 1 ∷
    0x03 ∷ 0x05 ∷ []

abbrev Ac : List ℕ
Ac = 0 ∷ 0 ∷ 0 ∷ 0x11 ∷ 1 ∷ 1 ∷ 0 ∷ 0 ∷ 0 ∷ 0 ∷ 7 ∷ 0 ∷ 0 ∷ 0 ∷ 9 ∷ 0 ∷ 1 ∷ 0 ∷ 1 ∷ 0x03 ∷ 0x05 ∷ []

-- X is A with another element of object 0; Y is X after Ac
abbrev X : List ℕ
X = 0 ∷ 0 ∷ 0 ∷ 0x0A ∷ 1 ∷ 1 ∷ 0 ∷ 0 ∷ 0 ∷ 0 ∷ 7 ∷ 0 ∷ 0x11 ∷ 0x03 ∷ []

abbrev Y : List ℕ
Y = 0 ∷ 0 ∷ 0 ∷ 0x0A ∷ 1 ∷ 1 ∷ 0 ∷ 0 ∷ 0 ∷ 0 ∷ 9 ∷ 0 ∷ 0x11 ∷ 0x05 ∷ []

-- two objects with the same type and label
abbrev twice : List ℕ
twice = 0 ∷ 0 ∷ 0 ∷ 0x0F ∷ 1 ∷ 1 ∷ 0 ∷ 0 ∷ 2 ∷ 2 ∷ 3 ∷ 0x41 ∷ 0x3A ∷ 0x42 ∷ 2 ∷ 3 ∷ 0x41 ∷ 0x3A ∷ 0x42 ∷ []

-- three objects, the last equal to the first
abbrev thrice : List ℕ
thrice =
    0 ∷ 0 ∷ 0 ∷ 0x14 ∷ 1 ∷ 1 ∷ 0 ∷ 0 ∷ 3 ∷ 2 ∷ 3 ∷ 0x41 ∷ 0x3A ∷ 0x42 ∷ 2 ∷ 3 ∷ 0x41 ∷ 0x3A ∷ 0x43 ∷ 2 ∷ 3 ∷ 0x41 ∷
    0x3A ∷ 0x42 ∷ []

-- object 1 before object 0
abbrev falling : List ℕ
falling =
    0 ∷ 0 ∷ 0 ∷ 0x17 ∷ 1 ∷ 1 ∷ 0 ∷ 0 ∷ 0 ∷ 0 ∷ 8 ∷ 0 ∷ 0 ∷ 0 ∷ 9 ∷ 0 ∷ 2 ∷ 0 ∷ 1 ∷ 0x03 ∷ 0x05 ∷ 0 ∷ 0 ∷ 0 ∷ 0x31 ∷
    0 ∷ 0x01 ∷ []

abbrev fixed_t : Element
fixed_t = Element.ChangerSignal (record { current = true; aspect = ChangerAspect.FixedT })

-- what examples compute with: where this unfolds, all of it does
unfoldable pub computed : ℕ
unfolding cells layouts dat_rule element_check state_of word_of bytes told settled form_bytes is_whole read_form
    version_good catalogue_good label_limit carried kind_of label_good check_object read_table plan_of
    image_version_good element image_bytes elements_from read_image list_version list_bytes read_number read_elements
    check_entry read_list difference applied join turned read_plan table_call image_call list_call difference_under
    difference_call apply_under apply_call join_under join_call turn_under turn_call read_state_under read_state_call
    check_state write_state_under write_state_call label_call zip_with fresh counted receive_call front_form after_front
    forms_in backlog_under backlog_call
computed = 0

pub printed : (table_call T
    ≡ done (record {
      version = 1;
      x = 1;
      y = 0;
      objects =
          record { type = 4; label = 0x41 ∷ 0x41 ∷ 0x3A ∷ 0x43 ∷ 0x56 ∷ 0x31 ∷ [] } ∷
          record { type = 2; label = 0x41 ∷ 0x41 ∷ 0x3A ∷ 0x53 ∷ 0x31 ∷ [] } ∷ [];
    }))
    × (image_call T A ≡ done (record { version = 1; position = 7; words = 0x0001 ∷ 0x03 ∷ [] }))
    × (list_call T AB ≡ done (record { from = 7; to = 8; each = swap 0x0001 0x0031 ∷ keep ∷ [] }))
    × (difference_call T A B ≡ done AB)
    × (difference_call T A C ≡ done Ac)
    × (difference_call T B C ≡ done BC)
    × (apply_call T A AB ≡ done B)
    × (apply_call T A Ac ≡ done C)
    × (join_call T AB BC ≡ done Ac)
    × (turn_call T AB ≡ difference_call T B A)
    × (read_state_call T A 1 ≡ done (Element.ChangerSignal (record { current = true; aspect = ChangerAspect.FixedT })))
    × (write_state_call T A 1
    (Element.ChangerSignal (record { current = true; aspect = ChangerAspect.FixedC })) 9 ≡ done C)
    × (label_call T 1 ≡ done (record { offset = 19; size = 5 }))
    × (settled (difference_call T A B) (replicate 23 0 ++ (5 ∷ []))
    ≡ record { answer = unnamed 0 23; output = AB ++ (5 ∷ []) })
    × (told (image_call T A) ≡ unnamed 0 0)
    × (told (image_call T (set A 13 0x09)) ≡ numbers (naming 10 1 3) 0)
unfolding computed
printed = (refl, refl, refl, refl, refl, refl, refl, refl, refl, refl, refl, refl, refl, refl, refl, refl)

-- 1 to 15: what the forms refuse, and the number of an object that is not there
pub each_code : (table_call (take 3 T) ≡ refused (naming 1 65535 255))
    × (table_call (set T 4 2) ≡ refused (naming 2 65535 255))
    × (table_call (set T 6 1) ≡ refused (naming 3 65535 255))
    × (table_call (set T 7 4) ≡ refused (naming 4 65535 255))
    × (table_call (set T 9 10) ≡ refused (naming 5 0 255))
    × (table_call (set T 10 33) ≡ refused (naming 6 0 255))
    × (table_call (set T 21 0x41) ≡ refused (naming 6 1 255))
    × (table_call twice ≡ refused (naming 7 1 255))
    × (table_call (set T 8 3) ≡ refused (naming 8 65535 255))
    × (list_call T (set AB 16 0) ≡ refused (naming 8 65535 255))
    × (image_call T (set A 5 2) ≡ refused (naming 9 65535 255))
    × (image_call T (set A 13 0x09) ≡ refused (naming 10 1 3))
    × (image_call T (set A 11 0x14) ≡ refused (naming 11 0 10))
    × (image_call T (set A 13 0x02) ≡ refused (naming 12 1 0))
    × (list_call T (set AB 18 2) ≡ refused (naming 13 2 255))
    × (read_state_call T A 2 ≡ refused (naming 13 2 255))
    × (write_state_call T A 2 fixed_t 9 ≡ refused (naming 13 2 255))
    × (list_call T (set BC 24 0) ≡ refused (naming 14 0 255))
    × (list_call T (set AB 22 1) ≡ refused (naming 15 0 255))
unfolding computed
each_code =
    (refl, refl, refl, refl, refl, refl, refl, refl, refl, refl, refl, refl, refl, refl, refl, refl, refl, refl, refl)

-- 16 to 22: what only operations and writing refuse, and 12 of a state handed in
pub each_later_code : (apply_call T C AB ≡ refused (naming 16 65535 255))
    × (apply_call T A BC ≡ refused (naming 17 65535 255))
    × (apply_call T (set C 10 8) BC ≡ refused (naming 18 0 255))
    × (join_call T AB AB ≡ refused (naming 19 65535 255))
    × (join_call T BC (set BC 10 9) ≡ refused (naming 20 0 255))
    × (settled (difference_call T A B) (0 ∷ []) ≡ record { answer = unnamed 21 23; output = 0 ∷ [] })
    × (write_state_call T A 0 (Element.ChangerSignal (record { current = true; aspect = ChangerAspect.FixedT })) 9
    ≡ refused (naming 22 0 255))
    × (write_state_call T A 1 (Element.ChangerSignal (record { current = false; aspect = ChangerAspect.FixedT })) 9
    ≡ refused (naming 12 1 0))
unfolding computed
each_later_code = (refl, refl, refl, refl, refl, refl, refl, refl)

-- what is named: the number of the object at fault, or for 13 the number that is no object's
pub names_each : (table_call (set T 17 10) ≡ refused (naming 5 1 255))
    × (table_call (set T 18 33) ≡ refused (naming 6 1 255))
    × (table_call thrice ≡ refused (naming 7 2 255))
    × (list_call T (set AB 18 7) ≡ refused (naming 13 7 255))
    × (list_call T (set AB 17 1) ≡ refused (naming 13 256 255))
    × (read_state_call T A 7 ≡ refused (naming 13 7 255))
    × (write_state_call T A 7 fixed_t 9 ≡ refused (naming 13 7 255))
    × (label_call T 7 ≡ refused (naming 13 7 255))
    × (list_call T falling ≡ refused (naming 14 0 255))
    × (list_call T
    (0 ∷ 0 ∷ 0 ∷ 0x15 ∷ 1 ∷ 1 ∷ 0 ∷ 0 ∷ 0 ∷ 0 ∷ 8 ∷ 0 ∷ 0 ∷ 0 ∷ 9 ∷ 0 ∷ 2 ∷ 0 ∷ 1 ∷ 0x03 ∷ 0x05 ∷ 0 ∷ 1 ∷
    0x05 ∷ 0x03 ∷ [])
    ≡ refused (naming 14 1 255))
    × (list_call T (set Ac 20 0x03) ≡ refused (naming 15 1 255))
    × (list_call T (set Ac 19 0x09) ≡ refused (naming 10 1 3))
    × (list_call T (set Ac 20 0x0D) ≡ refused (naming 10 1 3))
    × (list_call T (set AB 21 0x14) ≡ refused (naming 11 0 10))
    × (list_call T (set Ac 20 0x04) ≡ refused (naming 12 1 0))
    × (apply_call T (set A 13 0x05) Ac ≡ refused (naming 18 1 255))
    × (join_call T Ac (set (set Ac 10 9) 19 0x07) ≡ refused (naming 20 1 255))
    × (write_state_call T A 1
    (Element.VirtualBoard (record { current = true; aspect = BoardAspect.Red; closing_commanded = false })) 9
    ≡ refused (naming 22 1 255))
unfolding computed
names_each =
    (refl, refl, refl, refl, refl, refl, refl, refl, refl, refl, refl, refl, refl, refl, refl, refl, refl, refl)

-- 8, wherever bytes are missing or left over; but a whole number past the objects is 13
pub eights : (table_call (0 ∷ 0 ∷ 0 ∷ 6 ∷ 1 ∷ 1 ∷ 0 ∷ 0 ∷ 1 ∷ 2 ∷ []) ≡ refused (naming 8 65535 255))
    × (table_call (0 ∷ 0 ∷ 0 ∷ 8 ∷ 1 ∷ 1 ∷ 0 ∷ 0 ∷ 1 ∷ 2 ∷ 3 ∷ 0x41 ∷ []) ≡ refused (naming 8 65535 255))
    × (table_call (set T 8 1) ≡ refused (naming 8 65535 255))
    × (image_call T (0 ∷ 0 ∷ 0 ∷ 0x09 ∷ 1 ∷ 1 ∷ 0 ∷ 0 ∷ 0 ∷ 0 ∷ 7 ∷ 0 ∷ 0x01 ∷ []) ≡ refused (naming 8 65535 255))
    × (list_call T (set AB 16 2) ≡ refused (naming 8 65535 255))
    × (list_call T (set BC 24 0xFF) ≡ refused (naming 13 255 255))
    × (list_call T (set Ac 18 0) ≡ refused (naming 8 65535 255))
unfolding computed
eights = (refl, refl, refl, refl, refl, refl, refl)

-- of two faults the first in the paper's order is named
pub first_fault : (table_call (set (set T 4 2) 6 1) ≡ refused (naming 2 65535 255))
    × (table_call (set (set T 6 1) 7 4) ≡ refused (naming 3 65535 255))
    × (table_call (set (set T 9 10) 10 33) ≡ refused (naming 5 0 255))
    × (table_call (set (set T 10 33) 8 9) ≡ refused (naming 6 0 255))
    × (image_call (set T 6 1) (take 3 A) ≡ refused (naming 3 65535 255))
    × (image_call T (set (set A 5 2) 4 2) ≡ refused (naming 2 65535 255))
    × (image_call T (set (set A 13 0x09) 12 0x02) ≡ refused (naming 12 0 0))
    × (image_call T (set A 13 0x08) ≡ refused (naming 10 1 3))
    × (list_call T (set Ac 20 0x08) ≡ refused (naming 10 1 3))
    × (image_call T (set (set A 13 0x09) 11 0x14) ≡ refused (naming 11 0 10))
    × (list_call T (set (set AB 20 0xC1) 21 0x14) ≡ refused (naming 11 0 6))
    × (difference_call T (set A 13 0x09) (take 3 B) ≡ refused (naming 10 1 3))
    × (apply_call T (set A 13 0x09) (take 3 AB) ≡ refused (naming 10 1 3))
    × (apply_call T (set X 10 9) AB ≡ refused (naming 16 65535 255))
    × (join_call T (set AB 22 1) (take 3 BC) ≡ refused (naming 15 0 255))
    × (join_call T BC BC ≡ refused (naming 19 65535 255))
    × (read_state_call T (set A 13 0x09) 7 ≡ refused (naming 10 1 3))
    × (write_state_call T A 0 (Element.ChangerSignal (record { current = false; aspect = ChangerAspect.FixedT })) 9
    ≡ refused (naming 22 0 255))
    × ((settled (write_state_call T A 7 fixed_t 9) []).answer ≡ numbers (naming 13 7 255) 0)
unfolding computed
first_fault =
    (refl, refl, refl, refl, refl, refl, refl, refl, refl, refl, refl, refl, refl, refl, refl, refl, refl, refl, refl)

-- two faults at once in a form: each test before the one that follows it, each entry before the
-- next and before bytes that are left over
pub orders : (table_call (set (T ++ (0 ∷ [])) 4 2) ≡ refused (naming 1 65535 255))
    × (table_call (set (set T 7 4) 9 10) ≡ refused (naming 4 65535 255))
    × (table_call (0 ∷ 0 ∷ 0 ∷ 6 ∷ 1 ∷ 1 ∷ 0 ∷ 0 ∷ 1 ∷ 10 ∷ []) ≡ refused (naming 8 65535 255))
    × (table_call (0 ∷ 0 ∷ 0 ∷ 8 ∷ 1 ∷ 1 ∷ 0 ∷ 0 ∷ 1 ∷ 2 ∷ 3 ∷ 0x20 ∷ []) ≡ refused (naming 8 65535 255))
    × (table_call (set (set thrice 18 0x42) 19 10) ≡ refused (naming 7 1 255))
    × (table_call (set (set (T ++ (0 ∷ [])) 3 0x15) 9 10) ≡ refused (naming 5 0 255))
    × (image_call T (0 ∷ 0 ∷ 0 ∷ 9 ∷ 1 ∷ 2 ∷ 0 ∷ 0 ∷ 0 ∷ 0 ∷ 7 ∷ 0 ∷ 0x01 ∷ []) ≡ refused (naming 9 65535 255))
    × (image_call T (0 ∷ 0 ∷ 0 ∷ 9 ∷ 1 ∷ 1 ∷ 0 ∷ 0 ∷ 0 ∷ 0 ∷ 7 ∷ 0x14 ∷ 0x01 ∷ []) ≡ refused (naming 8 65535 255))
    × (list_call T (set (set AB 4 2) 5 2) ≡ refused (naming 2 65535 255))
    × (list_call T (set (set AB 5 2) 18 2) ≡ refused (naming 9 65535 255))
    × (list_call T (0 ∷ 0 ∷ 0 ∷ 0x0E ∷ 1 ∷ 1 ∷ 0 ∷ 0 ∷ 0 ∷ 0 ∷ 7 ∷ 0 ∷ 0 ∷ 0 ∷ 8 ∷ 0 ∷ 1 ∷ 0xFF ∷ [])
    ≡ refused (naming 8 65535 255))
    × (list_call T (0 ∷ 0 ∷ 0 ∷ 0x0F ∷ 1 ∷ 1 ∷ 0 ∷ 0 ∷ 0 ∷ 0 ∷ 7 ∷ 0 ∷ 0 ∷ 0 ∷ 8 ∷ 0 ∷ 1 ∷ 0 ∷ 2 ∷ [])
    ≡ refused (naming 13 2 255))
    × (list_call T
    (0 ∷ 0 ∷ 0 ∷ 0x13 ∷ 1 ∷ 1 ∷ 0 ∷ 0 ∷ 0 ∷ 0 ∷ 8 ∷ 0 ∷ 0 ∷ 0 ∷ 9 ∷ 0 ∷ 2 ∷ 0 ∷ 1 ∷ 0x03 ∷ 0x05 ∷ 0 ∷ 0 ∷ [])
    ≡ refused (naming 14 0 255))
    × (list_call T (0 ∷ 0 ∷ 0 ∷ 0x11 ∷ 1 ∷ 1 ∷ 0 ∷ 0 ∷ 0 ∷ 0 ∷ 7 ∷ 0 ∷ 0 ∷ 0 ∷ 8 ∷ 0 ∷ 1 ∷ 0 ∷ 0 ∷ 0x14 ∷ 0x01 ∷ [])
    ≡ refused (naming 8 65535 255))
    × (list_call T (set (set BC 22 0x31) 24 7) ≡ refused (naming 15 0 255))
    × (list_call T (set (set (AB ++ (0 ∷ [])) 3 0x14) 22 0x01) ≡ refused (naming 15 0 255))
unfolding computed
orders = (refl, refl, refl, refl, refl, refl, refl, refl, refl, refl, refl, refl, refl, refl, refl, refl)

-- at the edges: the least lengths, 5, 7 and 13; an entry of two bytes and no more;
-- labels of 1 and 32 bytes that are cut; one byte missing
pub edges : (table_call (0 ∷ 0 ∷ 0 ∷ 4 ∷ 1 ∷ 1 ∷ 0 ∷ 0 ∷ []) ≡ refused (naming 1 65535 255))
    × (table_call (0 ∷ 0 ∷ 0 ∷ 5 ∷ 1 ∷ 1 ∷ 0 ∷ 0 ∷ 0 ∷ []) ≡ done (record { version = 1; x = 1; y = 0; objects = [] }))
    × (image_call T (0 ∷ 0 ∷ 0 ∷ 6 ∷ 1 ∷ 1 ∷ 0 ∷ 0 ∷ 0 ∷ 0 ∷ []) ≡ refused (naming 1 65535 255))
    × (image_call T (0 ∷ 0 ∷ 0 ∷ 7 ∷ 1 ∷ 1 ∷ 0 ∷ 0 ∷ 0 ∷ 0 ∷ 7 ∷ []) ≡ refused (naming 8 65535 255))
    × (list_call T (0 ∷ 0 ∷ 0 ∷ 0x0C ∷ 1 ∷ 1 ∷ 0 ∷ 0 ∷ 0 ∷ 0 ∷ 7 ∷ 0 ∷ 0 ∷ 0 ∷ 8 ∷ 0 ∷ [])
    ≡ refused (naming 1 65535 255))
    × (list_call T (0 ∷ 0 ∷ 0 ∷ 0x0D ∷ 1 ∷ 1 ∷ 0 ∷ 0 ∷ 0 ∷ 0 ∷ 7 ∷ 0 ∷ 0 ∷ 0 ∷ 8 ∷ 0 ∷ 0 ∷ [])
    ≡ done (record { from = 7; to = 8; each = keep ∷ keep ∷ [] }))
    × (table_call (0 ∷ 0 ∷ 0 ∷ 7 ∷ 1 ∷ 1 ∷ 0 ∷ 0 ∷ 1 ∷ 10 ∷ 3 ∷ []) ≡ refused (naming 5 0 255))
    × (table_call (0 ∷ 0 ∷ 0 ∷ 7 ∷ 1 ∷ 1 ∷ 0 ∷ 0 ∷ 1 ∷ 2 ∷ 0 ∷ []) ≡ refused (naming 6 0 255))
    × (table_call (0 ∷ 0 ∷ 0 ∷ 7 ∷ 1 ∷ 1 ∷ 0 ∷ 0 ∷ 1 ∷ 2 ∷ 1 ∷ []) ≡ refused (naming 8 65535 255))
    × (table_call (0 ∷ 0 ∷ 0 ∷ 7 ∷ 1 ∷ 1 ∷ 0 ∷ 0 ∷ 1 ∷ 2 ∷ 32 ∷ []) ≡ refused (naming 8 65535 255))
    × (table_call (0 ∷ 0 ∷ 0 ∷ 9 ∷ 1 ∷ 1 ∷ 0 ∷ 0 ∷ 1 ∷ 2 ∷ 3 ∷ 0x41 ∷ 0x3A ∷ []) ≡ refused (naming 8 65535 255))
    × (list_call T (set (take 22 AB) 3 0x12) ≡ refused (naming 8 65535 255))
unfolding computed
edges = (refl, refl, refl, refl, refl, refl, refl, refl, refl, refl, refl, refl)

-- order in a call: the table before all else, each form before what is asked of it, a gap before the values
pub call_orders : (list_call (set T 6 1) (take 3 AB) ≡ refused (naming 3 65535 255))
    × (difference_call (set T 6 1) (take 3 A) B ≡ refused (naming 3 65535 255))
    × (apply_call (set T 6 1) (take 3 A) AB ≡ refused (naming 3 65535 255))
    × (apply_call T C (set AB 22 0x01) ≡ refused (naming 15 0 255))
    × (apply_call T (set X 10 6) AB ≡ refused (naming 17 65535 255))
    × (join_call T AB (set AB 22 0x01) ≡ refused (naming 15 0 255))
    × (join_call (set T 6 1) (take 3 AB) BC ≡ refused (naming 3 65535 255))
    × (turn_call (set T 6 1) (take 3 AB) ≡ refused (naming 3 65535 255))
    × (read_state_call (set T 6 1) (take 3 A) 7 ≡ refused (naming 3 65535 255))
    × (write_state_call (set T 6 1) (take 3 A) 7 fixed_t 9 ≡ refused (naming 3 65535 255))
    × (write_state_call T (set A 13 0x09) 7 fixed_t 9 ≡ refused (naming 10 1 3))
    × (label_call (set T 6 1) 7 ≡ refused (naming 3 65535 255))
unfolding computed
call_orders = (refl, refl, refl, refl, refl, refl, refl, refl, refl, refl, refl, refl)

-- what the forms may hold: label bytes 33 to 126 with a colon inside, at most 32; version 1; catalogues 1.0 and 3.0
pub limits : (map first_colon ((65 ∷ 58 ∷ 58 ∷ []) ∷ (65 ∷ 66 ∷ []) ∷ []) ≡ 1 ∷ 2 ∷ [])
    × (map label_good
    ((33 ∷ 58 ∷ 126 ∷ []) ∷ (32 ∷ 58 ∷ 65 ∷ []) ∷ (65 ∷ 58 ∷ 127 ∷ []) ∷ (58 ∷ 65 ∷ []) ∷ (65 ∷ 58 ∷ []) ∷
    (65 ∷ 66 ∷ 67 ∷ []) ∷ (65 ∷ 58 ∷ 58 ∷ []) ∷ [])
    ≡ true ∷ false ∷ false ∷ false ∷ false ∷ false ∷ true ∷ [])
    × (label_limit 1 ≡ 32)
    × (map version_good (0 ∷ 1 ∷ 2 ∷ 255 ∷ []) ≡ false ∷ true ∷ false ∷ false ∷ [])
    × (map image_version_good (0 ∷ 1 ∷ 2 ∷ 255 ∷ []) ≡ false ∷ true ∷ false ∷ false ∷ [])
    × (map (catalogue_good 1) (0 ∷ 1 ∷ 2 ∷ []) ≡ true ∷ false ∷ false ∷ [])
    × (map (catalogue_good 3) (0 ∷ 1 ∷ 2 ∷ []) ≡ true ∷ false ∷ false ∷ [])
    × (map (λ (x : ℕ). catalogue_good x 0) (0 ∷ 2 ∷ 4 ∷ 255 ∷ []) ≡ false ∷ false ∷ false ∷ false ∷ [])
unfolding computed
limits = (refl, refl, refl, refl, refl, refl, refl, refl)

-- "A join that drops an object also applies to images that refuse the steps": the join of AB and BC drops object 0
pub trap : (join_call T AB BC ≡ done Ac) × (apply_call T X AB ≡ refused (naming 18 0 255))
    × (apply_call T X Ac ≡ done Y)
unfolding computed
trap = (refl, refl, refl)

-- the applied tally is full
abbrev brim : Standing
brim = record { applied = 4294967295; late = 1; gap = 2; other = 3 }

-- each call moves one tally: applied, late (even with no room), gap, or other, for 18 and 21; a full one stays
pub received_each : (receive_call T A AB (A ++ (5 ∷ [])) fresh
    ≡ record {
      answer = unnamed 0 14;
      output = B ++ (5 ∷ []);
      standing = record { applied = 1; late = 0; gap = 0; other = 0 };
    })
    × (receive_call T C AB [] fresh
    ≡ record {
      answer = unnamed 16 0;
      output = [];
      standing = record { applied = 0; late = 1; gap = 0; other = 0 };
    })
    × (receive_call T A BC B fresh
    ≡ record { answer = unnamed 17 0; output = B; standing = record { applied = 0; late = 0; gap = 1; other = 0 } })
    × (receive_call T X AB B fresh
    ≡ record {
      answer = numbers (naming 18 0 255) 0;
      output = B;
      standing = record { applied = 0; late = 0; gap = 0; other = 1 };
    })
    × (receive_call T A AB (take 13 B) fresh
    ≡ record {
      answer = unnamed 21 14;
      output = take 13 B;
      standing = record { applied = 0; late = 0; gap = 0; other = 1 };
    })
    × ((receive_call T A AB B brim).standing ≡ brim)
    × ((receive_call T A AB B (record { applied = 4294967294; late = 1; gap = 2; other = 3 })).standing ≡ brim)
unfolding computed
received_each = (refl, refl, refl, refl, refl, refl, refl)

-- a backlog: both lists; none; the second late; the first with a gap, and the second not looked at; then 18; bytes that
-- hold no list in full, one of which is left, all but one, or which say so themselves; no tally counts what comes
-- before the lists, no room for the image even where there is no list; a full tally stays
pub backlogs : (backlog_call T A (AB ++ BC) (B ++ (5 ∷ [])) fresh
    ≡ outcome (unnamed 0 14) 2 (C ++ (5 ∷ [])) (record { applied = 2; late = 0; gap = 0; other = 0 }))
    × (backlog_call T A [] (B ++ (5 ∷ [])) brim ≡ outcome (unnamed 0 14) 0 (A ++ (5 ∷ [])) brim)
    × (backlog_call T A (AB ++ (AB ++ BC)) (C ++ (5 ∷ [])) fresh
    ≡ outcome (unnamed 16 14) 1 (B ++ (5 ∷ [])) (record { applied = 1; late = 1; gap = 0; other = 0 }))
    × (backlog_call T A (BC ++ AB) (C ++ (5 ∷ [])) fresh
    ≡ outcome (unnamed 17 14) 0 (A ++ (5 ∷ [])) (record { applied = 0; late = 0; gap = 1; other = 0 }))
    × (backlog_call T X (AB ++ BC) C fresh
    ≡ outcome (numbers (naming 18 0 255) 14) 0 X (record { applied = 0; late = 0; gap = 0; other = 1 }))
    × (backlog_call T A (AB ++ (0 ∷ [])) C fresh
    ≡ outcome (unnamed 1 14) 1 B (record { applied = 1; late = 0; gap = 0; other = 1 }))
    × (backlog_call T A (AB ++ take 26 BC) C fresh
    ≡ outcome (unnamed 1 14) 1 B (record { applied = 1; late = 0; gap = 0; other = 1 }))
    × (backlog_call T A (0 ∷ 0 ∷ 0 ∷ 0 ∷ AB) C fresh
    ≡ outcome (unnamed 1 14) 0 A (record { applied = 0; late = 0; gap = 0; other = 1 }))
    × (backlog_call twice A AB B brim ≡ outcome (numbers (naming 7 1 255) 0) 0 B brim)
    × (backlog_call T (take 13 A) AB B brim ≡ outcome (unnamed 1 0) 0 B brim)
    × (backlog_call T A [] (take 13 B) brim ≡ outcome (unnamed 21 14) 0 (take 13 B) brim)
    × (backlog_call T A (AB ++ BC) C brim ≡ outcome (unnamed 0 14) 2 C brim)
unfolding computed
backlogs = (refl, refl, refl, refl, refl, refl, refl, refl, refl, refl, refl, refl)

-- ---- catalogue 3.0: a signal and a changer signal. The signal's EAR is active; then it is green, its F flashes green
-- and its router is in automatic block; then it is as it was at first, and the changer signal has changed

abbrev pub T3 : List ℕ
T3 =
    0 ∷ 0 ∷ 0 ∷ 0x13 ∷ 1 ∷ 3 ∷ 0 ∷ 0 ∷ 2 ∷ 1 ∷ 5 ∷ 0x41 ∷ 0x41 ∷ 0x3A ∷ 0x53 ∷ 0x31 ∷ 2 ∷ 5 ∷ 0x41 ∷ 0x41 ∷ 0x3A ∷
    0x49 ∷ 0x31 ∷ []

abbrev pub A3 : List ℕ
A3 = 0 ∷ 0 ∷ 0 ∷ 0x0C ∷ 1 ∷ 3 ∷ 0 ∷ 0 ∷ 0 ∷ 0 ∷ 7 ∷ 0 ∷ 0 ∷ 0 ∷ 0x09 ∷ 0x03 ∷ []

abbrev B3 : List ℕ
B3 = 0 ∷ 0 ∷ 0 ∷ 0x0C ∷ 1 ∷ 3 ∷ 0 ∷ 0 ∷ 0 ∷ 0 ∷ 8 ∷ 0xA0 ∷ 0 ∷ 0 ∷ 0xB9 ∷ 0x03 ∷ []

abbrev C3 : List ℕ
C3 = 0 ∷ 0 ∷ 0 ∷ 0x0C ∷ 1 ∷ 3 ∷ 0 ∷ 0 ∷ 0 ∷ 0 ∷ 9 ∷ 0 ∷ 0 ∷ 0 ∷ 0x09 ∷ 0x05 ∷ []

abbrev AB3 : List ℕ
AB3 =
    0 ∷ 0 ∷ 0 ∷ 0x17 ∷ 1 ∷ 3 ∷ 0 ∷ 0 ∷ 0 ∷ 0 ∷ 7 ∷ 0 ∷ 0 ∷ 0 ∷ 8 ∷ 0 ∷ 1 ∷ 0 ∷ 0 ∷ 0 ∷ 0 ∷ 0 ∷ 0x09 ∷ 0xA0 ∷ 0 ∷
    0 ∷ 0xB9 ∷ []

abbrev BA3 : List ℕ
BA3 =
    0 ∷ 0 ∷ 0 ∷ 0x17 ∷ 1 ∷ 3 ∷ 0 ∷ 0 ∷ 0 ∷ 0 ∷ 8 ∷ 0 ∷ 0 ∷ 0 ∷ 7 ∷ 0 ∷ 1 ∷ 0 ∷ 0 ∷ 0xA0 ∷ 0 ∷ 0 ∷ 0xB9 ∷ 0 ∷ 0 ∷
    0 ∷ 0x09 ∷ []

abbrev BC3 : List ℕ
BC3 =
    0 ∷ 0 ∷ 0 ∷ 0x1B ∷ 1 ∷ 3 ∷ 0 ∷ 0 ∷ 0 ∷ 0 ∷ 8 ∷ 0 ∷ 0 ∷ 0 ∷ 9 ∷ 0 ∷ 2 ∷ 0 ∷ 0 ∷ 0xA0 ∷ 0 ∷ 0 ∷ 0xB9 ∷ 0 ∷ 0 ∷ 0 ∷
    0x09 ∷ 0 ∷ 1 ∷ 0x03 ∷ 0x05 ∷ []

abbrev AC3 : List ℕ
AC3 = 0 ∷ 0 ∷ 0 ∷ 0x11 ∷ 1 ∷ 3 ∷ 0 ∷ 0 ∷ 0 ∷ 0 ∷ 7 ∷ 0 ∷ 0 ∷ 0 ∷ 9 ∷ 0 ∷ 1 ∷ 0 ∷ 1 ∷ 0x03 ∷ 0x05 ∷ []

-- the same objects under 1.0; of the signal's bits only DAT is 1
abbrev T1 : List ℕ
T1 = set T3 5 1

abbrev A1 : List ℕ
A1 = set (set A3 5 1) 14 0x01

-- a green signal of 3.0 and one of 1.0, with data or without
abbrev routed : Bool → SignalV3
routed current =
    record {
      current = current;
      kind = SignalKind.Unknown;
      high_speed_auto_route = true;
      aspect = SignalAspect.Green;
      red_fitted = false;
      red_blown = false;
      white_fitted = false;
      white_blown = false;
      vertical_white_fitted = false;
      vertical_white_blown = false;
      horizontal_white_fitted = false;
      horizontal_white_blown = false;
      blue_fitted = false;
      blue_blown = false;
      yellow_fitted = false;
      yellow_blown = false;
      green_fitted = false;
      green_blown = false;
      special_command_pending = false;
      command_blocked = false;
      mixed_gauge = MixedGaugeIndication.NoThirdRail;
      automatic_succession = false;
      auto_route = AutoRoute.GreenFlashing;
      router = RouterIndication.AutomaticBlock;
    }

abbrev green : Bool → Signal
green current =
    record {
      current = current;
      kind = SignalKind.Unknown;
      aspect = SignalAspect.Green;
      red_fitted = false;
      red_blown = false;
      white_fitted = false;
      white_blown = false;
      vertical_white_fitted = false;
      vertical_white_blown = false;
      horizontal_white_fitted = false;
      horizontal_white_blown = false;
      blue_fitted = false;
      blue_blown = false;
      yellow_fitted = false;
      yellow_blown = false;
      green_fitted = false;
      green_blown = false;
      special_command_pending = false;
      command_blocked = false;
      mixed_gauge = MixedGaugeIndication.NoThirdRail;
      automatic_succession = false;
      auto_route_set = false;
      auto_route_indication = AutoRouteIndication.GreenSteady;
    }

pub new_catalogue : (table_call T3
    ≡ done (record {
      version = 1;
      x = 3;
      y = 0;
      objects =
          record { type = 1; label = 0x41 ∷ 0x41 ∷ 0x3A ∷ 0x53 ∷ 0x31 ∷ [] } ∷
          record { type = 2; label = 0x41 ∷ 0x41 ∷ 0x3A ∷ 0x49 ∷ 0x31 ∷ [] } ∷ [];
    }))
    × (image_call T3 A3 ≡ done (record { version = 1; position = 7; words = 0x00000009 ∷ 0x03 ∷ [] }))
    × (list_call T3 AB3 ≡ done (record { from = 7; to = 8; each = swap 0x00000009 0xA00000B9 ∷ keep ∷ [] }))
    × (difference_call T3 A3 B3 ≡ done AB3)
    × (difference_call T3 B3 C3 ≡ done BC3)
    × (apply_call T3 A3 AB3 ≡ done B3)
    × (join_call T3 AB3 BC3 ≡ done AC3)
    × (difference_call T3 A3 C3 ≡ done AC3)
    × (turn_call T3 AB3 ≡ done BA3)
    × (difference_call T3 B3 A3 ≡ done BA3)
    × (read_state_call T3 B3 0 ≡ done (Element.SignalV3 (routed true)))
    × (write_state_call T3 A3 0 (Element.SignalV3 (routed true)) 8 ≡ done B3)
    × (read_state_call T3 A3 1 ≡ done fixed_t)
    × (write_state_call T1 A1 1 fixed_t 7 ≡ done A1)
unfolding computed
new_catalogue = (refl, refl, refl, refl, refl, refl, refl, refl, refl, refl, refl, refl, refl, refl)

-- 3: neither 1.0 nor 3.0; 5: types 8, 9, 22 and 23, naming the object; 9: an image or a list of another catalogue; 11:
-- GRP_ARS 3; 10 and 11: bits 31 and 3 of a 3.0 signal, under 1.0; 12: no data, and EAR active
pub new_refusals : (table_call (set T3 5 2) ≡ refused (naming 3 65535 255))
    × (table_call (set T3 5 0) ≡ refused (naming 3 65535 255))
    × (table_call (set T3 6 1) ≡ refused (naming 3 65535 255))
    × (table_call (set T1 6 1) ≡ refused (naming 3 65535 255))
    × (table_call (set T3 9 8) ≡ refused (naming 5 0 255))
    × (table_call (set T3 16 9) ≡ refused (naming 5 1 255))
    × (table_call (set T3 16 22) ≡ refused (naming 5 1 255))
    × (table_call (set T3 16 23) ≡ refused (naming 5 1 255))
    × (image_call T3 A1 ≡ refused (naming 9 65535 255))
    × (image_call T1 A3 ≡ refused (naming 9 65535 255))
    × (image_call T3 (set A3 6 1) ≡ refused (naming 9 65535 255))
    × (list_call T1 AB3 ≡ refused (naming 9 65535 255))
    × (list_call T3 (set AB3 5 1) ≡ refused (naming 9 65535 255))
    × (image_call T3 (set A3 11 0xC0) ≡ refused (naming 11 0 30))
    × (image_call T1 (set A1 11 0x80) ≡ refused (naming 10 0 31))
    × (image_call T1 (set A1 14 0x09) ≡ refused (naming 11 0 1))
    × (image_call T3 (set A3 14 0x08) ≡ refused (naming 12 0 0))
unfolding computed
new_refusals = (refl, refl, refl, refl, refl, refl, refl, refl, refl, refl, refl, refl, refl, refl, refl, refl, refl)

-- 22, before 12: a signal of one catalogue under the other; 12: no data, and EAR active
pub new_states : (write_state_call T3 A3 0 (Element.Signal (green true)) 8 ≡ refused (naming 22 0 255))
    × (write_state_call T1 A1 0 (Element.SignalV3 (routed true)) 8 ≡ refused (naming 22 0 255))
    × (write_state_call T3 A3 0 (Element.Signal (green false)) 8 ≡ refused (naming 22 0 255))
    × (write_state_call T1 A1 0 (Element.SignalV3 (routed false)) 8 ≡ refused (naming 22 0 255))
    × (write_state_call T3 A3 0 (Element.SignalV3 (routed false)) 8 ≡ refused (naming 12 0 0))
unfolding computed
new_states = (refl, refl, refl, refl, refl)

-- Two outcomes of one call from C are equal: the eight numbers, and every other buffer that is lent to be written.
-- Assumes nothing.
use Prim.Native.Nat.{ℕ}
use mathlib.Core.Path.{◌≡◌}
use mathlib.Core.List.{List}
use Rattle.history.specs.Verdict.{Verdict, told}
use Rattle.history.specs.Calls.{table_call, image_call, list_call, read_state_call, label_call, difference_call}
use Rattle.history.specs.Calls.{apply_call, join_call, turn_call}
use Rattle.history.proofs.OneOutcome.{one_outcome, one_pair}
use Rattle.tables.specs.LabelPlaces.{label_told}
use Rattle.panel.specs.Readings.{reading_of}
use Rattle.history.specs.Backlog.{Backlog, backlog_call}
use Rattle.receiver.specs.Receive.{answer_of, output_of, standing_of}
use Rattle.receiver.specs.Backlogs.{progress_of}
use Rattle.listing.specs.Listing.{listing_call}
use Rattle.fields.specs.PlainFields.{plain_of}
use Rattle.fields.specs.Calls.{write_fields_call}
use Rattle.history.specs.Standing.{tallies_of}
use Rattle.gateway.specs.Slots.{answer_slots, LeavesSlots, read_slots, fields_after, label_slots, progress_slots}
use Rattle.gateway.specs.Slots.{standing_in}
use Rattle.gateway.specs.Calls.{element_call}

-- a call that fills the eight numbers alone
abbrev pub Fills : {A : Type 0} → Verdict A → List ℕ → Type 0
Fills v a = a ≡ answer_slots (told v)

-- reading a state: its fields, and the eight numbers
abbrev pub Reads : List ℕ → List ℕ → ℕ → List ℕ → List ℕ → List ℕ → Type 0
Reads T A i before fields a =
    (fields ≡ fields_after (read_state_call T A i) before)
    × (a ≡ read_slots (plain_of (reading_of (read_state_call T A i))))

-- receiving: the eight numbers, the output and the tallies at the end
abbrev pub Receives : List ℕ → List ℕ → List ℕ → List ℕ → List ℕ → List ℕ → List ℕ → List ℕ → Type 0
Receives T A L out tallies a m k =
    (a ≡ answer_slots (answer_of T A L out))
    × ((m ≡ output_of T A L out) × (k ≡ tallies_of (standing_of T A L out (standing_in tallies))))

-- a backlog: the same, with the number taken
abbrev pub TakesBacklog : List ℕ → List ℕ → List ℕ → List ℕ → List ℕ → List ℕ → List ℕ → List ℕ → Type 0
TakesBacklog T A b out tallies a m k =
    let g : Backlog = backlog_call T A b out (standing_in tallies) in
    (a ≡ progress_slots (progress_of g)) × ((m ≡ g.output) × (k ≡ tallies_of g.standing))

module _ {a a' : List ℕ} where
  pub one_check_element : (x y type : ℕ) (b : List ℕ) → Fills (element_call x y type b) a
      → Fills (element_call x y type b) a' → a ≡ a'
  one_check_element x y type b = one_outcome

  pub one_check_table : (T : List ℕ) → Fills (table_call T) a → Fills (table_call T) a' → a ≡ a'
  one_check_table T = one_outcome

  pub one_check_image : (T A : List ℕ) → Fills (image_call T A) a → Fills (image_call T A) a' → a ≡ a'
  one_check_image T A = one_outcome

  pub one_check_list : (T L : List ℕ) → Fills (list_call T L) a → Fills (list_call T L) a' → a ≡ a'
  one_check_list T L = one_outcome

  pub one_label : (T : List ℕ) (i : ℕ) → a ≡ label_slots (label_told (label_call T i))
      → a' ≡ label_slots (label_told (label_call T i)) → a ≡ a'
  one_label T i = one_outcome

  pub one_read_state : (T A : List ℕ) (i : ℕ) (before : List ℕ) {fs fs' : List ℕ} → Reads T A i before fs a
      → Reads T A i before fs' a' → (fs ≡ fs') × (a ≡ a')
  one_read_state T A i before = one_pair

  module _ (out : List ℕ) {m m' : List ℕ} where
    pub one_write_state : (T A : List ℕ) (i kind : ℕ) (fields : List ℕ) (position : ℕ)
        → LeavesSlots (write_fields_call T A i kind fields position) out a m
        → LeavesSlots (write_fields_call T A i kind fields position) out a' m' → (a ≡ a') × (m ≡ m')
    one_write_state T A i kind fields position = one_pair

    pub one_difference : (T A B : List ℕ) → LeavesSlots (difference_call T A B) out a m
        → LeavesSlots (difference_call T A B) out a' m' → (a ≡ a') × (m ≡ m')
    one_difference T A B = one_pair

    pub one_apply : (T A L : List ℕ) → LeavesSlots (apply_call T A L) out a m → LeavesSlots (apply_call T A L) out a' m'
        → (a ≡ a') × (m ≡ m')
    one_apply T A L = one_pair

    pub one_join : (T L M : List ℕ) → LeavesSlots (join_call T L M) out a m → LeavesSlots (join_call T L M) out a' m'
        → (a ≡ a') × (m ≡ m')
    one_join T L M = one_pair

    pub one_turn_back : (T L : List ℕ) → LeavesSlots (turn_call T L) out a m → LeavesSlots (turn_call T L) out a' m'
        → (a ≡ a') × (m ≡ m')
    one_turn_back T L = one_pair

    pub one_listing : (input : List ℕ) → LeavesSlots (listing_call input) out a m
        → LeavesSlots (listing_call input) out a' m' → (a ≡ a') × (m ≡ m')
    one_listing input = one_pair

    pub one_receive : (T A L tallies : List ℕ) {k k' : List ℕ} → Receives T A L out tallies a m k
        → Receives T A L out tallies a' m' k' → (a ≡ a') × ((m ≡ m') × (k ≡ k'))
    one_receive T A L tallies p q = (one_outcome p.0 q.0, one_pair p.1 q.1)

    pub one_receive_backlog : (T A b tallies : List ℕ) {k k' : List ℕ} → TakesBacklog T A b out tallies a m k
        → TakesBacklog T A b out tallies a' m' k' → (a ≡ a') × ((m ≡ m') × (k ≡ k'))
    one_receive_backlog T A b tallies p q = (one_outcome p.0 q.0, one_pair p.1 q.1)

-- For each kind: it has a layout, the layout's number finds it, a state made from values keeps the listed ones, and a
-- state's values make that state again.
-- Written by catalogue/write.py. Assumes nothing.
use mathlib.Core.Path.{◌≡◌, refl, ap}
use mathlib.Core.List.{List, [], map}
use Prim.Native.Nat.{ℕ, ◌<◌}
use lib.Dec.{lit<}
use lib.ListN.{length, get_or}
use Rattle.std.proofs.Common.{Some}
use Rattle.rows.specs.Rows.{cells, layouts}
use Rattle.rows.specs.Values.{padded, values_of}
use Rattle.rows.proofs.Listed.{listed_from}
use Rattle.states.proofs.StateLaws.{signal_listed, signal_back, changer_signal_listed, changer_signal_back}
use Rattle.states.proofs.StateLaws.{virtual_board_listed, virtual_board_back, line_track_circuit_listed}
use Rattle.states.proofs.StateLaws.{line_track_circuit_back, points_track_circuit_listed, points_track_circuit_back}
use Rattle.states.proofs.StateLaws.{crossing_track_circuit_listed, crossing_track_circuit_back, dual_detection_listed}
use Rattle.states.proofs.StateLaws.{dual_detection_back, points_listed, points_back, electric_lock_listed}
use Rattle.states.proofs.StateLaws.{electric_lock_back, general_notices_listed, general_notices_back}
use Rattle.states.proofs.StateLaws.{control_boundary_listed, control_boundary_back, signal_v3_listed, signal_v3_back}
use Rattle.kinds.specs.Kinds.{kinds, place, layout_no, rows_of, find_by_number, element_of, element_values, kind_in}
use Rattle.kinds.specs.declared.Kind.{Kind}
use Rattle.kinds.specs.declared.Element.{Element}

-- two functions that agree on the list of all kinds agree on each, so a table with a line for
-- each kind is one computation
pub every_kind : {A : Type 0} (f g : Kind → A) → map f kinds ≡ map g kinds → (k : Kind) → f k ≡ g k
every_kind {A} f g e Kind.Signal = ap (λ (l : List A). get_or l 0 (f Kind.Signal)) e
every_kind {A} f g e Kind.ChangerSignal = ap (λ (l : List A). get_or l 1 (f Kind.ChangerSignal)) e
every_kind {A} f g e Kind.VirtualBoard = ap (λ (l : List A). get_or l 2 (f Kind.VirtualBoard)) e
every_kind {A} f g e Kind.LineTrackCircuit = ap (λ (l : List A). get_or l 3 (f Kind.LineTrackCircuit)) e
every_kind {A} f g e Kind.PointsTrackCircuit = ap (λ (l : List A). get_or l 4 (f Kind.PointsTrackCircuit)) e
every_kind {A} f g e Kind.CrossingTrackCircuit = ap (λ (l : List A). get_or l 5 (f Kind.CrossingTrackCircuit)) e
every_kind {A} f g e Kind.DualDetection = ap (λ (l : List A). get_or l 6 (f Kind.DualDetection)) e
every_kind {A} f g e Kind.Points = ap (λ (l : List A). get_or l 7 (f Kind.Points)) e
every_kind {A} f g e Kind.ElectricLock = ap (λ (l : List A). get_or l 8 (f Kind.ElectricLock)) e
every_kind {A} f g e Kind.GeneralNotices = ap (λ (l : List A). get_or l 9 (f Kind.GeneralNotices)) e
every_kind {A} f g e Kind.ControlBoundary = ap (λ (l : List A). get_or l 10 (f Kind.ControlBoundary)) e
every_kind {A} f g e Kind.SignalV3 = ap (λ (l : List A). get_or l 11 (f Kind.SignalV3)) e

pub placed : (k : Kind) → place k < length layouts
unfolding layouts
placed Kind.Signal = lit< tt
placed Kind.ChangerSignal = lit< tt
placed Kind.VirtualBoard = lit< tt
placed Kind.LineTrackCircuit = lit< tt
placed Kind.PointsTrackCircuit = lit< tt
placed Kind.CrossingTrackCircuit = lit< tt
placed Kind.DualDetection = lit< tt
placed Kind.Points = lit< tt
placed Kind.ElectricLock = lit< tt
placed Kind.GeneralNotices = lit< tt
placed Kind.ControlBoundary = lit< tt
placed Kind.SignalV3 = lit< tt

pub kind_found : (k : Kind) → find_by_number (layout_no k) ≡ Some k
unfolding layouts
kind_found Kind.Signal = refl
kind_found Kind.ChangerSignal = refl
kind_found Kind.VirtualBoard = refl
kind_found Kind.LineTrackCircuit = refl
kind_found Kind.PointsTrackCircuit = refl
kind_found Kind.CrossingTrackCircuit = refl
kind_found Kind.DualDetection = refl
kind_found Kind.Points = refl
kind_found Kind.ElectricLock = refl
kind_found Kind.GeneralNotices = refl
kind_found Kind.ControlBoundary = refl
kind_found Kind.SignalV3 = refl

pub element_listed : (k : Kind) (vs : List ℕ) → element_values (element_of k vs) ≡ listed_from 0 (rows_of k) vs
unfolding layouts
element_listed Kind.Signal vs = signal_listed vs
element_listed Kind.ChangerSignal vs = changer_signal_listed vs
element_listed Kind.VirtualBoard vs = virtual_board_listed vs
element_listed Kind.LineTrackCircuit vs = line_track_circuit_listed vs
element_listed Kind.PointsTrackCircuit vs = points_track_circuit_listed vs
element_listed Kind.CrossingTrackCircuit vs = crossing_track_circuit_listed vs
element_listed Kind.DualDetection vs = dual_detection_listed vs
element_listed Kind.Points vs = points_listed vs
element_listed Kind.ElectricLock vs = electric_lock_listed vs
element_listed Kind.GeneralNotices vs = general_notices_listed vs
element_listed Kind.ControlBoundary vs = control_boundary_listed vs
element_listed Kind.SignalV3 vs = signal_v3_listed vs

pub element_back : (e : Element) → element_of (kind_in e) (padded (element_values e)) ≡ e
element_back (Element.Signal s) = ap Element.Signal (signal_back s)
element_back (Element.ChangerSignal s) = ap Element.ChangerSignal (changer_signal_back s)
element_back (Element.VirtualBoard s) = ap Element.VirtualBoard (virtual_board_back s)
element_back (Element.LineTrackCircuit s) = ap Element.LineTrackCircuit (line_track_circuit_back s)
element_back (Element.PointsTrackCircuit s) = ap Element.PointsTrackCircuit (points_track_circuit_back s)
element_back (Element.CrossingTrackCircuit s) = ap Element.CrossingTrackCircuit (crossing_track_circuit_back s)
element_back (Element.DualDetection s) = ap Element.DualDetection (dual_detection_back s)
element_back (Element.Points s) = ap Element.Points (points_back s)
element_back (Element.ElectricLock s) = ap Element.ElectricLock (electric_lock_back s)
element_back (Element.GeneralNotices s) = ap Element.GeneralNotices (general_notices_back s)
element_back (Element.ControlBoundary s) = ap Element.ControlBoundary (control_boundary_back s)
element_back (Element.SignalV3 s) = ap Element.SignalV3 (signal_v3_back s)

pub element_kind : (k : Kind) (vs : List ℕ) → kind_in (element_of k vs) ≡ k
element_kind Kind.Signal vs = refl
element_kind Kind.ChangerSignal vs = refl
element_kind Kind.VirtualBoard vs = refl
element_kind Kind.LineTrackCircuit vs = refl
element_kind Kind.PointsTrackCircuit vs = refl
element_kind Kind.CrossingTrackCircuit vs = refl
element_kind Kind.DualDetection vs = refl
element_kind Kind.Points vs = refl
element_kind Kind.ElectricLock vs = refl
element_kind Kind.GeneralNotices vs = refl
element_kind Kind.ControlBoundary vs = refl
element_kind Kind.SignalV3 vs = refl

-- the number 0 is read as the state of no values, which is the one without data if the kind has DAT
pub zero_state : (k : Kind) → element_of k (padded (values_of 0 (rows_of k))) ≡ element_of k []
unfolding cells layouts
zero_state Kind.Signal = refl
zero_state Kind.ChangerSignal = refl
zero_state Kind.VirtualBoard = refl
zero_state Kind.LineTrackCircuit = refl
zero_state Kind.PointsTrackCircuit = refl
zero_state Kind.CrossingTrackCircuit = refl
zero_state Kind.DualDetection = refl
zero_state Kind.Points = refl
zero_state Kind.ElectricLock = refl
zero_state Kind.GeneralNotices = refl
zero_state Kind.ControlBoundary = refl
zero_state Kind.SignalV3 = refl

-- The kinds of element, one for each layout; the layout of each;
-- the state of any kind, from its fields' values and back.
-- Written by catalogue/write.py.
use Rattle.std.specs.Prelude.{cond, List, [], ◌∷◌, map, ℕ, eqb, Option, Some, None}
use Rattle.rows.specs.Rows.{Row, layout_at}
use Rattle.rows.specs.Covering.{layout_rows}
use Rattle.rows.specs.declared.Layout.{Layout}
use Rattle.states.specs.States.{signal_of, signal_values, changer_signal_of, changer_signal_values, virtual_board_of}
use Rattle.states.specs.States.{virtual_board_values, line_track_circuit_of, line_track_circuit_values}
use Rattle.states.specs.States.{points_track_circuit_of, points_track_circuit_values, crossing_track_circuit_of}
use Rattle.states.specs.States.{crossing_track_circuit_values, dual_detection_of, dual_detection_values, points_of}
use Rattle.states.specs.States.{points_values, electric_lock_of, electric_lock_values, general_notices_of}
use Rattle.states.specs.States.{general_notices_values, control_boundary_of, control_boundary_values, signal_v3_of}
use Rattle.states.specs.States.{signal_v3_values}
use Rattle.kinds.specs.declared.Kind.{Kind}
use Rattle.kinds.specs.declared.Element.{Element}

abbrev pub kinds : List Kind
kinds =
    Kind.Signal ∷ Kind.ChangerSignal ∷ Kind.VirtualBoard ∷ Kind.LineTrackCircuit ∷ Kind.PointsTrackCircuit ∷
    Kind.CrossingTrackCircuit ∷ Kind.DualDetection ∷ Kind.Points ∷ Kind.ElectricLock ∷ Kind.GeneralNotices ∷
    Kind.ControlBoundary ∷ Kind.SignalV3 ∷ []

-- a kind's place among them, which is its layout's place among the layouts
abbrev pub place : Kind → ℕ
place Kind.Signal = 0
place Kind.ChangerSignal = 1
place Kind.VirtualBoard = 2
place Kind.LineTrackCircuit = 3
place Kind.PointsTrackCircuit = 4
place Kind.CrossingTrackCircuit = 5
place Kind.DualDetection = 6
place Kind.Points = 7
place Kind.ElectricLock = 8
place Kind.GeneralNotices = 9
place Kind.ControlBoundary = 10
place Kind.SignalV3 = 11

abbrev pub layout_of : Kind → Layout
layout_of k = layout_at (place k)

abbrev pub layout_no : Kind → ℕ
layout_no k = (layout_of k).number

abbrev pub width_of : Kind → ℕ
width_of k = (layout_of k).bytes

abbrev pub rows_of : Kind → List Row
rows_of k = layout_rows (layout_of k)

-- a number, and the kind that it stands for
pub record KindLine : Type 0 where
  pub number : ℕ
  pub kind : Kind

abbrev pub kind_line : ℕ → Kind → KindLine
kind_line number kind = record { number = number; kind = kind }

-- the kind that a number stands for, by the first line that has it
abbrev pub find_in : ℕ → List KindLine → Option Kind
find_in n [] = None
find_in n (l ∷ ls) = cond (eqb n l.number) (Some l.kind) (find_in n ls)

-- a line for each kind, with the number of its layout
abbrev pub kind_lines : List KindLine
kind_lines = map (λ (k : Kind). kind_line (layout_no k) k) kinds

abbrev pub find_by_number : ℕ → Option Kind
find_by_number n = find_in n kind_lines

abbrev pub element_of : Kind → List ℕ → Element
element_of Kind.Signal vs = Element.Signal (signal_of vs)
element_of Kind.ChangerSignal vs = Element.ChangerSignal (changer_signal_of vs)
element_of Kind.VirtualBoard vs = Element.VirtualBoard (virtual_board_of vs)
element_of Kind.LineTrackCircuit vs = Element.LineTrackCircuit (line_track_circuit_of vs)
element_of Kind.PointsTrackCircuit vs = Element.PointsTrackCircuit (points_track_circuit_of vs)
element_of Kind.CrossingTrackCircuit vs = Element.CrossingTrackCircuit (crossing_track_circuit_of vs)
element_of Kind.DualDetection vs = Element.DualDetection (dual_detection_of vs)
element_of Kind.Points vs = Element.Points (points_of vs)
element_of Kind.ElectricLock vs = Element.ElectricLock (electric_lock_of vs)
element_of Kind.GeneralNotices vs = Element.GeneralNotices (general_notices_of vs)
element_of Kind.ControlBoundary vs = Element.ControlBoundary (control_boundary_of vs)
element_of Kind.SignalV3 vs = Element.SignalV3 (signal_v3_of vs)

abbrev pub element_values : Element → List ℕ
element_values (Element.Signal s) = signal_values s
element_values (Element.ChangerSignal s) = changer_signal_values s
element_values (Element.VirtualBoard s) = virtual_board_values s
element_values (Element.LineTrackCircuit s) = line_track_circuit_values s
element_values (Element.PointsTrackCircuit s) = points_track_circuit_values s
element_values (Element.CrossingTrackCircuit s) = crossing_track_circuit_values s
element_values (Element.DualDetection s) = dual_detection_values s
element_values (Element.Points s) = points_values s
element_values (Element.ElectricLock s) = electric_lock_values s
element_values (Element.GeneralNotices s) = general_notices_values s
element_values (Element.ControlBoundary s) = control_boundary_values s
element_values (Element.SignalV3 s) = signal_v3_values s

abbrev pub kind_in : Element → Kind
kind_in (Element.Signal s) = Kind.Signal
kind_in (Element.ChangerSignal s) = Kind.ChangerSignal
kind_in (Element.VirtualBoard s) = Kind.VirtualBoard
kind_in (Element.LineTrackCircuit s) = Kind.LineTrackCircuit
kind_in (Element.PointsTrackCircuit s) = Kind.PointsTrackCircuit
kind_in (Element.CrossingTrackCircuit s) = Kind.CrossingTrackCircuit
kind_in (Element.DualDetection s) = Kind.DualDetection
kind_in (Element.Points s) = Kind.Points
kind_in (Element.ElectricLock s) = Kind.ElectricLock
kind_in (Element.GeneralNotices s) = Kind.GeneralNotices
kind_in (Element.ControlBoundary s) = Kind.ControlBoundary
kind_in (Element.SignalV3 s) = Kind.SignalV3

-- For each layout: the state from its fields' values in the rows' order, and a state's values (a reserved row's is 0).
-- Written by catalogue/write.py.
use Rattle.std.specs.Prelude.{List, [], ◌∷◌, ℕ, get_or, eqb}
use Rattle.rows.specs.Values.{bit_no}
use Rattle.cases.specs.Cases.{signal_kind_of, signal_kind_no, signal_aspect_of, signal_aspect_no}
use Rattle.cases.specs.Cases.{mixed_gauge_indication_of, mixed_gauge_indication_no, auto_route_indication_of}
use Rattle.cases.specs.Cases.{auto_route_indication_no, changer_aspect_of, changer_aspect_no, board_aspect_of}
use Rattle.cases.specs.Cases.{board_aspect_no, section_occupancy_of, section_occupancy_no, overlap_of, overlap_no}
use Rattle.cases.specs.Cases.{gauge_presence_of, gauge_presence_no, points_section_occupancy_of}
use Rattle.cases.specs.Cases.{points_section_occupancy_no, leg_occupancy_of, leg_occupancy_no, leg_shown_of}
use Rattle.cases.specs.Cases.{leg_shown_no, points_detection_of, points_detection_no, points_locking_of}
use Rattle.cases.specs.Cases.{points_locking_no, heater_indication_of, heater_indication_no, earth_fault_indication_of}
use Rattle.cases.specs.Cases.{earth_fault_indication_no, boundary_movement_of, boundary_movement_no, auto_route_of}
use Rattle.cases.specs.Cases.{auto_route_no, router_indication_of, router_indication_no}
use Rattle.states.specs.declared.signal.Signal.{Signal}
use Rattle.states.specs.declared.changer_signal.ChangerSignal.{ChangerSignal}
use Rattle.states.specs.declared.virtual_board.VirtualBoard.{VirtualBoard}
use Rattle.states.specs.declared.line_track_circuit.LineTrackCircuit.{LineTrackCircuit}
use Rattle.states.specs.declared.points_track_circuit.PointsTrackCircuit.{PointsTrackCircuit}
use Rattle.states.specs.declared.crossing_track_circuit.CrossingTrackCircuit.{CrossingTrackCircuit}
use Rattle.states.specs.declared.dual_detection.DualDetection.{DualDetection}
use Rattle.states.specs.declared.points.Points.{Points}
use Rattle.states.specs.declared.electric_lock.ElectricLock.{ElectricLock}
use Rattle.states.specs.declared.general_notices.GeneralNotices.{GeneralNotices}
use Rattle.states.specs.declared.control_boundary.ControlBoundary.{ControlBoundary}
use Rattle.states.specs.declared.signal_v3.SignalV3.{SignalV3}

abbrev pub signal_of : List ℕ → Signal
signal_of vs = record {
  current = eqb (get_or vs 0 0) 1;
  kind = signal_kind_of (get_or vs 1 0);
  aspect = signal_aspect_of (get_or vs 2 0);
  red_fitted = eqb (get_or vs 3 0) 1;
  red_blown = eqb (get_or vs 4 0) 1;
  white_fitted = eqb (get_or vs 5 0) 1;
  white_blown = eqb (get_or vs 6 0) 1;
  vertical_white_fitted = eqb (get_or vs 7 0) 1;
  vertical_white_blown = eqb (get_or vs 8 0) 1;
  horizontal_white_fitted = eqb (get_or vs 9 0) 1;
  horizontal_white_blown = eqb (get_or vs 10 0) 1;
  blue_fitted = eqb (get_or vs 11 0) 1;
  blue_blown = eqb (get_or vs 12 0) 1;
  yellow_fitted = eqb (get_or vs 13 0) 1;
  yellow_blown = eqb (get_or vs 14 0) 1;
  green_fitted = eqb (get_or vs 15 0) 1;
  green_blown = eqb (get_or vs 16 0) 1;
  special_command_pending = eqb (get_or vs 17 0) 1;
  command_blocked = eqb (get_or vs 18 0) 1;
  mixed_gauge = mixed_gauge_indication_of (get_or vs 19 0);
  automatic_succession = eqb (get_or vs 20 0) 1;
  auto_route_set = eqb (get_or vs 21 0) 1;
  auto_route_indication = auto_route_indication_of (get_or vs 22 0);
}

abbrev pub signal_values : Signal → List ℕ
signal_values s =
    bit_no s.current ∷
    signal_kind_no s.kind ∷
    signal_aspect_no s.aspect ∷
    bit_no s.red_fitted ∷
    bit_no s.red_blown ∷
    bit_no s.white_fitted ∷
    bit_no s.white_blown ∷
    bit_no s.vertical_white_fitted ∷
    bit_no s.vertical_white_blown ∷
    bit_no s.horizontal_white_fitted ∷
    bit_no s.horizontal_white_blown ∷
    bit_no s.blue_fitted ∷
    bit_no s.blue_blown ∷
    bit_no s.yellow_fitted ∷
    bit_no s.yellow_blown ∷
    bit_no s.green_fitted ∷
    bit_no s.green_blown ∷
    bit_no s.special_command_pending ∷
    bit_no s.command_blocked ∷
    mixed_gauge_indication_no s.mixed_gauge ∷
    bit_no s.automatic_succession ∷
    bit_no s.auto_route_set ∷
    auto_route_indication_no s.auto_route_indication ∷
    0 ∷
    []

abbrev pub changer_signal_of : List ℕ → ChangerSignal
changer_signal_of vs = record {
  current = eqb (get_or vs 0 0) 1;
  aspect = changer_aspect_of (get_or vs 1 0);
}

abbrev pub changer_signal_values : ChangerSignal → List ℕ
changer_signal_values s =
    bit_no s.current ∷
    changer_aspect_no s.aspect ∷
    0 ∷
    []

abbrev pub virtual_board_of : List ℕ → VirtualBoard
virtual_board_of vs = record {
  current = eqb (get_or vs 0 0) 1;
  aspect = board_aspect_of (get_or vs 1 0);
  closing_commanded = eqb (get_or vs 2 0) 1;
}

abbrev pub virtual_board_values : VirtualBoard → List ℕ
virtual_board_values s =
    bit_no s.current ∷
    board_aspect_no s.aspect ∷
    bit_no s.closing_commanded ∷
    0 ∷
    []

abbrev pub line_track_circuit_of : List ℕ → LineTrackCircuit
line_track_circuit_of vs = record {
  current = eqb (get_or vs 0 0) 1;
  special_command_pending = eqb (get_or vs 1 0) 1;
  movement_blocked = eqb (get_or vs 2 0) 1;
  unexpected_occupancy = eqb (get_or vs 3 0) 1;
  occupancy = section_occupancy_of (get_or vs 4 0);
  overlap = overlap_of (get_or vs 5 0);
  axle_counter_fault = eqb (get_or vs 6 0) 1;
  axle_counter_preset = eqb (get_or vs 7 0) 1;
  gauge = gauge_presence_of (get_or vs 8 0);
  sequence_lost = eqb (get_or vs 9 0) 1;
}

abbrev pub line_track_circuit_values : LineTrackCircuit → List ℕ
line_track_circuit_values s =
    bit_no s.current ∷
    bit_no s.special_command_pending ∷
    bit_no s.movement_blocked ∷
    bit_no s.unexpected_occupancy ∷
    section_occupancy_no s.occupancy ∷
    overlap_no s.overlap ∷
    bit_no s.axle_counter_fault ∷
    bit_no s.axle_counter_preset ∷
    gauge_presence_no s.gauge ∷
    bit_no s.sequence_lost ∷
    0 ∷
    []

abbrev pub points_track_circuit_of : List ℕ → PointsTrackCircuit
points_track_circuit_of vs = record {
  current = eqb (get_or vs 0 0) 1;
  special_command_pending = eqb (get_or vs 1 0) 1;
  unexpected_occupancy = eqb (get_or vs 3 0) 1;
  occupancy = points_section_occupancy_of (get_or vs 4 0);
  axle_counter_fault = eqb (get_or vs 6 0) 1;
  axle_counter_preset = eqb (get_or vs 7 0) 1;
  gauge = gauge_presence_of (get_or vs 8 0);
  sequence_lost = eqb (get_or vs 9 0) 1;
}

abbrev pub points_track_circuit_values : PointsTrackCircuit → List ℕ
points_track_circuit_values s =
    bit_no s.current ∷
    bit_no s.special_command_pending ∷
    0 ∷
    bit_no s.unexpected_occupancy ∷
    points_section_occupancy_no s.occupancy ∷
    0 ∷
    bit_no s.axle_counter_fault ∷
    bit_no s.axle_counter_preset ∷
    gauge_presence_no s.gauge ∷
    bit_no s.sequence_lost ∷
    0 ∷
    []

abbrev pub crossing_track_circuit_of : List ℕ → CrossingTrackCircuit
crossing_track_circuit_of vs = record {
  current = eqb (get_or vs 0 0) 1;
  special_command_pending = eqb (get_or vs 1 0) 1;
  movement_blocked = eqb (get_or vs 2 0) 1;
  unexpected_occupancy = eqb (get_or vs 3 0) 1;
  occupancy = leg_occupancy_of (get_or vs 4 0);
  leg_shown = leg_shown_of (get_or vs 5 0);
  overlap_normal = overlap_of (get_or vs 6 0);
  overlap_reverse = overlap_of (get_or vs 7 0);
  clearance_lost = eqb (get_or vs 8 0) 1;
  axle_counter_fault = eqb (get_or vs 9 0) 1;
  axle_counter_preset = eqb (get_or vs 10 0) 1;
}

abbrev pub crossing_track_circuit_values : CrossingTrackCircuit → List ℕ
crossing_track_circuit_values s =
    bit_no s.current ∷
    bit_no s.special_command_pending ∷
    bit_no s.movement_blocked ∷
    bit_no s.unexpected_occupancy ∷
    leg_occupancy_no s.occupancy ∷
    leg_shown_no s.leg_shown ∷
    overlap_no s.overlap_normal ∷
    overlap_no s.overlap_reverse ∷
    bit_no s.clearance_lost ∷
    bit_no s.axle_counter_fault ∷
    bit_no s.axle_counter_preset ∷
    0 ∷
    []

abbrev pub dual_detection_of : List ℕ → DualDetection
dual_detection_of vs = record {
  current = eqb (get_or vs 0 0) 1;
  special_command_pending = eqb (get_or vs 1 0) 1;
  rearm_pending = eqb (get_or vs 2 0) 1;
  axle_counters_active = eqb (get_or vs 3 0) 1;
  track_circuit_failed = eqb (get_or vs 4 0) 1;
  axle_counters_failed = eqb (get_or vs 5 0) 1;
}

abbrev pub dual_detection_values : DualDetection → List ℕ
dual_detection_values s =
    bit_no s.current ∷
    bit_no s.special_command_pending ∷
    bit_no s.rearm_pending ∷
    bit_no s.axle_counters_active ∷
    bit_no s.track_circuit_failed ∷
    bit_no s.axle_counters_failed ∷
    0 ∷
    []

abbrev pub points_of : List ℕ → Points
points_of vs = record {
  current = eqb (get_or vs 0 0) 1;
  special_command_pending = eqb (get_or vs 1 0) 1;
  movement_blocked = eqb (get_or vs 2 0) 1;
  unexpected_occupancy = eqb (get_or vs 3 0) 1;
  occupancy = leg_occupancy_of (get_or vs 4 0);
  leg_shown = leg_shown_of (get_or vs 5 0);
  overlap_normal = overlap_of (get_or vs 6 0);
  overlap_reverse = overlap_of (get_or vs 7 0);
  detection = points_detection_of (get_or vs 8 0);
  command_blocked = eqb (get_or vs 9 0) 1;
  locking = points_locking_of (get_or vs 10 0);
  clearance_lost = eqb (get_or vs 11 0) 1;
}

abbrev pub points_values : Points → List ℕ
points_values s =
    bit_no s.current ∷
    bit_no s.special_command_pending ∷
    bit_no s.movement_blocked ∷
    bit_no s.unexpected_occupancy ∷
    leg_occupancy_no s.occupancy ∷
    leg_shown_no s.leg_shown ∷
    overlap_no s.overlap_normal ∷
    overlap_no s.overlap_reverse ∷
    points_detection_no s.detection ∷
    bit_no s.command_blocked ∷
    points_locking_no s.locking ∷
    bit_no s.clearance_lost ∷
    0 ∷
    []

abbrev pub electric_lock_of : List ℕ → ElectricLock
electric_lock_of vs = record {
  current = eqb (get_or vs 0 0) 1;
  locked = eqb (get_or vs 1 0) 1;
  key_detected = eqb (get_or vs 2 0) 1;
  release_authorised = eqb (get_or vs 3 0) 1;
}

abbrev pub electric_lock_values : ElectricLock → List ℕ
electric_lock_values s =
    bit_no s.current ∷
    bit_no s.locked ∷
    bit_no s.key_detected ∷
    bit_no s.release_authorised ∷
    0 ∷
    []

abbrev pub general_notices_of : List ℕ → GeneralNotices
general_notices_of vs = record {
  power_in_order = eqb (get_or vs 0 0) 1;
  points_moving = eqb (get_or vs 1 0) 1;
  auto_routes_set = eqb (get_or vs 2 0) 1;
  points_group_blocked = eqb (get_or vs 3 0) 1;
  heaters = heater_indication_of (get_or vs 4 0);
  station_closed = eqb (get_or vs 5 0) 1;
  earth_fault = earth_fault_indication_of (get_or vs 6 0);
}

abbrev pub general_notices_values : GeneralNotices → List ℕ
general_notices_values s =
    bit_no s.power_in_order ∷
    bit_no s.points_moving ∷
    bit_no s.auto_routes_set ∷
    bit_no s.points_group_blocked ∷
    heater_indication_no s.heaters ∷
    bit_no s.station_closed ∷
    earth_fault_indication_no s.earth_fault ∷
    0 ∷
    []

abbrev pub control_boundary_of : List ℕ → ControlBoundary
control_boundary_of vs = record {
  current = eqb (get_or vs 0 0) 1;
  entry_active = eqb (get_or vs 1 0) 1;
  entry_movement = boundary_movement_of (get_or vs 2 0);
  exit_active = eqb (get_or vs 3 0) 1;
  exit_movement = boundary_movement_of (get_or vs 4 0);
  inc_inwards = eqb (get_or vs 5 0) 1;
  inc_shown = eqb (get_or vs 6 0) 1;
  neighbour_object_alarm = eqb (get_or vs 7 0) 1;
}

abbrev pub control_boundary_values : ControlBoundary → List ℕ
control_boundary_values s =
    bit_no s.current ∷
    bit_no s.entry_active ∷
    boundary_movement_no s.entry_movement ∷
    bit_no s.exit_active ∷
    boundary_movement_no s.exit_movement ∷
    bit_no s.inc_inwards ∷
    bit_no s.inc_shown ∷
    bit_no s.neighbour_object_alarm ∷
    0 ∷
    []

abbrev pub signal_v3_of : List ℕ → SignalV3
signal_v3_of vs = record {
  current = eqb (get_or vs 0 0) 1;
  kind = signal_kind_of (get_or vs 1 0);
  high_speed_auto_route = eqb (get_or vs 2 0) 1;
  aspect = signal_aspect_of (get_or vs 3 0);
  red_fitted = eqb (get_or vs 4 0) 1;
  red_blown = eqb (get_or vs 5 0) 1;
  white_fitted = eqb (get_or vs 6 0) 1;
  white_blown = eqb (get_or vs 7 0) 1;
  vertical_white_fitted = eqb (get_or vs 8 0) 1;
  vertical_white_blown = eqb (get_or vs 9 0) 1;
  horizontal_white_fitted = eqb (get_or vs 10 0) 1;
  horizontal_white_blown = eqb (get_or vs 11 0) 1;
  blue_fitted = eqb (get_or vs 12 0) 1;
  blue_blown = eqb (get_or vs 13 0) 1;
  yellow_fitted = eqb (get_or vs 14 0) 1;
  yellow_blown = eqb (get_or vs 15 0) 1;
  green_fitted = eqb (get_or vs 16 0) 1;
  green_blown = eqb (get_or vs 17 0) 1;
  special_command_pending = eqb (get_or vs 18 0) 1;
  command_blocked = eqb (get_or vs 19 0) 1;
  mixed_gauge = mixed_gauge_indication_of (get_or vs 20 0);
  automatic_succession = eqb (get_or vs 21 0) 1;
  auto_route = auto_route_of (get_or vs 22 0);
  router = router_indication_of (get_or vs 23 0);
}

abbrev pub signal_v3_values : SignalV3 → List ℕ
signal_v3_values s =
    bit_no s.current ∷
    signal_kind_no s.kind ∷
    bit_no s.high_speed_auto_route ∷
    signal_aspect_no s.aspect ∷
    bit_no s.red_fitted ∷
    bit_no s.red_blown ∷
    bit_no s.white_fitted ∷
    bit_no s.white_blown ∷
    bit_no s.vertical_white_fitted ∷
    bit_no s.vertical_white_blown ∷
    bit_no s.horizontal_white_fitted ∷
    bit_no s.horizontal_white_blown ∷
    bit_no s.blue_fitted ∷
    bit_no s.blue_blown ∷
    bit_no s.yellow_fitted ∷
    bit_no s.yellow_blown ∷
    bit_no s.green_fitted ∷
    bit_no s.green_blown ∷
    bit_no s.special_command_pending ∷
    bit_no s.command_blocked ∷
    mixed_gauge_indication_no s.mixed_gauge ∷
    bit_no s.automatic_succession ∷
    auto_route_no s.auto_route ∷
    router_indication_no s.router ∷
    []

-- For each layout: a state made from values keeps the listed ones (the others become 0), and a
-- state's values make that state again.
-- Written by catalogue/write.py. Assumes nothing.
use mathlib.Core.Path.{◌≡◌}
use mathlib.Core.List.{List, [], ◌∷◌}
use Prim.Native.Nat.{ℕ}
use lib.ListN.{get_or}
use Rattle.rows.specs.Rows.{cells, rows_from}
use Rattle.rows.specs.Values.{padded}
use Rattle.rows.proofs.Listed.{listed_from, bit_listed, bit_back, reserved_listed}
use Rattle.cases.proofs.CaseLaws.{signal_kind_listed, signal_kind_back, signal_aspect_listed, signal_aspect_back}
use Rattle.cases.proofs.CaseLaws.{mixed_gauge_indication_listed, mixed_gauge_indication_back}
use Rattle.cases.proofs.CaseLaws.{auto_route_indication_listed, auto_route_indication_back, changer_aspect_listed}
use Rattle.cases.proofs.CaseLaws.{changer_aspect_back, board_aspect_listed, board_aspect_back, section_occupancy_listed}
use Rattle.cases.proofs.CaseLaws.{section_occupancy_back, overlap_listed, overlap_back, gauge_presence_listed}
use Rattle.cases.proofs.CaseLaws.{gauge_presence_back, points_section_occupancy_listed, points_section_occupancy_back}
use Rattle.cases.proofs.CaseLaws.{leg_occupancy_listed, leg_occupancy_back, leg_shown_listed, leg_shown_back}
use Rattle.cases.proofs.CaseLaws.{points_detection_listed, points_detection_back, points_locking_listed}
use Rattle.cases.proofs.CaseLaws.{points_locking_back, heater_indication_listed, heater_indication_back}
use Rattle.cases.proofs.CaseLaws.{earth_fault_indication_listed, earth_fault_indication_back, boundary_movement_listed}
use Rattle.cases.proofs.CaseLaws.{boundary_movement_back, auto_route_listed, auto_route_back, router_indication_listed}
use Rattle.cases.proofs.CaseLaws.{router_indication_back}
use Rattle.states.specs.States.{signal_of, signal_values, changer_signal_of, changer_signal_values, virtual_board_of}
use Rattle.states.specs.States.{virtual_board_values, line_track_circuit_of, line_track_circuit_values}
use Rattle.states.specs.States.{points_track_circuit_of, points_track_circuit_values, crossing_track_circuit_of}
use Rattle.states.specs.States.{crossing_track_circuit_values, dual_detection_of, dual_detection_values, points_of}
use Rattle.states.specs.States.{points_values, electric_lock_of, electric_lock_values, general_notices_of}
use Rattle.states.specs.States.{general_notices_values, control_boundary_of, control_boundary_values, signal_v3_of}
use Rattle.states.specs.States.{signal_v3_values}
use Rattle.states.specs.declared.signal.Signal.{Signal}
use Rattle.states.specs.declared.changer_signal.ChangerSignal.{ChangerSignal}
use Rattle.states.specs.declared.virtual_board.VirtualBoard.{VirtualBoard}
use Rattle.states.specs.declared.line_track_circuit.LineTrackCircuit.{LineTrackCircuit}
use Rattle.states.specs.declared.points_track_circuit.PointsTrackCircuit.{PointsTrackCircuit}
use Rattle.states.specs.declared.crossing_track_circuit.CrossingTrackCircuit.{CrossingTrackCircuit}
use Rattle.states.specs.declared.dual_detection.DualDetection.{DualDetection}
use Rattle.states.specs.declared.points.Points.{Points}
use Rattle.states.specs.declared.electric_lock.ElectricLock.{ElectricLock}
use Rattle.states.specs.declared.general_notices.GeneralNotices.{GeneralNotices}
use Rattle.states.specs.declared.control_boundary.ControlBoundary.{ControlBoundary}
use Rattle.states.specs.declared.signal_v3.SignalV3.{SignalV3}

pub signal_listed : (vs : List ℕ) → signal_values (signal_of vs) ≡ listed_from 0 (rows_from 0 24) vs
unfolding cells
signal_listed vs =
    λ i.
    bit_listed (get_or vs 0 0) i ∷
    signal_kind_listed (get_or vs 1 0) i ∷
    signal_aspect_listed (get_or vs 2 0) i ∷
    bit_listed (get_or vs 3 0) i ∷
    bit_listed (get_or vs 4 0) i ∷
    bit_listed (get_or vs 5 0) i ∷
    bit_listed (get_or vs 6 0) i ∷
    bit_listed (get_or vs 7 0) i ∷
    bit_listed (get_or vs 8 0) i ∷
    bit_listed (get_or vs 9 0) i ∷
    bit_listed (get_or vs 10 0) i ∷
    bit_listed (get_or vs 11 0) i ∷
    bit_listed (get_or vs 12 0) i ∷
    bit_listed (get_or vs 13 0) i ∷
    bit_listed (get_or vs 14 0) i ∷
    bit_listed (get_or vs 15 0) i ∷
    bit_listed (get_or vs 16 0) i ∷
    bit_listed (get_or vs 17 0) i ∷
    bit_listed (get_or vs 18 0) i ∷
    mixed_gauge_indication_listed (get_or vs 19 0) i ∷
    bit_listed (get_or vs 20 0) i ∷
    bit_listed (get_or vs 21 0) i ∷
    auto_route_indication_listed (get_or vs 22 0) i ∷
    reserved_listed (get_or vs 23 0) i ∷
    []

pub signal_back : (s : Signal) → signal_of (padded (signal_values s)) ≡ s
signal_back s = λ i. record {
  current = bit_back s.current i;
  kind = signal_kind_back s.kind i;
  aspect = signal_aspect_back s.aspect i;
  red_fitted = bit_back s.red_fitted i;
  red_blown = bit_back s.red_blown i;
  white_fitted = bit_back s.white_fitted i;
  white_blown = bit_back s.white_blown i;
  vertical_white_fitted = bit_back s.vertical_white_fitted i;
  vertical_white_blown = bit_back s.vertical_white_blown i;
  horizontal_white_fitted = bit_back s.horizontal_white_fitted i;
  horizontal_white_blown = bit_back s.horizontal_white_blown i;
  blue_fitted = bit_back s.blue_fitted i;
  blue_blown = bit_back s.blue_blown i;
  yellow_fitted = bit_back s.yellow_fitted i;
  yellow_blown = bit_back s.yellow_blown i;
  green_fitted = bit_back s.green_fitted i;
  green_blown = bit_back s.green_blown i;
  special_command_pending = bit_back s.special_command_pending i;
  command_blocked = bit_back s.command_blocked i;
  mixed_gauge = mixed_gauge_indication_back s.mixed_gauge i;
  automatic_succession = bit_back s.automatic_succession i;
  auto_route_set = bit_back s.auto_route_set i;
  auto_route_indication = auto_route_indication_back s.auto_route_indication i;
}

pub changer_signal_listed : (vs : List ℕ)
    → changer_signal_values (changer_signal_of vs) ≡ listed_from 0 (rows_from 24 3) vs
unfolding cells
changer_signal_listed vs =
    λ i.
    bit_listed (get_or vs 0 0) i ∷
    changer_aspect_listed (get_or vs 1 0) i ∷
    reserved_listed (get_or vs 2 0) i ∷
    []

pub changer_signal_back : (s : ChangerSignal) → changer_signal_of (padded (changer_signal_values s)) ≡ s
changer_signal_back s = λ i. record {
  current = bit_back s.current i;
  aspect = changer_aspect_back s.aspect i;
}

pub virtual_board_listed : (vs : List ℕ)
    → virtual_board_values (virtual_board_of vs) ≡ listed_from 0 (rows_from 27 4) vs
unfolding cells
virtual_board_listed vs =
    λ i.
    bit_listed (get_or vs 0 0) i ∷
    board_aspect_listed (get_or vs 1 0) i ∷
    bit_listed (get_or vs 2 0) i ∷
    reserved_listed (get_or vs 3 0) i ∷
    []

pub virtual_board_back : (s : VirtualBoard) → virtual_board_of (padded (virtual_board_values s)) ≡ s
virtual_board_back s = λ i. record {
  current = bit_back s.current i;
  aspect = board_aspect_back s.aspect i;
  closing_commanded = bit_back s.closing_commanded i;
}

pub line_track_circuit_listed : (vs : List ℕ)
    → line_track_circuit_values (line_track_circuit_of vs) ≡ listed_from 0 (rows_from 31 11) vs
unfolding cells
line_track_circuit_listed vs =
    λ i.
    bit_listed (get_or vs 0 0) i ∷
    bit_listed (get_or vs 1 0) i ∷
    bit_listed (get_or vs 2 0) i ∷
    bit_listed (get_or vs 3 0) i ∷
    section_occupancy_listed (get_or vs 4 0) i ∷
    overlap_listed (get_or vs 5 0) i ∷
    bit_listed (get_or vs 6 0) i ∷
    bit_listed (get_or vs 7 0) i ∷
    gauge_presence_listed (get_or vs 8 0) i ∷
    bit_listed (get_or vs 9 0) i ∷
    reserved_listed (get_or vs 10 0) i ∷
    []

pub line_track_circuit_back : (s : LineTrackCircuit) → line_track_circuit_of (padded (line_track_circuit_values s)) ≡ s
line_track_circuit_back s = λ i. record {
  current = bit_back s.current i;
  special_command_pending = bit_back s.special_command_pending i;
  movement_blocked = bit_back s.movement_blocked i;
  unexpected_occupancy = bit_back s.unexpected_occupancy i;
  occupancy = section_occupancy_back s.occupancy i;
  overlap = overlap_back s.overlap i;
  axle_counter_fault = bit_back s.axle_counter_fault i;
  axle_counter_preset = bit_back s.axle_counter_preset i;
  gauge = gauge_presence_back s.gauge i;
  sequence_lost = bit_back s.sequence_lost i;
}

pub points_track_circuit_listed : (vs : List ℕ)
    → points_track_circuit_values (points_track_circuit_of vs) ≡ listed_from 0 (rows_from 42 11) vs
unfolding cells
points_track_circuit_listed vs =
    λ i.
    bit_listed (get_or vs 0 0) i ∷
    bit_listed (get_or vs 1 0) i ∷
    reserved_listed (get_or vs 2 0) i ∷
    bit_listed (get_or vs 3 0) i ∷
    points_section_occupancy_listed (get_or vs 4 0) i ∷
    reserved_listed (get_or vs 5 0) i ∷
    bit_listed (get_or vs 6 0) i ∷
    bit_listed (get_or vs 7 0) i ∷
    gauge_presence_listed (get_or vs 8 0) i ∷
    bit_listed (get_or vs 9 0) i ∷
    reserved_listed (get_or vs 10 0) i ∷
    []

pub points_track_circuit_back : (s : PointsTrackCircuit)
    → points_track_circuit_of (padded (points_track_circuit_values s)) ≡ s
points_track_circuit_back s = λ i. record {
  current = bit_back s.current i;
  special_command_pending = bit_back s.special_command_pending i;
  unexpected_occupancy = bit_back s.unexpected_occupancy i;
  occupancy = points_section_occupancy_back s.occupancy i;
  axle_counter_fault = bit_back s.axle_counter_fault i;
  axle_counter_preset = bit_back s.axle_counter_preset i;
  gauge = gauge_presence_back s.gauge i;
  sequence_lost = bit_back s.sequence_lost i;
}

pub crossing_track_circuit_listed : (vs : List ℕ)
    → crossing_track_circuit_values (crossing_track_circuit_of vs) ≡ listed_from 0 (rows_from 53 12) vs
unfolding cells
crossing_track_circuit_listed vs =
    λ i.
    bit_listed (get_or vs 0 0) i ∷
    bit_listed (get_or vs 1 0) i ∷
    bit_listed (get_or vs 2 0) i ∷
    bit_listed (get_or vs 3 0) i ∷
    leg_occupancy_listed (get_or vs 4 0) i ∷
    leg_shown_listed (get_or vs 5 0) i ∷
    overlap_listed (get_or vs 6 0) i ∷
    overlap_listed (get_or vs 7 0) i ∷
    bit_listed (get_or vs 8 0) i ∷
    bit_listed (get_or vs 9 0) i ∷
    bit_listed (get_or vs 10 0) i ∷
    reserved_listed (get_or vs 11 0) i ∷
    []

pub crossing_track_circuit_back : (s : CrossingTrackCircuit)
    → crossing_track_circuit_of (padded (crossing_track_circuit_values s)) ≡ s
crossing_track_circuit_back s = λ i. record {
  current = bit_back s.current i;
  special_command_pending = bit_back s.special_command_pending i;
  movement_blocked = bit_back s.movement_blocked i;
  unexpected_occupancy = bit_back s.unexpected_occupancy i;
  occupancy = leg_occupancy_back s.occupancy i;
  leg_shown = leg_shown_back s.leg_shown i;
  overlap_normal = overlap_back s.overlap_normal i;
  overlap_reverse = overlap_back s.overlap_reverse i;
  clearance_lost = bit_back s.clearance_lost i;
  axle_counter_fault = bit_back s.axle_counter_fault i;
  axle_counter_preset = bit_back s.axle_counter_preset i;
}

pub dual_detection_listed : (vs : List ℕ)
    → dual_detection_values (dual_detection_of vs) ≡ listed_from 0 (rows_from 65 7) vs
unfolding cells
dual_detection_listed vs =
    λ i.
    bit_listed (get_or vs 0 0) i ∷
    bit_listed (get_or vs 1 0) i ∷
    bit_listed (get_or vs 2 0) i ∷
    bit_listed (get_or vs 3 0) i ∷
    bit_listed (get_or vs 4 0) i ∷
    bit_listed (get_or vs 5 0) i ∷
    reserved_listed (get_or vs 6 0) i ∷
    []

pub dual_detection_back : (s : DualDetection) → dual_detection_of (padded (dual_detection_values s)) ≡ s
dual_detection_back s = λ i. record {
  current = bit_back s.current i;
  special_command_pending = bit_back s.special_command_pending i;
  rearm_pending = bit_back s.rearm_pending i;
  axle_counters_active = bit_back s.axle_counters_active i;
  track_circuit_failed = bit_back s.track_circuit_failed i;
  axle_counters_failed = bit_back s.axle_counters_failed i;
}

pub points_listed : (vs : List ℕ) → points_values (points_of vs) ≡ listed_from 0 (rows_from 72 13) vs
unfolding cells
points_listed vs =
    λ i.
    bit_listed (get_or vs 0 0) i ∷
    bit_listed (get_or vs 1 0) i ∷
    bit_listed (get_or vs 2 0) i ∷
    bit_listed (get_or vs 3 0) i ∷
    leg_occupancy_listed (get_or vs 4 0) i ∷
    leg_shown_listed (get_or vs 5 0) i ∷
    overlap_listed (get_or vs 6 0) i ∷
    overlap_listed (get_or vs 7 0) i ∷
    points_detection_listed (get_or vs 8 0) i ∷
    bit_listed (get_or vs 9 0) i ∷
    points_locking_listed (get_or vs 10 0) i ∷
    bit_listed (get_or vs 11 0) i ∷
    reserved_listed (get_or vs 12 0) i ∷
    []

pub points_back : (s : Points) → points_of (padded (points_values s)) ≡ s
points_back s = λ i. record {
  current = bit_back s.current i;
  special_command_pending = bit_back s.special_command_pending i;
  movement_blocked = bit_back s.movement_blocked i;
  unexpected_occupancy = bit_back s.unexpected_occupancy i;
  occupancy = leg_occupancy_back s.occupancy i;
  leg_shown = leg_shown_back s.leg_shown i;
  overlap_normal = overlap_back s.overlap_normal i;
  overlap_reverse = overlap_back s.overlap_reverse i;
  detection = points_detection_back s.detection i;
  command_blocked = bit_back s.command_blocked i;
  locking = points_locking_back s.locking i;
  clearance_lost = bit_back s.clearance_lost i;
}

pub electric_lock_listed : (vs : List ℕ)
    → electric_lock_values (electric_lock_of vs) ≡ listed_from 0 (rows_from 85 5) vs
unfolding cells
electric_lock_listed vs =
    λ i.
    bit_listed (get_or vs 0 0) i ∷
    bit_listed (get_or vs 1 0) i ∷
    bit_listed (get_or vs 2 0) i ∷
    bit_listed (get_or vs 3 0) i ∷
    reserved_listed (get_or vs 4 0) i ∷
    []

pub electric_lock_back : (s : ElectricLock) → electric_lock_of (padded (electric_lock_values s)) ≡ s
electric_lock_back s = λ i. record {
  current = bit_back s.current i;
  locked = bit_back s.locked i;
  key_detected = bit_back s.key_detected i;
  release_authorised = bit_back s.release_authorised i;
}

pub general_notices_listed : (vs : List ℕ)
    → general_notices_values (general_notices_of vs) ≡ listed_from 0 (rows_from 90 8) vs
unfolding cells
general_notices_listed vs =
    λ i.
    bit_listed (get_or vs 0 0) i ∷
    bit_listed (get_or vs 1 0) i ∷
    bit_listed (get_or vs 2 0) i ∷
    bit_listed (get_or vs 3 0) i ∷
    heater_indication_listed (get_or vs 4 0) i ∷
    bit_listed (get_or vs 5 0) i ∷
    earth_fault_indication_listed (get_or vs 6 0) i ∷
    reserved_listed (get_or vs 7 0) i ∷
    []

pub general_notices_back : (s : GeneralNotices) → general_notices_of (padded (general_notices_values s)) ≡ s
general_notices_back s = λ i. record {
  power_in_order = bit_back s.power_in_order i;
  points_moving = bit_back s.points_moving i;
  auto_routes_set = bit_back s.auto_routes_set i;
  points_group_blocked = bit_back s.points_group_blocked i;
  heaters = heater_indication_back s.heaters i;
  station_closed = bit_back s.station_closed i;
  earth_fault = earth_fault_indication_back s.earth_fault i;
}

pub control_boundary_listed : (vs : List ℕ)
    → control_boundary_values (control_boundary_of vs) ≡ listed_from 0 (rows_from 98 9) vs
unfolding cells
control_boundary_listed vs =
    λ i.
    bit_listed (get_or vs 0 0) i ∷
    bit_listed (get_or vs 1 0) i ∷
    boundary_movement_listed (get_or vs 2 0) i ∷
    bit_listed (get_or vs 3 0) i ∷
    boundary_movement_listed (get_or vs 4 0) i ∷
    bit_listed (get_or vs 5 0) i ∷
    bit_listed (get_or vs 6 0) i ∷
    bit_listed (get_or vs 7 0) i ∷
    reserved_listed (get_or vs 8 0) i ∷
    []

pub control_boundary_back : (s : ControlBoundary) → control_boundary_of (padded (control_boundary_values s)) ≡ s
control_boundary_back s = λ i. record {
  current = bit_back s.current i;
  entry_active = bit_back s.entry_active i;
  entry_movement = boundary_movement_back s.entry_movement i;
  exit_active = bit_back s.exit_active i;
  exit_movement = boundary_movement_back s.exit_movement i;
  inc_inwards = bit_back s.inc_inwards i;
  inc_shown = bit_back s.inc_shown i;
  neighbour_object_alarm = bit_back s.neighbour_object_alarm i;
}

pub signal_v3_listed : (vs : List ℕ) → signal_v3_values (signal_v3_of vs) ≡ listed_from 0 (rows_from 107 24) vs
unfolding cells
signal_v3_listed vs =
    λ i.
    bit_listed (get_or vs 0 0) i ∷
    signal_kind_listed (get_or vs 1 0) i ∷
    bit_listed (get_or vs 2 0) i ∷
    signal_aspect_listed (get_or vs 3 0) i ∷
    bit_listed (get_or vs 4 0) i ∷
    bit_listed (get_or vs 5 0) i ∷
    bit_listed (get_or vs 6 0) i ∷
    bit_listed (get_or vs 7 0) i ∷
    bit_listed (get_or vs 8 0) i ∷
    bit_listed (get_or vs 9 0) i ∷
    bit_listed (get_or vs 10 0) i ∷
    bit_listed (get_or vs 11 0) i ∷
    bit_listed (get_or vs 12 0) i ∷
    bit_listed (get_or vs 13 0) i ∷
    bit_listed (get_or vs 14 0) i ∷
    bit_listed (get_or vs 15 0) i ∷
    bit_listed (get_or vs 16 0) i ∷
    bit_listed (get_or vs 17 0) i ∷
    bit_listed (get_or vs 18 0) i ∷
    bit_listed (get_or vs 19 0) i ∷
    mixed_gauge_indication_listed (get_or vs 20 0) i ∷
    bit_listed (get_or vs 21 0) i ∷
    auto_route_listed (get_or vs 22 0) i ∷
    router_indication_listed (get_or vs 23 0) i ∷
    []

pub signal_v3_back : (s : SignalV3) → signal_v3_of (padded (signal_v3_values s)) ≡ s
signal_v3_back s = λ i. record {
  current = bit_back s.current i;
  kind = signal_kind_back s.kind i;
  high_speed_auto_route = bit_back s.high_speed_auto_route i;
  aspect = signal_aspect_back s.aspect i;
  red_fitted = bit_back s.red_fitted i;
  red_blown = bit_back s.red_blown i;
  white_fitted = bit_back s.white_fitted i;
  white_blown = bit_back s.white_blown i;
  vertical_white_fitted = bit_back s.vertical_white_fitted i;
  vertical_white_blown = bit_back s.vertical_white_blown i;
  horizontal_white_fitted = bit_back s.horizontal_white_fitted i;
  horizontal_white_blown = bit_back s.horizontal_white_blown i;
  blue_fitted = bit_back s.blue_fitted i;
  blue_blown = bit_back s.blue_blown i;
  yellow_fitted = bit_back s.yellow_fitted i;
  yellow_blown = bit_back s.yellow_blown i;
  green_fitted = bit_back s.green_fitted i;
  green_blown = bit_back s.green_blown i;
  special_command_pending = bit_back s.special_command_pending i;
  command_blocked = bit_back s.command_blocked i;
  mixed_gauge = mixed_gauge_indication_back s.mixed_gauge i;
  automatic_succession = bit_back s.automatic_succession i;
  auto_route = auto_route_back s.auto_route i;
  router = router_indication_back s.router i;
}

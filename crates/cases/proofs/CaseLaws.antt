-- A value read as a case and written back is the same if it is listed, and else 0;
-- a case written as a value is read back.
-- Written by catalogue/write.py. Assumes nothing.
use mathlib.Core.Path.{◌≡◌, refl}
use Prim.Native.Nat.{ℕ}
use Rattle.rows.proofs.Listed.{listed, named}
use Rattle.cases.specs.Cases.{signal_kind_cases, signal_kind_of, signal_kind_no, signal_aspect_cases, signal_aspect_of}
use Rattle.cases.specs.Cases.{signal_aspect_no, mixed_gauge_indication_cases, mixed_gauge_indication_of}
use Rattle.cases.specs.Cases.{mixed_gauge_indication_no, auto_route_indication_cases, auto_route_indication_of}
use Rattle.cases.specs.Cases.{auto_route_indication_no, changer_aspect_cases, changer_aspect_of, changer_aspect_no}
use Rattle.cases.specs.Cases.{board_aspect_cases, board_aspect_of, board_aspect_no, section_occupancy_cases}
use Rattle.cases.specs.Cases.{section_occupancy_of, section_occupancy_no, overlap_cases, overlap_of, overlap_no}
use Rattle.cases.specs.Cases.{gauge_presence_cases, gauge_presence_of, gauge_presence_no}
use Rattle.cases.specs.Cases.{points_section_occupancy_cases, points_section_occupancy_of, points_section_occupancy_no}
use Rattle.cases.specs.Cases.{leg_occupancy_cases, leg_occupancy_of, leg_occupancy_no, leg_shown_cases, leg_shown_of}
use Rattle.cases.specs.Cases.{leg_shown_no, points_detection_cases, points_detection_of, points_detection_no}
use Rattle.cases.specs.Cases.{points_locking_cases, points_locking_of, points_locking_no, heater_indication_cases}
use Rattle.cases.specs.Cases.{heater_indication_of, heater_indication_no, earth_fault_indication_cases}
use Rattle.cases.specs.Cases.{earth_fault_indication_of, earth_fault_indication_no, boundary_movement_cases}
use Rattle.cases.specs.Cases.{boundary_movement_of, boundary_movement_no, auto_route_cases, auto_route_of}
use Rattle.cases.specs.Cases.{auto_route_no, router_indication_cases, router_indication_of, router_indication_no}
use Rattle.cases.specs.declared.SignalKind.{SignalKind}
use Rattle.cases.specs.declared.SignalAspect.{SignalAspect}
use Rattle.cases.specs.declared.MixedGaugeIndication.{MixedGaugeIndication}
use Rattle.cases.specs.declared.AutoRouteIndication.{AutoRouteIndication}
use Rattle.cases.specs.declared.ChangerAspect.{ChangerAspect}
use Rattle.cases.specs.declared.BoardAspect.{BoardAspect}
use Rattle.cases.specs.declared.SectionOccupancy.{SectionOccupancy}
use Rattle.cases.specs.declared.Overlap.{Overlap}
use Rattle.cases.specs.declared.GaugePresence.{GaugePresence}
use Rattle.cases.specs.declared.PointsSectionOccupancy.{PointsSectionOccupancy}
use Rattle.cases.specs.declared.LegOccupancy.{LegOccupancy}
use Rattle.cases.specs.declared.LegShown.{LegShown}
use Rattle.cases.specs.declared.PointsDetection.{PointsDetection}
use Rattle.cases.specs.declared.PointsLocking.{PointsLocking}
use Rattle.cases.specs.declared.HeaterIndication.{HeaterIndication}
use Rattle.cases.specs.declared.EarthFaultIndication.{EarthFaultIndication}
use Rattle.cases.specs.declared.BoundaryMovement.{BoundaryMovement}
use Rattle.cases.specs.declared.AutoRoute.{AutoRoute}
use Rattle.cases.specs.declared.RouterIndication.{RouterIndication}

pub signal_kind_listed : (v : ℕ) → signal_kind_no (signal_kind_of v) ≡ listed 3 v
signal_kind_listed = named signal_kind_no signal_kind_cases SignalKind.Unknown 3 tt refl refl

pub signal_kind_back : (c : SignalKind) → signal_kind_of (signal_kind_no c) ≡ c
signal_kind_back SignalKind.Unknown = refl
signal_kind_back SignalKind.HighNoWhiteNoBlue = refl
signal_kind_back SignalKind.HighWhiteOrBlue = refl
signal_kind_back SignalKind.Low = refl

pub signal_aspect_listed : (v : ℕ) → signal_aspect_no (signal_aspect_of v) ≡ listed 12 v
signal_aspect_listed = named signal_aspect_no signal_aspect_cases SignalAspect.Dark 12 tt refl refl

pub signal_aspect_back : (c : SignalAspect) → signal_aspect_of (signal_aspect_no c) ≡ c
signal_aspect_back SignalAspect.Dark = refl
signal_aspect_back SignalAspect.Red = refl
signal_aspect_back SignalAspect.RedBlue = refl
signal_aspect_back SignalAspect.RedBlueFlashing = refl
signal_aspect_back SignalAspect.RedWhite = refl
signal_aspect_back SignalAspect.RedWhiteFlashing = refl
signal_aspect_back SignalAspect.White = refl
signal_aspect_back SignalAspect.WhiteFlashing = refl
signal_aspect_back SignalAspect.Yellow = refl
signal_aspect_back SignalAspect.YellowFlashing = refl
signal_aspect_back SignalAspect.GreenYellow = refl
signal_aspect_back SignalAspect.Green = refl
signal_aspect_back SignalAspect.GreenFlashing = refl

pub mixed_gauge_indication_listed : (v : ℕ) → mixed_gauge_indication_no (mixed_gauge_indication_of v) ≡ listed 7 v
mixed_gauge_indication_listed =
    named mixed_gauge_indication_no mixed_gauge_indication_cases MixedGaugeIndication.NoThirdRail 7 tt refl refl

pub mixed_gauge_indication_back : (c : MixedGaugeIndication)
    → mixed_gauge_indication_of (mixed_gauge_indication_no c) ≡ c
mixed_gauge_indication_back MixedGaugeIndication.NoThirdRail = refl
mixed_gauge_indication_back MixedGaugeIndication.AtRest = refl
mixed_gauge_indication_back MixedGaugeIndication.UicMovementSet = refl
mixed_gauge_indication_back MixedGaugeIndication.UicShuntSet = refl
mixed_gauge_indication_back MixedGaugeIndication.UicOccupancyConflict = refl
mixed_gauge_indication_back MixedGaugeIndication.ConventionalMovementSet = refl
mixed_gauge_indication_back MixedGaugeIndication.ConventionalShuntSet = refl
mixed_gauge_indication_back MixedGaugeIndication.ConventionalOccupancyConflict = refl

pub auto_route_indication_listed : (v : ℕ) → auto_route_indication_no (auto_route_indication_of v) ≡ listed 3 v
auto_route_indication_listed =
    named auto_route_indication_no auto_route_indication_cases AutoRouteIndication.GreenSteady 3 tt refl refl

pub auto_route_indication_back : (c : AutoRouteIndication) → auto_route_indication_of (auto_route_indication_no c) ≡ c
auto_route_indication_back AutoRouteIndication.GreenSteady = refl
auto_route_indication_back AutoRouteIndication.GreenFlashing = refl
auto_route_indication_back AutoRouteIndication.RedSteady = refl
auto_route_indication_back AutoRouteIndication.RedFlashing = refl

pub changer_aspect_listed : (v : ℕ) → changer_aspect_no (changer_aspect_of v) ≡ listed 3 v
changer_aspect_listed = named changer_aspect_no changer_aspect_cases ChangerAspect.Dark 3 tt refl refl

pub changer_aspect_back : (c : ChangerAspect) → changer_aspect_of (changer_aspect_no c) ≡ c
changer_aspect_back ChangerAspect.Dark = refl
changer_aspect_back ChangerAspect.FixedT = refl
changer_aspect_back ChangerAspect.FixedC = refl
changer_aspect_back ChangerAspect.FlashingT = refl

pub board_aspect_listed : (v : ℕ) → board_aspect_no (board_aspect_of v) ≡ listed 2 v
board_aspect_listed = named board_aspect_no board_aspect_cases BoardAspect.Red 2 tt refl refl

pub board_aspect_back : (c : BoardAspect) → board_aspect_of (board_aspect_no c) ≡ c
board_aspect_back BoardAspect.Red = refl
board_aspect_back BoardAspect.Blue = refl
board_aspect_back BoardAspect.White = refl

pub section_occupancy_listed : (v : ℕ) → section_occupancy_no (section_occupancy_of v) ≡ listed 3 v
section_occupancy_listed = named section_occupancy_no section_occupancy_cases SectionOccupancy.ClearIdle 3 tt refl refl

pub section_occupancy_back : (c : SectionOccupancy) → section_occupancy_of (section_occupancy_no c) ≡ c
section_occupancy_back SectionOccupancy.ClearIdle = refl
section_occupancy_back SectionOccupancy.ClearMovementOrBlockSet = refl
section_occupancy_back SectionOccupancy.ClearShuntSet = refl
section_occupancy_back SectionOccupancy.Occupied = refl

pub overlap_listed : (v : ℕ) → overlap_no (overlap_of v) ≡ listed 2 v
overlap_listed = named overlap_no overlap_cases Overlap.NoOverlap 2 tt refl refl

pub overlap_back : (c : Overlap) → overlap_of (overlap_no c) ≡ c
overlap_back Overlap.NoOverlap = refl
overlap_back Overlap.MovementOverlap = refl
overlap_back Overlap.ShuntOverlap = refl

pub gauge_presence_listed : (v : ℕ) → gauge_presence_no (gauge_presence_of v) ≡ listed 4 v
gauge_presence_listed = named gauge_presence_no gauge_presence_cases GaugePresence.NotShown 4 tt refl refl

pub gauge_presence_back : (c : GaugePresence) → gauge_presence_of (gauge_presence_no c) ≡ c
gauge_presence_back GaugePresence.NotShown = refl
gauge_presence_back GaugePresence.NoTrain = refl
gauge_presence_back GaugePresence.UicTrain = refl
gauge_presence_back GaugePresence.ConventionalTrain = refl
gauge_presence_back GaugePresence.BothGauges = refl

pub points_section_occupancy_listed : (v : ℕ) → points_section_occupancy_no (points_section_occupancy_of v) ≡ listed 1 v
points_section_occupancy_listed =
    named points_section_occupancy_no points_section_occupancy_cases PointsSectionOccupancy.Clear 1 tt refl refl

pub points_section_occupancy_back : (c : PointsSectionOccupancy)
    → points_section_occupancy_of (points_section_occupancy_no c) ≡ c
points_section_occupancy_back PointsSectionOccupancy.Clear = refl
points_section_occupancy_back PointsSectionOccupancy.Occupied = refl

pub leg_occupancy_listed : (v : ℕ) → leg_occupancy_no (leg_occupancy_of v) ≡ listed 3 v
leg_occupancy_listed = named leg_occupancy_no leg_occupancy_cases LegOccupancy.ClearIdle 3 tt refl refl

pub leg_occupancy_back : (c : LegOccupancy) → leg_occupancy_of (leg_occupancy_no c) ≡ c
leg_occupancy_back LegOccupancy.ClearIdle = refl
leg_occupancy_back LegOccupancy.ClearMovementSet = refl
leg_occupancy_back LegOccupancy.ClearShuntSet = refl
leg_occupancy_back LegOccupancy.Occupied = refl

pub leg_shown_listed : (v : ℕ) → leg_shown_no (leg_shown_of v) ≡ listed 2 v
leg_shown_listed = named leg_shown_no leg_shown_cases LegShown.NormalAndReverse 2 tt refl refl

pub leg_shown_back : (c : LegShown) → leg_shown_of (leg_shown_no c) ≡ c
leg_shown_back LegShown.NormalAndReverse = refl
leg_shown_back LegShown.NormalOnly = refl
leg_shown_back LegShown.ReverseOnly = refl

pub points_detection_listed : (v : ℕ) → points_detection_no (points_detection_of v) ≡ listed 4 v
points_detection_listed = named points_detection_no points_detection_cases PointsDetection.NotDetected 4 tt refl refl

pub points_detection_back : (c : PointsDetection) → points_detection_of (points_detection_no c) ≡ c
points_detection_back PointsDetection.NotDetected = refl
points_detection_back PointsDetection.CalledNormal = refl
points_detection_back PointsDetection.CalledReverse = refl
points_detection_back PointsDetection.DetectedNormal = refl
points_detection_back PointsDetection.DetectedReverse = refl

pub points_locking_listed : (v : ℕ) → points_locking_no (points_locking_of v) ≡ listed 3 v
points_locking_listed = named points_locking_no points_locking_cases PointsLocking.Free 3 tt refl refl

pub points_locking_back : (c : PointsLocking) → points_locking_of (points_locking_no c) ≡ c
points_locking_back PointsLocking.Free = refl
points_locking_back PointsLocking.Locked = refl
points_locking_back PointsLocking.MovementRequired = refl
points_locking_back PointsLocking.ReleasedForMaintenance = refl

pub heater_indication_listed : (v : ℕ) → heater_indication_no (heater_indication_of v) ≡ listed 3 v
heater_indication_listed = named heater_indication_no heater_indication_cases HeaterIndication.NotShown 3 tt refl refl

pub heater_indication_back : (c : HeaterIndication) → heater_indication_of (heater_indication_no c) ≡ c
heater_indication_back HeaterIndication.NotShown = refl
heater_indication_back HeaterIndication.Yellow = refl
heater_indication_back HeaterIndication.Green = refl
heater_indication_back HeaterIndication.RedFlashing = refl

pub earth_fault_indication_listed : (v : ℕ) → earth_fault_indication_no (earth_fault_indication_of v) ≡ listed 2 v
earth_fault_indication_listed =
    named earth_fault_indication_no earth_fault_indication_cases EarthFaultIndication.NotShown 2 tt refl refl

pub earth_fault_indication_back : (c : EarthFaultIndication)
    → earth_fault_indication_of (earth_fault_indication_no c) ≡ c
earth_fault_indication_back EarthFaultIndication.NotShown = refl
earth_fault_indication_back EarthFaultIndication.EarthFault = refl
earth_fault_indication_back EarthFaultIndication.TestRunning = refl

pub boundary_movement_listed : (v : ℕ) → boundary_movement_no (boundary_movement_of v) ≡ listed 6 v
boundary_movement_listed = named boundary_movement_no boundary_movement_cases BoundaryMovement.AtRest 6 tt refl refl

pub boundary_movement_back : (c : BoundaryMovement) → boundary_movement_of (boundary_movement_no c) ≡ c
boundary_movement_back BoundaryMovement.AtRest = refl
boundary_movement_back BoundaryMovement.RouteSignalPending = refl
boundary_movement_back BoundaryMovement.RouteSignalOpen = refl
boundary_movement_back BoundaryMovement.OverrideSignalPending = refl
boundary_movement_back BoundaryMovement.OverrideSignalOpen = refl
boundary_movement_back BoundaryMovement.ShuntSignalPending = refl
boundary_movement_back BoundaryMovement.ShuntSignalOpen = refl

pub auto_route_listed : (v : ℕ) → auto_route_no (auto_route_of v) ≡ listed 3 v
auto_route_listed = named auto_route_no auto_route_cases AutoRoute.NotShown 3 tt refl refl

pub auto_route_back : (c : AutoRoute) → auto_route_of (auto_route_no c) ≡ c
auto_route_back AutoRoute.NotShown = refl
auto_route_back AutoRoute.GreenSteady = refl
auto_route_back AutoRoute.GreenFlashing = refl
auto_route_back AutoRoute.RedFlashing = refl

pub router_indication_listed : (v : ℕ) → router_indication_no (router_indication_of v) ≡ listed 2 v
router_indication_listed = named router_indication_no router_indication_cases RouterIndication.NotShown 2 tt refl refl

pub router_indication_back : (c : RouterIndication) → router_indication_of (router_indication_no c) ≡ c
router_indication_back RouterIndication.NotShown = refl
router_indication_back RouterIndication.ManualBlock = refl
router_indication_back RouterIndication.AutomaticBlock = refl

-- For every field wider than one bit: its named cases in the order of their values, the case of a value (the first if
-- it has none), and the value of a case.
-- Written by catalogue/write.py.
use Rattle.std.specs.Prelude.{List, [], ◌∷◌, ℕ, get_or}
use Rattle.cases.specs.declared.SignalKind.{SignalKind}
use Rattle.cases.specs.declared.SignalAspect.{SignalAspect}
use Rattle.cases.specs.declared.MixedGaugeIndication.{MixedGaugeIndication}
use Rattle.cases.specs.declared.AutoRouteIndication.{AutoRouteIndication}
use Rattle.cases.specs.declared.ChangerAspect.{ChangerAspect}
use Rattle.cases.specs.declared.BoardAspect.{BoardAspect}
use Rattle.cases.specs.declared.SectionOccupancy.{SectionOccupancy}
use Rattle.cases.specs.declared.Overlap.{Overlap}
use Rattle.cases.specs.declared.GaugePresence.{GaugePresence}
use Rattle.cases.specs.declared.PointsSectionOccupancy.{PointsSectionOccupancy}
use Rattle.cases.specs.declared.LegOccupancy.{LegOccupancy}
use Rattle.cases.specs.declared.LegShown.{LegShown}
use Rattle.cases.specs.declared.PointsDetection.{PointsDetection}
use Rattle.cases.specs.declared.PointsLocking.{PointsLocking}
use Rattle.cases.specs.declared.HeaterIndication.{HeaterIndication}
use Rattle.cases.specs.declared.EarthFaultIndication.{EarthFaultIndication}
use Rattle.cases.specs.declared.BoundaryMovement.{BoundaryMovement}
use Rattle.cases.specs.declared.AutoRoute.{AutoRoute}
use Rattle.cases.specs.declared.RouterIndication.{RouterIndication}

abbrev pub signal_kind_cases : List SignalKind
signal_kind_cases = SignalKind.Unknown ∷ SignalKind.HighNoWhiteNoBlue ∷ SignalKind.HighWhiteOrBlue ∷ SignalKind.Low ∷ []

abbrev pub signal_kind_of : ℕ → SignalKind
signal_kind_of v = get_or signal_kind_cases v SignalKind.Unknown

abbrev pub signal_kind_no : SignalKind → ℕ
signal_kind_no SignalKind.Unknown = 0
signal_kind_no SignalKind.HighNoWhiteNoBlue = 1
signal_kind_no SignalKind.HighWhiteOrBlue = 2
signal_kind_no SignalKind.Low = 3

abbrev pub signal_aspect_cases : List SignalAspect
signal_aspect_cases =
    SignalAspect.Dark ∷ SignalAspect.Red ∷ SignalAspect.RedBlue ∷ SignalAspect.RedBlueFlashing ∷ SignalAspect.RedWhite ∷
    SignalAspect.RedWhiteFlashing ∷ SignalAspect.White ∷ SignalAspect.WhiteFlashing ∷ SignalAspect.Yellow ∷
    SignalAspect.YellowFlashing ∷ SignalAspect.GreenYellow ∷ SignalAspect.Green ∷ SignalAspect.GreenFlashing ∷ []

abbrev pub signal_aspect_of : ℕ → SignalAspect
signal_aspect_of v = get_or signal_aspect_cases v SignalAspect.Dark

abbrev pub signal_aspect_no : SignalAspect → ℕ
signal_aspect_no SignalAspect.Dark = 0
signal_aspect_no SignalAspect.Red = 1
signal_aspect_no SignalAspect.RedBlue = 2
signal_aspect_no SignalAspect.RedBlueFlashing = 3
signal_aspect_no SignalAspect.RedWhite = 4
signal_aspect_no SignalAspect.RedWhiteFlashing = 5
signal_aspect_no SignalAspect.White = 6
signal_aspect_no SignalAspect.WhiteFlashing = 7
signal_aspect_no SignalAspect.Yellow = 8
signal_aspect_no SignalAspect.YellowFlashing = 9
signal_aspect_no SignalAspect.GreenYellow = 10
signal_aspect_no SignalAspect.Green = 11
signal_aspect_no SignalAspect.GreenFlashing = 12

abbrev pub mixed_gauge_indication_cases : List MixedGaugeIndication
mixed_gauge_indication_cases =
    MixedGaugeIndication.NoThirdRail ∷ MixedGaugeIndication.AtRest ∷ MixedGaugeIndication.UicMovementSet ∷
    MixedGaugeIndication.UicShuntSet ∷ MixedGaugeIndication.UicOccupancyConflict ∷
    MixedGaugeIndication.ConventionalMovementSet ∷ MixedGaugeIndication.ConventionalShuntSet ∷
    MixedGaugeIndication.ConventionalOccupancyConflict ∷ []

abbrev pub mixed_gauge_indication_of : ℕ → MixedGaugeIndication
mixed_gauge_indication_of v = get_or mixed_gauge_indication_cases v MixedGaugeIndication.NoThirdRail

abbrev pub mixed_gauge_indication_no : MixedGaugeIndication → ℕ
mixed_gauge_indication_no MixedGaugeIndication.NoThirdRail = 0
mixed_gauge_indication_no MixedGaugeIndication.AtRest = 1
mixed_gauge_indication_no MixedGaugeIndication.UicMovementSet = 2
mixed_gauge_indication_no MixedGaugeIndication.UicShuntSet = 3
mixed_gauge_indication_no MixedGaugeIndication.UicOccupancyConflict = 4
mixed_gauge_indication_no MixedGaugeIndication.ConventionalMovementSet = 5
mixed_gauge_indication_no MixedGaugeIndication.ConventionalShuntSet = 6
mixed_gauge_indication_no MixedGaugeIndication.ConventionalOccupancyConflict = 7

abbrev pub auto_route_indication_cases : List AutoRouteIndication
auto_route_indication_cases =
    AutoRouteIndication.GreenSteady ∷ AutoRouteIndication.GreenFlashing ∷ AutoRouteIndication.RedSteady ∷
    AutoRouteIndication.RedFlashing ∷ []

abbrev pub auto_route_indication_of : ℕ → AutoRouteIndication
auto_route_indication_of v = get_or auto_route_indication_cases v AutoRouteIndication.GreenSteady

abbrev pub auto_route_indication_no : AutoRouteIndication → ℕ
auto_route_indication_no AutoRouteIndication.GreenSteady = 0
auto_route_indication_no AutoRouteIndication.GreenFlashing = 1
auto_route_indication_no AutoRouteIndication.RedSteady = 2
auto_route_indication_no AutoRouteIndication.RedFlashing = 3

abbrev pub changer_aspect_cases : List ChangerAspect
changer_aspect_cases = ChangerAspect.Dark ∷ ChangerAspect.FixedT ∷ ChangerAspect.FixedC ∷ ChangerAspect.FlashingT ∷ []

abbrev pub changer_aspect_of : ℕ → ChangerAspect
changer_aspect_of v = get_or changer_aspect_cases v ChangerAspect.Dark

abbrev pub changer_aspect_no : ChangerAspect → ℕ
changer_aspect_no ChangerAspect.Dark = 0
changer_aspect_no ChangerAspect.FixedT = 1
changer_aspect_no ChangerAspect.FixedC = 2
changer_aspect_no ChangerAspect.FlashingT = 3

abbrev pub board_aspect_cases : List BoardAspect
board_aspect_cases = BoardAspect.Red ∷ BoardAspect.Blue ∷ BoardAspect.White ∷ []

abbrev pub board_aspect_of : ℕ → BoardAspect
board_aspect_of v = get_or board_aspect_cases v BoardAspect.Red

abbrev pub board_aspect_no : BoardAspect → ℕ
board_aspect_no BoardAspect.Red = 0
board_aspect_no BoardAspect.Blue = 1
board_aspect_no BoardAspect.White = 2

abbrev pub section_occupancy_cases : List SectionOccupancy
section_occupancy_cases =
    SectionOccupancy.ClearIdle ∷ SectionOccupancy.ClearMovementOrBlockSet ∷ SectionOccupancy.ClearShuntSet ∷
    SectionOccupancy.Occupied ∷ []

abbrev pub section_occupancy_of : ℕ → SectionOccupancy
section_occupancy_of v = get_or section_occupancy_cases v SectionOccupancy.ClearIdle

abbrev pub section_occupancy_no : SectionOccupancy → ℕ
section_occupancy_no SectionOccupancy.ClearIdle = 0
section_occupancy_no SectionOccupancy.ClearMovementOrBlockSet = 1
section_occupancy_no SectionOccupancy.ClearShuntSet = 2
section_occupancy_no SectionOccupancy.Occupied = 3

abbrev pub overlap_cases : List Overlap
overlap_cases = Overlap.NoOverlap ∷ Overlap.MovementOverlap ∷ Overlap.ShuntOverlap ∷ []

abbrev pub overlap_of : ℕ → Overlap
overlap_of v = get_or overlap_cases v Overlap.NoOverlap

abbrev pub overlap_no : Overlap → ℕ
overlap_no Overlap.NoOverlap = 0
overlap_no Overlap.MovementOverlap = 1
overlap_no Overlap.ShuntOverlap = 2

abbrev pub gauge_presence_cases : List GaugePresence
gauge_presence_cases =
    GaugePresence.NotShown ∷ GaugePresence.NoTrain ∷ GaugePresence.UicTrain ∷ GaugePresence.ConventionalTrain ∷
    GaugePresence.BothGauges ∷ []

abbrev pub gauge_presence_of : ℕ → GaugePresence
gauge_presence_of v = get_or gauge_presence_cases v GaugePresence.NotShown

abbrev pub gauge_presence_no : GaugePresence → ℕ
gauge_presence_no GaugePresence.NotShown = 0
gauge_presence_no GaugePresence.NoTrain = 1
gauge_presence_no GaugePresence.UicTrain = 2
gauge_presence_no GaugePresence.ConventionalTrain = 3
gauge_presence_no GaugePresence.BothGauges = 4

abbrev pub points_section_occupancy_cases : List PointsSectionOccupancy
points_section_occupancy_cases = PointsSectionOccupancy.Clear ∷ PointsSectionOccupancy.Occupied ∷ []

abbrev pub points_section_occupancy_of : ℕ → PointsSectionOccupancy
points_section_occupancy_of v = get_or points_section_occupancy_cases v PointsSectionOccupancy.Clear

abbrev pub points_section_occupancy_no : PointsSectionOccupancy → ℕ
points_section_occupancy_no PointsSectionOccupancy.Clear = 0
points_section_occupancy_no PointsSectionOccupancy.Occupied = 1

abbrev pub leg_occupancy_cases : List LegOccupancy
leg_occupancy_cases =
    LegOccupancy.ClearIdle ∷ LegOccupancy.ClearMovementSet ∷ LegOccupancy.ClearShuntSet ∷ LegOccupancy.Occupied ∷ []

abbrev pub leg_occupancy_of : ℕ → LegOccupancy
leg_occupancy_of v = get_or leg_occupancy_cases v LegOccupancy.ClearIdle

abbrev pub leg_occupancy_no : LegOccupancy → ℕ
leg_occupancy_no LegOccupancy.ClearIdle = 0
leg_occupancy_no LegOccupancy.ClearMovementSet = 1
leg_occupancy_no LegOccupancy.ClearShuntSet = 2
leg_occupancy_no LegOccupancy.Occupied = 3

abbrev pub leg_shown_cases : List LegShown
leg_shown_cases = LegShown.NormalAndReverse ∷ LegShown.NormalOnly ∷ LegShown.ReverseOnly ∷ []

abbrev pub leg_shown_of : ℕ → LegShown
leg_shown_of v = get_or leg_shown_cases v LegShown.NormalAndReverse

abbrev pub leg_shown_no : LegShown → ℕ
leg_shown_no LegShown.NormalAndReverse = 0
leg_shown_no LegShown.NormalOnly = 1
leg_shown_no LegShown.ReverseOnly = 2

abbrev pub points_detection_cases : List PointsDetection
points_detection_cases =
    PointsDetection.NotDetected ∷ PointsDetection.CalledNormal ∷ PointsDetection.CalledReverse ∷
    PointsDetection.DetectedNormal ∷ PointsDetection.DetectedReverse ∷ []

abbrev pub points_detection_of : ℕ → PointsDetection
points_detection_of v = get_or points_detection_cases v PointsDetection.NotDetected

abbrev pub points_detection_no : PointsDetection → ℕ
points_detection_no PointsDetection.NotDetected = 0
points_detection_no PointsDetection.CalledNormal = 1
points_detection_no PointsDetection.CalledReverse = 2
points_detection_no PointsDetection.DetectedNormal = 3
points_detection_no PointsDetection.DetectedReverse = 4

abbrev pub points_locking_cases : List PointsLocking
points_locking_cases =
    PointsLocking.Free ∷ PointsLocking.Locked ∷ PointsLocking.MovementRequired ∷
    PointsLocking.ReleasedForMaintenance ∷ []

abbrev pub points_locking_of : ℕ → PointsLocking
points_locking_of v = get_or points_locking_cases v PointsLocking.Free

abbrev pub points_locking_no : PointsLocking → ℕ
points_locking_no PointsLocking.Free = 0
points_locking_no PointsLocking.Locked = 1
points_locking_no PointsLocking.MovementRequired = 2
points_locking_no PointsLocking.ReleasedForMaintenance = 3

abbrev pub heater_indication_cases : List HeaterIndication
heater_indication_cases =
    HeaterIndication.NotShown ∷ HeaterIndication.Yellow ∷ HeaterIndication.Green ∷ HeaterIndication.RedFlashing ∷ []

abbrev pub heater_indication_of : ℕ → HeaterIndication
heater_indication_of v = get_or heater_indication_cases v HeaterIndication.NotShown

abbrev pub heater_indication_no : HeaterIndication → ℕ
heater_indication_no HeaterIndication.NotShown = 0
heater_indication_no HeaterIndication.Yellow = 1
heater_indication_no HeaterIndication.Green = 2
heater_indication_no HeaterIndication.RedFlashing = 3

abbrev pub earth_fault_indication_cases : List EarthFaultIndication
earth_fault_indication_cases =
    EarthFaultIndication.NotShown ∷ EarthFaultIndication.EarthFault ∷ EarthFaultIndication.TestRunning ∷ []

abbrev pub earth_fault_indication_of : ℕ → EarthFaultIndication
earth_fault_indication_of v = get_or earth_fault_indication_cases v EarthFaultIndication.NotShown

abbrev pub earth_fault_indication_no : EarthFaultIndication → ℕ
earth_fault_indication_no EarthFaultIndication.NotShown = 0
earth_fault_indication_no EarthFaultIndication.EarthFault = 1
earth_fault_indication_no EarthFaultIndication.TestRunning = 2

abbrev pub boundary_movement_cases : List BoundaryMovement
boundary_movement_cases =
    BoundaryMovement.AtRest ∷ BoundaryMovement.RouteSignalPending ∷ BoundaryMovement.RouteSignalOpen ∷
    BoundaryMovement.OverrideSignalPending ∷ BoundaryMovement.OverrideSignalOpen ∷
    BoundaryMovement.ShuntSignalPending ∷ BoundaryMovement.ShuntSignalOpen ∷ []

abbrev pub boundary_movement_of : ℕ → BoundaryMovement
boundary_movement_of v = get_or boundary_movement_cases v BoundaryMovement.AtRest

abbrev pub boundary_movement_no : BoundaryMovement → ℕ
boundary_movement_no BoundaryMovement.AtRest = 0
boundary_movement_no BoundaryMovement.RouteSignalPending = 1
boundary_movement_no BoundaryMovement.RouteSignalOpen = 2
boundary_movement_no BoundaryMovement.OverrideSignalPending = 3
boundary_movement_no BoundaryMovement.OverrideSignalOpen = 4
boundary_movement_no BoundaryMovement.ShuntSignalPending = 5
boundary_movement_no BoundaryMovement.ShuntSignalOpen = 6

abbrev pub auto_route_cases : List AutoRoute
auto_route_cases = AutoRoute.NotShown ∷ AutoRoute.GreenSteady ∷ AutoRoute.GreenFlashing ∷ AutoRoute.RedFlashing ∷ []

abbrev pub auto_route_of : ℕ → AutoRoute
auto_route_of v = get_or auto_route_cases v AutoRoute.NotShown

abbrev pub auto_route_no : AutoRoute → ℕ
auto_route_no AutoRoute.NotShown = 0
auto_route_no AutoRoute.GreenSteady = 1
auto_route_no AutoRoute.GreenFlashing = 2
auto_route_no AutoRoute.RedFlashing = 3

abbrev pub router_indication_cases : List RouterIndication
router_indication_cases =
    RouterIndication.NotShown ∷ RouterIndication.ManualBlock ∷ RouterIndication.AutomaticBlock ∷ []

abbrev pub router_indication_of : ℕ → RouterIndication
router_indication_of v = get_or router_indication_cases v RouterIndication.NotShown

abbrev pub router_indication_no : RouterIndication → ℕ
router_indication_no RouterIndication.NotShown = 0
router_indication_no RouterIndication.ManualBlock = 1
router_indication_no RouterIndication.AutomaticBlock = 2

-- The named cases of each field wider than one bit, from value 0 up, as annexes 1 and 3 of NAS 831 print them.
-- Kept by hand and typed from the annex, whose line is beside each case; catalogue/write.py leaves this file alone.
-- A value that the annex reserves has no case: it is read as the first, and refused with 11 before it is read.
-- Assumes nothing.
use mathlib.Core.Path.{◌≡◌, refl}
use mathlib.Core.List.{[], ◌∷◌, map}
use Rattle.cases.specs.Cases.{signal_kind_of, signal_aspect_of, mixed_gauge_indication_of, auto_route_indication_of}
use Rattle.cases.specs.Cases.{changer_aspect_of, board_aspect_of, section_occupancy_of, overlap_of, gauge_presence_of}
use Rattle.cases.specs.Cases.{points_section_occupancy_of, leg_occupancy_of, leg_shown_of, points_detection_of}
use Rattle.cases.specs.Cases.{points_locking_of, heater_indication_of, earth_fault_indication_of, boundary_movement_of}
use Rattle.cases.specs.Cases.{auto_route_of, router_indication_of}
use Rattle.cases.specs.declared.SignalKind.{SignalKind}
use Rattle.cases.specs.declared.SignalAspect.{SignalAspect}
use Rattle.cases.specs.declared.MixedGaugeIndication.{MixedGaugeIndication}
use Rattle.cases.specs.declared.AutoRouteIndication.{AutoRouteIndication}
use Rattle.cases.specs.declared.ChangerAspect.{ChangerAspect}
use Rattle.cases.specs.declared.BoardAspect.{BoardAspect}
use Rattle.cases.specs.declared.SectionOccupancy.{SectionOccupancy}
use Rattle.cases.specs.declared.Overlap.{Overlap}
use Rattle.cases.specs.declared.GaugePresence.{GaugePresence}
use Rattle.cases.specs.declared.PointsSectionOccupancy.{PointsSectionOccupancy}
use Rattle.cases.specs.declared.LegOccupancy.{LegOccupancy}
use Rattle.cases.specs.declared.LegShown.{LegShown}
use Rattle.cases.specs.declared.PointsDetection.{PointsDetection}
use Rattle.cases.specs.declared.PointsLocking.{PointsLocking}
use Rattle.cases.specs.declared.HeaterIndication.{HeaterIndication}
use Rattle.cases.specs.declared.EarthFaultIndication.{EarthFaultIndication}
use Rattle.cases.specs.declared.BoundaryMovement.{BoundaryMovement}
use Rattle.cases.specs.declared.AutoRoute.{AutoRoute}
use Rattle.cases.specs.declared.RouterIndication.{RouterIndication}

-- ---- TIPO 1: SEÑAL LUMINOSA (SIG)

-- SIG_TIPO (Tipo de Señal)
pub signal_kind : map signal_kind_of (0 ∷ 1 ∷ 2 ∷ 3 ∷ 4 ∷ []) ≡
    SignalKind.Unknown ∷  -- Valor0 = desconocido
    SignalKind.HighNoWhiteNoBlue ∷  -- Valor1 = Señales altas sin blanco ni azul
    SignalKind.HighWhiteOrBlue ∷  -- Valor2 = Señales altas con blanco y/o azul
    SignalKind.Low ∷  -- Valor3 = Señales bajas
    SignalKind.Unknown ∷  -- Valor4..7 = (reserva)
    []
signal_kind = refl

-- SIG_IND (indicación en vía)
pub signal_aspect : map signal_aspect_of (0 ∷ 1 ∷ 2 ∷ 3 ∷ 4 ∷ 5 ∷ 6 ∷ 7 ∷ 8 ∷ 9 ∷ 10 ∷ 11 ∷ 12 ∷ 13 ∷ []) ≡
    SignalAspect.Dark ∷  -- Valor0 = Apagada
    SignalAspect.Red ∷  -- Valor1 = rojo
    SignalAspect.RedBlue ∷  -- Valor2 = rojo-azul
    SignalAspect.RedBlueFlashing ∷  -- Valor3 = rojo-azul intermitente
    SignalAspect.RedWhite ∷  -- Valor4 = rojo-blanco
    SignalAspect.RedWhiteFlashing ∷  -- Valor5 = rojo-blanco intermitente
    SignalAspect.White ∷  -- Valor6 = blanco (al menos un foco blanco luciendo)
    SignalAspect.WhiteFlashing ∷  -- Valor7 = blanco intermitente
    SignalAspect.Yellow ∷  -- Valor8 = amarillo (con o sin indicación de velocidad asociado)
    SignalAspect.YellowFlashing ∷  -- Valor9 = amarillo intermitente
    SignalAspect.GreenYellow ∷  -- Valor10 = verde-amarillo (con o sin indicación de velocidad asociado)
    SignalAspect.Green ∷  -- Valor11 = verde
    SignalAspect.GreenFlashing ∷  -- Valor12 = verde intermitente
    SignalAspect.Dark ∷  -- Valor13..15 = (reserva)
    []
signal_aspect = refl

-- SIG_UIC (Indicaciones de Tercer Carril, ancho de vía UIC / CONV)
pub mixed_gauge_indication : map mixed_gauge_indication_of (0 ∷ 1 ∷ 2 ∷ 3 ∷ 4 ∷ 5 ∷ 6 ∷ 7 ∷ []) ≡
    MixedGaugeIndication.NoThirdRail ∷  -- Valor0 = No existe tercer carril
    MixedGaugeIndication.AtRest ∷  -- Valor1 = Reposo
    MixedGaugeIndication.UicMovementSet ∷  -- Valor2 = Movimiento UIC establecido, excepto Maniobra ("U" verde)
    MixedGaugeIndication.UicShuntSet ∷  -- Valor3 = Maniobra UIC establecida ("U" azul)
    MixedGaugeIndication.UicOccupancyConflict ∷  -- Valor4 = Ocupación incompatible con UIC detectada ("U" rojo intermitente)
    MixedGaugeIndication.ConventionalMovementSet ∷  -- Valor5 = Movimiento CONV establecido, excepto Maniobra ("C" verde)
    MixedGaugeIndication.ConventionalShuntSet ∷  -- Valor6 = Maniobra CONV establecida ("C" azul)
    MixedGaugeIndication.ConventionalOccupancyConflict ∷  -- Valor7 = Ocupación incompatible con CONV detectada ("C" rojo intermitente)
    []
mixed_gauge_indication = refl

-- SIG_FAI_IND (Indicación de Formación Automática de Itinerarios)
pub auto_route_indication : map auto_route_indication_of (0 ∷ 1 ∷ 2 ∷ 3 ∷ []) ≡
    AutoRouteIndication.GreenSteady ∷  -- Valor0 = "F" en verde fijo
    AutoRouteIndication.GreenFlashing ∷  -- Valor1 = "F" en verde intermitente
    AutoRouteIndication.RedSteady ∷  -- Valor2 = "F" en rojo fijo
    AutoRouteIndication.RedFlashing ∷  -- Valor3 = "F" en rojo intermitente
    []
auto_route_indication = refl

-- ---- TIPO 2: SEÑAL INDICADORA DE CAMBIADOR DE ANCHO (IC)

-- IC_IND (señal indicadora de entrada hacia Cambiador)
pub changer_aspect : map changer_aspect_of (0 ∷ 1 ∷ 2 ∷ 3 ∷ []) ≡
    ChangerAspect.Dark ∷  -- Valor0 = Apagada
    ChangerAspect.FixedT ∷  -- Valor1 = indicación "T" blanco fijo
    ChangerAspect.FixedC ∷  -- Valor2 = Indicación "C" blanco fijo
    ChangerAspect.FlashingT ∷  -- Valor3 = Indicación "T" blanco intermitente
    []
changer_aspect = refl

-- ---- TIPO 3: PANTALLA VIRTUAL (PV)

-- PV_IND (Representación gráfica)
pub board_aspect : map board_aspect_of (0 ∷ 1 ∷ 2 ∷ 3 ∷ []) ≡
    BoardAspect.Red ∷  -- Valor0 = rojo
    BoardAspect.Blue ∷  -- Valor1 = azul
    BoardAspect.White ∷  -- Valor2 = blanco
    BoardAspect.Red ∷  -- Valor3 = (reserva)
    []
board_aspect = refl

-- ---- TIPO 4: CIRCUITO DE VÍA LÍNEAL (CV)

-- CV_OCUP_EST (Estado de CV)
pub section_occupancy : map section_occupancy_of (0 ∷ 1 ∷ 2 ∷ 3 ∷ []) ≡
    SectionOccupancy.ClearIdle ∷  -- Valor0 = Libre, sin movimiento establecido (amarillo)
    SectionOccupancy.ClearMovementOrBlockSet ∷  -- Valor1 = Libre, con movimiento (excepto Maniobra Centralizada) o Bloqueo establecido (verde)
    SectionOccupancy.ClearShuntSet ∷  -- Valor2 = Libre, con Maniobra Centralizada establecida (azul)
    SectionOccupancy.Occupied ∷  -- Valor3 = Ocupado (rojo)
    []
section_occupancy = refl

-- CV_DES (Presencia de deslizamiento en CV); CVX_DES_N, CVX_DES_I, AG_DES_N, AG_DES_I (.. por Normal, por Invertido)
pub overlap : map overlap_of (0 ∷ 1 ∷ 2 ∷ 3 ∷ []) ≡
    Overlap.NoOverlap ∷  -- Valor0 = Sin deslizamiento
    Overlap.MovementOverlap ∷  -- Valor1 = Con deslizamiento de movimiento, excepto Maniobra Centralizada (verde)
    Overlap.ShuntOverlap ∷  -- Valor2 = Con deslizamiento de Maniobra Centralizada (azul)
    Overlap.NoOverlap ∷  -- Valor3 = (reserva)
    []
overlap = refl

-- CV_UC, CVA_UC (Indicación de detección de ancho en CV de tres carriles)
pub gauge_presence : map gauge_presence_of (0 ∷ 1 ∷ 2 ∷ 3 ∷ 4 ∷ 5 ∷ []) ≡
    GaugePresence.NotShown ∷  -- Valor0 = Ausencia de indicación
    GaugePresence.NoTrain ∷  -- Valor1 = Sin presencia de tren ("U" y "C" amarillo)
    GaugePresence.UicTrain ∷  -- Valor2 = Presencia de tren de ancho UIC ("U" rojo, "C" amarillo)
    GaugePresence.ConventionalTrain ∷  -- Valor3 = Presencia de tren de ancho CONV ("U" amarillo, "C" rojo)
    GaugePresence.BothGauges ∷  -- Valor4 = Presencia de trenes de ancho UIC y CONV ("U" y "C" rojo)
    GaugePresence.NotShown ∷  -- Valor5..7 = (reserva)
    []
gauge_presence = refl

-- ---- TIPO 5: CIRCUITO DE VÍA DE AGUJAS (CVA)

-- CVA_OCUP_EST (Estado de CVA)
pub points_section_occupancy : map points_section_occupancy_of (0 ∷ 1 ∷ 2 ∷ []) ≡
    PointsSectionOccupancy.Clear ∷  -- Valor0 = Libre
    PointsSectionOccupancy.Occupied ∷  -- Valor1 = Ocupado
    PointsSectionOccupancy.Clear ∷  -- Valor2..3 = (reserva)
    []
points_section_occupancy = refl

-- ---- TIPO 6: CIRCUITO DE VÍA DE CRUZAMIENTO (CVX)

-- CVX_OCUP_EST (Estado de CV), AG_OCUP_EST
pub leg_occupancy : map leg_occupancy_of (0 ∷ 1 ∷ 2 ∷ 3 ∷ []) ≡
    LegOccupancy.ClearIdle ∷  -- Valor0 = Libre, sin movimiento establecido (amarillo)
    LegOccupancy.ClearMovementSet ∷  -- Valor1 = Libre, con movimiento (excepto Maniobra Centralizada) establecido (verde)
    LegOccupancy.ClearShuntSet ∷  -- Valor2 = Libre, con Maniobra Centralizada establecida (azul)
    LegOccupancy.Occupied ∷  -- Valor3 = Ocupado (rojo)
    []
leg_occupancy = refl

-- CVX_OCUP_DIR, AG_DIR (orientación para representación de ocupación)
pub leg_shown : map leg_shown_of (0 ∷ 1 ∷ 2 ∷ 3 ∷ []) ≡
    LegShown.NormalAndReverse ∷  -- Valor0 = Direcciones Normal e Invertida
    LegShown.NormalOnly ∷  -- Valor1 = Dirección Normal exclusivamente
    LegShown.ReverseOnly ∷  -- Valor2 = Dirección Invertida exclusivamente
    LegShown.NormalAndReverse ∷  -- Valor3 = (reserva)
    []
leg_shown = refl

-- ---- TIPO 8: AGUJA (AG)

-- AG_COMP (Comprobación de posición de aguja)
pub points_detection : map points_detection_of (0 ∷ 1 ∷ 2 ∷ 3 ∷ 4 ∷ 5 ∷ []) ≡
    PointsDetection.NotDetected ∷  -- Valor0 = Sin comprobación en ninguna de las dos posiciones (Normal/Invertida). Aguja talonada.
    PointsDetection.CalledNormal ∷  -- Valor1 = Sin comprobación a posición mandada a Normal o en movimiento hacia Normal ..
    PointsDetection.CalledReverse ∷  -- Valor2 = Sin comprobación a posición mandada a Invertido o en movimiento hacia Invertido ..
    PointsDetection.DetectedNormal ∷  -- Valor3 = Con comprobación a posición Normal
    PointsDetection.DetectedReverse ∷  -- Valor4 = Con comprobación a posición Invertida
    PointsDetection.NotDetected ∷  -- Valor5..7 = (reserva)
    []
points_detection = refl

-- AG_ENC (Estado de enclavamiento de aguja)
pub points_locking : map points_locking_of (0 ∷ 1 ∷ 2 ∷ 3 ∷ []) ≡
    PointsLocking.Free ∷  -- Valor0 = Aguja no enclavada
    PointsLocking.Locked ∷  -- Valor1 = Aguja enclavada
    PointsLocking.MovementRequired ∷  -- Valor2 = Aguja requerida de movimiento
    PointsLocking.ReleasedForMaintenance ∷  -- Valor3 = Aguja autorizada para mantenimiento
    []
points_locking = refl

-- ---- TIPO 22: AVISOS GENERALES SIN RECONOCIMIENTO DE ALARMAS (AVG)

-- AVG_CF (Indicación de Conjunto de Calefactores de Aguja)
pub heater_indication : map heater_indication_of (0 ∷ 1 ∷ 2 ∷ 3 ∷ []) ≡
    HeaterIndication.NotShown ∷  -- Valor0 = "CF" no mostrado
    HeaterIndication.Yellow ∷  -- Valor1 = "CF" amarillo
    HeaterIndication.Green ∷  -- Valor2 = "CF" verde
    HeaterIndication.RedFlashing ∷  -- Valor3 = "CF" rojo intermitente
    []
heater_indication = refl

-- AVG_DT (Derivación a Tierra en equipos aislados)
pub earth_fault_indication : map earth_fault_indication_of (0 ∷ 1 ∷ 2 ∷ 3 ∷ []) ≡
    EarthFaultIndication.NotShown ∷  -- Valor0 = Indicación "DT" no mostrada
    EarthFaultIndication.EarthFault ∷  -- Valor1 = Indicación "DT" amarillo (Derivación a Tierra de equipos aislados)
    EarthFaultIndication.TestRunning ∷  -- Valor2 = Indicación "DT" amarillo intermitente (Comprobación de derivación a Tierra .. en funcionamiento)
    EarthFaultIndication.NotShown ∷  -- Valor3 = (reserva)
    []
earth_fault_indication = refl

-- ---- TIPO 23: FRONTERA (FRA)

-- FRA_ENT_EST, FRA_SAL_EST (Indicación de apertura de señal de movimiento de entrada, de salida, mandado)
pub boundary_movement : map boundary_movement_of (0 ∷ 1 ∷ 2 ∷ 3 ∷ 4 ∷ 5 ∷ 6 ∷ 7 ∷ []) ≡
    BoundaryMovement.AtRest ∷  -- Valor0 = En reposo
    BoundaryMovement.RouteSignalPending ∷  -- Valor1 = Itinerario .. mandado. Apertura, en itinerario, de señal de continuación pendiente
    BoundaryMovement.RouteSignalOpen ∷  -- Valor2 = Itinerario .. mandado. Apertura, en itinerario, .. efectuada
    BoundaryMovement.OverrideSignalPending ∷  -- Valor3 = Rebase autorizado .. mandado. Apertura, en rebase autorizado, .. pendiente
    BoundaryMovement.OverrideSignalOpen ∷  -- Valor4 = Rebase autorizado .. mandado. Apertura, en rebase autorizado, .. efectuada
    BoundaryMovement.ShuntSignalPending ∷  -- Valor5 = Maniobra Centralizada .. mandada. Apertura, en Maniobra, .. pendiente
    BoundaryMovement.ShuntSignalOpen ∷  -- Valor6 = Maniobra Centralizada .. mandada. Apertura, en Maniobra, .. efectuada
    BoundaryMovement.AtRest ∷  -- Valor7 = (reserva)
    []
boundary_movement = refl

-- ---- catalogue 3.0, TIPO 1: SEÑAL LUMINOSA (SIG); the other named cases of its types are those of annex 1

-- SIG_FAI (Formación Automática de Itinerarios, FAI)
pub auto_route : map auto_route_of (0 ∷ 1 ∷ 2 ∷ 3 ∷ []) ≡
    AutoRoute.NotShown ∷  -- Valor0 = Indicación "F" ausente
    AutoRoute.GreenSteady ∷  -- Valor1 = "F" en verde fijo
    AutoRoute.GreenFlashing ∷  -- Valor2 = "F" en verde intermitente
    AutoRoute.RedFlashing ∷  -- Valor3 = "F" en rojo intermitente
    []
auto_route = refl

-- SIG_GRP_ARS (Indicación de enrutadores GRP o ARS)
pub router_indication : map router_indication_of (0 ∷ 1 ∷ 2 ∷ 3 ∷ []) ≡
    RouterIndication.NotShown ∷  -- Valor0 = Sin indicación de enrutadores GRP o ARS.
    RouterIndication.ManualBlock ∷  -- Valor1 = Enrutadores GRP o ARS. Bloqueo manual.
    RouterIndication.AutomaticBlock ∷  -- Valor2 = Enrutadores GRP o ARS. Bloqueo automático.
    RouterIndication.NotShown ∷  -- Valor3 = (reserva)
    []
router_indication = refl

-- Each layout's state by the bits of its word, as annexes 1 and 3 of NAS 831 print them:
-- every field by its name, with its bit or bits.
-- Kept by hand and typed from the annex, whose line is beside each field; catalogue/write.py leaves this file alone.
-- `..-bits`: every word is read as this state. `..-words`: in each field wider than one bit, a
-- word with a middle value has that named case.
-- Annex 3 prints types 2 to 7 with the same bits and values, some under other names:
-- CV_EST, CVA_EST, CVX_EST, CVX_DIR, and CEJES of CV and CVX.
-- Assumes nothing.
use mathlib.Core.Path.{◌≡◌, refl}
use mathlib.Core.Bool.{Bool, false, cond}
use mathlib.Core.List.{List, [], ◌∷◌}
use Prim.Native.Nat.{ℕ, suc, ◌-◌, ◌/◌, ◌%◌, ◌^◌}
use lib.Dec.{eqb}
use Rattle.rows.specs.Rows.{cells, layout, layouts}
use Rattle.rows.specs.Covering.{layout_rows}
use Rattle.rows.specs.Values.{values_of, padded}
use Rattle.rows.specs.declared.Layout.{Layout}
use Rattle.cases.specs.Cases.{signal_kind_of, signal_aspect_of, mixed_gauge_indication_of, auto_route_indication_of}
use Rattle.cases.specs.Cases.{changer_aspect_of, board_aspect_of, section_occupancy_of, overlap_of, gauge_presence_of}
use Rattle.cases.specs.Cases.{points_section_occupancy_of, leg_occupancy_of, leg_shown_of, points_detection_of}
use Rattle.cases.specs.Cases.{points_locking_of, heater_indication_of, earth_fault_indication_of, boundary_movement_of}
use Rattle.cases.specs.Cases.{auto_route_of, router_indication_of}
use Rattle.cases.specs.declared.SignalKind.{SignalKind}
use Rattle.cases.specs.declared.SignalAspect.{SignalAspect}
use Rattle.cases.specs.declared.MixedGaugeIndication.{MixedGaugeIndication}
use Rattle.cases.specs.declared.AutoRouteIndication.{AutoRouteIndication}
use Rattle.cases.specs.declared.ChangerAspect.{ChangerAspect}
use Rattle.cases.specs.declared.BoardAspect.{BoardAspect}
use Rattle.cases.specs.declared.SectionOccupancy.{SectionOccupancy}
use Rattle.cases.specs.declared.Overlap.{Overlap}
use Rattle.cases.specs.declared.GaugePresence.{GaugePresence}
use Rattle.cases.specs.declared.PointsSectionOccupancy.{PointsSectionOccupancy}
use Rattle.cases.specs.declared.LegOccupancy.{LegOccupancy}
use Rattle.cases.specs.declared.LegShown.{LegShown}
use Rattle.cases.specs.declared.PointsDetection.{PointsDetection}
use Rattle.cases.specs.declared.PointsLocking.{PointsLocking}
use Rattle.cases.specs.declared.HeaterIndication.{HeaterIndication}
use Rattle.cases.specs.declared.EarthFaultIndication.{EarthFaultIndication}
use Rattle.cases.specs.declared.BoundaryMovement.{BoundaryMovement}
use Rattle.cases.specs.declared.AutoRoute.{AutoRoute}
use Rattle.cases.specs.declared.RouterIndication.{RouterIndication}
use Rattle.states.specs.States.{signal_of, changer_signal_of, virtual_board_of, line_track_circuit_of}
use Rattle.states.specs.States.{points_track_circuit_of, crossing_track_circuit_of, dual_detection_of, points_of}
use Rattle.states.specs.States.{electric_lock_of, general_notices_of, control_boundary_of, signal_v3_of}
use Rattle.states.specs.declared.signal.Signal.{Signal}
use Rattle.states.specs.declared.changer_signal.ChangerSignal.{ChangerSignal}
use Rattle.states.specs.declared.virtual_board.VirtualBoard.{VirtualBoard}
use Rattle.states.specs.declared.line_track_circuit.LineTrackCircuit.{LineTrackCircuit}
use Rattle.states.specs.declared.points_track_circuit.PointsTrackCircuit.{PointsTrackCircuit}
use Rattle.states.specs.declared.crossing_track_circuit.CrossingTrackCircuit.{CrossingTrackCircuit}
use Rattle.states.specs.declared.dual_detection.DualDetection.{DualDetection}
use Rattle.states.specs.declared.points.Points.{Points}
use Rattle.states.specs.declared.electric_lock.ElectricLock.{ElectricLock}
use Rattle.states.specs.declared.general_notices.GeneralNotices.{GeneralNotices}
use Rattle.states.specs.declared.control_boundary.ControlBoundary.{ControlBoundary}
use Rattle.states.specs.declared.signal_v3.SignalV3.{SignalV3}

-- whether a bit of the word w is 1
abbrev bit : ℕ → ℕ → Bool
bit w n = eqb (w / 2 ^ n % 2) 1

-- the value of the bits of w from the lowest to the highest
abbrev bits : ℕ → ℕ → ℕ → ℕ
bits w lowest highest = w / 2 ^ lowest % 2 ^ (suc highest - lowest)

-- the layout with a number, and the values of a word's fields by its rows
abbrev numbered : ℕ → List Layout → Layout
numbered n [] = layout 0 0 0 0 false
numbered n (l ∷ ls) = cond (eqb n l.number) l (numbered n ls)

abbrev values : ℕ → ℕ → List ℕ
values n w = padded (values_of w (layout_rows (numbered n layouts)))

-- ---- TIPO 1: SEÑAL LUMINOSA (SIG)

abbrev pub signal_in : ℕ → Signal
signal_in w = record {
  current = bit w 0;  -- SIG_DAT: 1 = Con datos del elemento
  kind = signal_kind_of (bits w 1 3);  -- SIG_TIPO (Tipo de Señal)
  aspect = signal_aspect_of (bits w 4 7);  -- SIG_IND (indicación en vía)
  red_fitted = bit w 8;  -- SIG_FOCO_R (Foco rojo): 1 = rojo equipado
  red_blown = bit w 9;  -- 1 = Fusión de rojo
  white_fitted = bit w 10;  -- SIG_FOCO_BL_C (Foco blanco Común): 1 = blanco equipado
  white_blown = bit w 11;  -- 1 = Fusión de blanco / blanco intermitente
  vertical_white_fitted = bit w 12;  -- SIG_FOCO_BL_V (Foco blanco vertical): 1 = blanco vertical equipado
  vertical_white_blown = bit w 13;  -- 1 = Fusión de blanco vertical
  horizontal_white_fitted = bit w 14;  -- SIG_FOCO_BL_H (Foco blanco horizontal): 1 = blanco horizontal equipado
  horizontal_white_blown = bit w 15;  -- 1 = Fusión de blanco horizontal
  blue_fitted = bit w 16;  -- SIG_FOCO_AZ (Foco azul): 1 = azul equipado
  blue_blown = bit w 17;  -- 1 = Fusión de azul / azul intermitente
  yellow_fitted = bit w 18;  -- SIG_FOCO_AM (Foco amarillo): 1 = amarillo equipado
  yellow_blown = bit w 19;  -- 1 = Fusión de amarillo o amarillo intermitente
  green_fitted = bit w 20;  -- SIG_FOCO_V (Foco verde): 1 = verde equipado
  green_blown = bit w 21;  -- 1 = Fusión de verde / verde intermitente
  special_command_pending = bit w 22;  -- SIG_ME (Mando Especial, ME): 1 = Pendiente de confirmación ME
  command_blocked = bit w 23;  -- SIG_B (Bloqueo de mando): 1 = Bloqueo de mando activo
  mixed_gauge = mixed_gauge_indication_of (bits w 24 26);  -- SIG_UIC (Indicaciones de Tercer Carril, ancho de vía UIC / CONV)
  automatic_succession = bit w 27;  -- SIG_SA (Sucesión Automática, SA): 1 = SA establecida
  auto_route_set = bit w 28;  -- SIG_FAI (Formación Automática de Itinerarios, FAI): 1 = FAI establecida
  auto_route_indication = auto_route_indication_of (bits w 29 30);  -- SIG_FAI_IND (Indicación de Formación Automática de Itinerarios)
}

pub signal_bits : (w : ℕ) → signal_of (values 1 w) ≡ signal_in w
unfolding cells layouts
signal_bits w = refl

pub signal_words : ((signal_of (values 1 0x00000003)).kind ≡ SignalKind.HighNoWhiteNoBlue)
    × ((signal_of (values 1 0x000000A1)).aspect ≡ SignalAspect.GreenYellow)
    × ((signal_of (values 1 0x03000001)).mixed_gauge ≡ MixedGaugeIndication.UicShuntSet)
    × ((signal_of (values 1 0x20000001)).auto_route_indication ≡ AutoRouteIndication.GreenFlashing)
unfolding cells layouts
signal_words = (refl, refl, refl, refl)

-- ---- TIPO 2: SEÑAL INDICADORA DE CAMBIADOR DE ANCHO (IC)

abbrev pub changer_signal_in : ℕ → ChangerSignal
changer_signal_in w = record {
  current = bit w 0;  -- IC_DAT: 1 = Con datos del elemento
  aspect = changer_aspect_of (bits w 1 2);  -- IC_IND (señal indicadora de entrada hacia Cambiador)
}

pub changer_signal_bits : (w : ℕ) → changer_signal_of (values 2 w) ≡ changer_signal_in w
unfolding cells layouts
changer_signal_bits w = refl

pub changer_signal_words : (changer_signal_of (values 2 0x05)).aspect ≡ ChangerAspect.FixedC
unfolding cells layouts
changer_signal_words = refl

-- ---- TIPO 3: PANTALLA VIRTUAL (PV)

abbrev pub virtual_board_in : ℕ → VirtualBoard
virtual_board_in w = record {
  current = bit w 0;  -- PV_DAT: 1 = Con datos del elemento
  aspect = board_aspect_of (bits w 1 2);  -- PV_IND (Representación gráfica)
  closing_commanded = bit w 3;  -- PV_CS_IND (Indicador de mando individual de cierre): 1 = Mando individual activo
}

pub virtual_board_bits : (w : ℕ) → virtual_board_of (values 3 w) ≡ virtual_board_in w
unfolding cells layouts
virtual_board_bits w = refl

pub virtual_board_words : (virtual_board_of (values 3 0x03)).aspect ≡ BoardAspect.Blue
unfolding cells layouts
virtual_board_words = refl

-- ---- TIPO 4: CIRCUITO DE VÍA LÍNEAL (CV)

abbrev pub line_track_circuit_in : ℕ → LineTrackCircuit
line_track_circuit_in w = record {
  current = bit w 0;  -- CV_DAT: 1 = Con datos del elemento
  special_command_pending = bit w 1;  -- CV_ME (Mando Especial, ME): 1 = Pendiente de confirmación ME ejecutado
  movement_blocked = bit w 2;  -- CV_BV (Bloqueo de movimientos por CV): 1 = Con Bloqueo "BV" o "BTV" establecido
  unexpected_occupancy = bit w 3;  -- CV_OCUP_TIPO: 0 = Normal 1 = Intempestiva
  occupancy = section_occupancy_of (bits w 4 5);  -- CV_OCUP_EST (Estado de CV)
  overlap = overlap_of (bits w 6 7);  -- CV_DES (Presencia de deslizamiento en CV)
  axle_counter_fault = bit w 8;  -- CV_Cejas_AV (indicación de Avería en CV de Contadores de Ejes): 1 = Avería
  axle_counter_preset = bit w 9;  -- CV_Cejas_PREN: 1 = Mando de prenormalización efectuado
  gauge = gauge_presence_of (bits w 10 12);  -- CV_UC (Indicación de detección de ancho en CV de tres carriles)
  sequence_lost = bit w 13;  -- CV_NSEC (Pérdida secuencia correcta por CV): 1 = Pérdida de secuencia de tren detectada
}

pub line_track_circuit_bits : (w : ℕ) → line_track_circuit_of (values 4 w) ≡ line_track_circuit_in w
unfolding cells layouts
line_track_circuit_bits w = refl

pub line_track_circuit_words : ((line_track_circuit_of (values 4 0x0021)).occupancy ≡ SectionOccupancy.ClearShuntSet)
    × ((line_track_circuit_of (values 4 0x0041)).overlap ≡ Overlap.MovementOverlap)
    × ((line_track_circuit_of (values 4 0x0C01)).gauge ≡ GaugePresence.ConventionalTrain)
unfolding cells layouts
line_track_circuit_words = (refl, refl, refl)

-- ---- TIPO 5: CIRCUITO DE VÍA DE AGUJAS (CVA)

abbrev pub points_track_circuit_in : ℕ → PointsTrackCircuit
points_track_circuit_in w = record {
  current = bit w 0;  -- CVA_DAT: 1 = Con datos del elemento
  special_command_pending = bit w 1;  -- CVA_ME: 1 = Pendiente de confirmación ME ejecutado
  unexpected_occupancy = bit w 3;  -- CVA_OCUP_TIPO: 0 = Normal 1 = Intempestiva
  occupancy = points_section_occupancy_of (bits w 4 5);  -- CVA_OCUP_EST (Estado de CVA)
  axle_counter_fault = bit w 8;  -- CVA_CEJES_AV (indicación de Avería en CV de Contadores de Ejes): 1 = Avería
  axle_counter_preset = bit w 9;  -- CVA_CEJES_PREN: 1 = Mando de prenormalización efectuado
  gauge = gauge_presence_of (bits w 10 12);  -- CVA_UC (Indicación de detección de ancho en CV de tres carriles)
  sequence_lost = bit w 13;  -- CVA_NSEC (Pérdida secuencia correcta por CV): 1 = Pérdida de secuencia de tren detectada
}

pub points_track_circuit_bits : (w : ℕ) → points_track_circuit_of (values 5 w) ≡ points_track_circuit_in w
unfolding cells layouts
points_track_circuit_bits w = refl

pub points_track_circuit_words : ((points_track_circuit_of (values 5 0x0011)).occupancy
    ≡ PointsSectionOccupancy.Occupied)
    × ((points_track_circuit_of (values 5 0x0C01)).gauge ≡ GaugePresence.ConventionalTrain)
unfolding cells layouts
points_track_circuit_words = (refl, refl)

-- ---- TIPO 6: CIRCUITO DE VÍA DE CRUZAMIENTO (CVX)

abbrev pub crossing_track_circuit_in : ℕ → CrossingTrackCircuit
crossing_track_circuit_in w = record {
  current = bit w 0;  -- CVX_DAT: 1 = Con datos del elemento
  special_command_pending = bit w 1;  -- CVX_ME (Mando Especial, ME): garbled in annex 1; by the paper, and in annex 3, 1 is confirmation pending, as for CV
  movement_blocked = bit w 2;  -- CVX_BV (Bloqueo de movimientos): 1= Con Bloqueo "BV" establecido
  unexpected_occupancy = bit w 3;  -- CVX_OCUP_TIPO: 0 = Normal 1 = Intempestiva
  occupancy = leg_occupancy_of (bits w 4 5);  -- CVX_OCUP_EST (Estado de CV)
  leg_shown = leg_shown_of (bits w 6 7);  -- CVX_OCUP_DIR (orientación para representación de ocupación ..)
  overlap_normal = overlap_of (bits w 8 9);  -- CVX_DES_N (Presencia de deslizamiento por Normal)
  overlap_reverse = overlap_of (bits w 10 11);  -- CVX_DES_I (Presencia de deslizamiento por Invertido)
  clearance_lost = bit w 12;  -- CVX_GAL (Indicación de Falta de Gálibo): 1 = Con Falta de gálibo
  axle_counter_fault = bit w 13;  -- CVX_CJES_AV (indicación de Avería en CV de Contadores de Ejes): 1 = Avería
  axle_counter_preset = bit w 14;  -- CVX_CJES_PREN: 1 = Mando de prenormalización efectuado
}

pub crossing_track_circuit_bits : (w : ℕ) → crossing_track_circuit_of (values 6 w) ≡ crossing_track_circuit_in w
unfolding cells layouts
crossing_track_circuit_bits w = refl

pub crossing_track_circuit_words : ((crossing_track_circuit_of (values 6 0x0011)).occupancy
    ≡ LegOccupancy.ClearMovementSet)
    × ((crossing_track_circuit_of (values 6 0x0041)).leg_shown ≡ LegShown.NormalOnly)
    × ((crossing_track_circuit_of (values 6 0x0101)).overlap_normal ≡ Overlap.MovementOverlap)
    × ((crossing_track_circuit_of (values 6 0x0401)).overlap_reverse ≡ Overlap.MovementOverlap)
unfolding cells layouts
crossing_track_circuit_words = (refl, refl, refl, refl)

-- ---- TIPO 7: SISTEMA DE DOBLE DETECCIÓN DE TREN (SDT)

abbrev pub dual_detection_in : ℕ → DualDetection
dual_detection_in w = record {
  current = bit w 0;  -- SDT_DAT: 1 = Con datos del elemento (rojo intermitente)
  special_command_pending = bit w 1;  -- SDT_ME (Mando Especial, ME): 1 = Pendiente de confirmación ME ejecutado
  rearm_pending = bit w 2;  -- SDT_RM (Indicador de Rearme del SDT): 0 = Sin necesidad de Rearme 1 = Rearme pendiente
  axle_counters_active = bit w 3;  -- SDT_SIST_ACT: 0 = CV eléctrico activo / CEJES en respaldo 1 = CEJES activo / CV en respaldo
  track_circuit_failed = bit w 4;  -- SDT_CV_SUP: 0 = Supervisión de CV eléctrico OK 1 = Supervisión de CV eléctrico No OK
  axle_counters_failed = bit w 5;  -- SDT_CV_CEJES: 0 = Supervisión de CEJES OK 1 = Supervisión de CEJES No OK
}

pub dual_detection_bits : (w : ℕ) → dual_detection_of (values 7 w) ≡ dual_detection_in w
unfolding cells layouts
dual_detection_bits w = refl

-- ---- TIPO 8: AGUJA (AG)

abbrev pub points_in : ℕ → Points
points_in w = record {
  current = bit w 0;  -- AG_DAT: 1 = Con datos del elemento
  special_command_pending = bit w 1;  -- AG_ME: 1 = Pendiente de confirmación ME ejecutado
  movement_blocked = bit w 2;  -- AG_BIA (Bloqueo de movimientos por aguja): 1 = Con Bloqueo "BIA" establecido
  unexpected_occupancy = bit w 3;  -- AG_OCUP_TIPO: 0 = Normal 1 = Intempestiva
  occupancy = leg_occupancy_of (bits w 4 5);  -- AG_OCUP_EST
  leg_shown = leg_shown_of (bits w 6 7);  -- AG_DIR (orientación para representación de ocupación ..)
  overlap_normal = overlap_of (bits w 8 9);  -- AG_DES_N (Presencia de deslizamiento por Normal)
  overlap_reverse = overlap_of (bits w 10 11);  -- AG_DES_I (Presencia de deslizamiento por Invertido)
  detection = points_detection_of (bits w 12 14);  -- AG_COMP (Comprobación de posición de aguja)
  command_blocked = bit w 15;  -- AG_BA (Bloqueo de mando de aguja): 1 = Con Bloqueo "BA" establecido
  locking = points_locking_of (bits w 16 17);  -- AG_ENC (Estado de enclavamiento de aguja)
  clearance_lost = bit w 18;  -- AG_GAL: 0 = Sin Falta de gálibo o Efecto Pedal 1 = Con Falta de gálibo o Efecto Pedal
}

pub points_bits : (w : ℕ) → points_of (values 8 w) ≡ points_in w
unfolding cells layouts
points_bits w = refl

pub points_words : ((points_of (values 8 0x000021)).occupancy ≡ LegOccupancy.ClearShuntSet)
    × ((points_of (values 8 0x000041)).leg_shown ≡ LegShown.NormalOnly)
    × ((points_of (values 8 0x000101)).overlap_normal ≡ Overlap.MovementOverlap)
    × ((points_of (values 8 0x000401)).overlap_reverse ≡ Overlap.MovementOverlap)
    × ((points_of (values 8 0x003001)).detection ≡ PointsDetection.DetectedNormal)
    × ((points_of (values 8 0x020001)).locking ≡ PointsLocking.MovementRequired)
unfolding cells layouts
points_words = (refl, refl, refl, refl, refl, refl)

-- ---- TIPO 9: CERRADURA ELÉCTRICA/BOURÉ (BOU)

abbrev pub electric_lock_in : ℕ → ElectricLock
electric_lock_in w = record {
  current = bit w 0;  -- BOU_DAT: 1 = Con datos del elemento
  locked = bit w 1;  -- BOU_ENC (enclavamiento de Cerradura eléctrica/Bouré): 0 = No enclavada 1 = Enclavada
  key_detected = bit w 2;  -- BOU_LLAVE (estado de la llave): 0 = Sin comprobación .. 1 = Con comprobación (llave insertada)
  release_authorised = bit w 3;  -- BOU_AUT (Autorización de Cerradura): .. 1 = Extracción de llave autorizada
}

pub electric_lock_bits : (w : ℕ) → electric_lock_of (values 9 w) ≡ electric_lock_in w
unfolding cells layouts
electric_lock_bits w = refl

-- ---- TIPO 22: AVISOS GENERALES SIN RECONOCIMIENTO DE ALARMAS (AVG)

abbrev pub general_notices_in : ℕ → GeneralNotices
general_notices_in w = record {
  power_in_order = bit w 0;  -- AVG_EN: 1 = Alimentación del sistema en orden ("EN" amarillo)
  points_moving = bit w 1;  -- AVG_MA_I (Indicación de Movimiento de Agujas): 1 = Movimiento de agujas ..
  auto_routes_set = bit w 2;  -- AVG_FI_I: 0 = Sin FAI establecido .. 1 = Con FAI establecido ("FI" verde)
  points_group_blocked = bit w 3;  -- AVG_BA: .. 1 = Bloqueo de Conjunto de Agujas establecido ("BA" amarillo mostrado)
  heaters = heater_indication_of (bits w 4 5);  -- AVG_CF (Indicación de Conjunto de Calefactores de Aguja)
  station_closed = bit w 6;  -- AVG_EC (Estación Cerrada): 0 = Estación no cerrada .. 1 = Estación Cerrada ("EC" rojo)
  earth_fault = earth_fault_indication_of (bits w 7 8);  -- AVG_DT (Derivación a Tierra en equipos aislados)
}

pub general_notices_bits : (w : ℕ) → general_notices_of (values 22 w) ≡ general_notices_in w
unfolding cells layouts
general_notices_bits w = refl

pub general_notices_words : ((general_notices_of (values 22 0x0020)).heaters ≡ HeaterIndication.Green)
    × ((general_notices_of (values 22 0x0080)).earth_fault ≡ EarthFaultIndication.EarthFault)
unfolding cells layouts
general_notices_words = (refl, refl)

-- ---- TIPO 23: FRONTERA (FRA)

abbrev pub control_boundary_in : ℕ → ControlBoundary
control_boundary_in w = record {
  current = bit w 0;  -- FRA_DAT: 1 = Con datos del elemento
  entry_active = bit w 1;  -- FRA_ENT_ACT: 0 = FRA_ENT_ACT desactivada. 1 = FRA_ENT_ACT activada.
  entry_movement = boundary_movement_of (bits w 2 4);  -- FRA_ENT_EST (.. señal de movimiento de entrada mandado)
  exit_active = bit w 5;  -- FRA_SAL_ACT: 0 = FRA_SAL_ACT desactivada. 1 = FRA_SAL_ACT activada.
  exit_movement = boundary_movement_of (bits w 6 8);  -- FRA_SAL_EST (.. señal de movimiento de salida mandado)
  inc_inwards = bit w 9;  -- FRA_INC_SEN: 0 = FRA_INC_IND en sentido de salida. 1 = FRA_INC_IND en sentido de entrada.
  inc_shown = bit w 10;  -- FRA_INC_IND: 0 = Ausencia de indicación. 1 = Presencia de indicación.
  neighbour_object_alarm = bit w 11;  -- FRA_DCO: 0 = DCO de ENCE colateral sin incidencia. 1 = .. con incidencia.
}

pub control_boundary_bits : (w : ℕ) → control_boundary_of (values 23 w) ≡ control_boundary_in w
unfolding cells layouts
control_boundary_bits w = refl

pub control_boundary_words : ((control_boundary_of (values 23 0x000D)).entry_movement
    ≡ BoundaryMovement.OverrideSignalPending)
    × ((control_boundary_of (values 23 0x0101)).exit_movement ≡ BoundaryMovement.OverrideSignalOpen)
unfolding cells layouts
control_boundary_words = (refl, refl)

-- ---- catalogue 3.0, TIPO 1: SEÑAL LUMINOSA (SIG)

abbrev pub signal_v3_in : ℕ → SignalV3
signal_v3_in w = record {
  current = bit w 0;  -- SIG_DAT: 1 = Con datos del elemento
  kind = signal_kind_of (bits w 1 2);  -- SIG_TIPO (Tipo de Señal)
  high_speed_auto_route = bit w 3;  -- SIG_EAR (Establecimiento Automático de Rutas tipo AV): 0 = EAR no activo. 1 = EAR activo.
  aspect = signal_aspect_of (bits w 4 7);  -- SIG_IND (indicación en vía)
  red_fitted = bit w 8;  -- SIG_FOCO_R (Foco rojo): 1 = rojo equipado
  red_blown = bit w 9;  -- 1 = Fusión de rojo
  white_fitted = bit w 10;  -- SIG_FOCO_BL_C (Foco blanco Común): 1 = blanco equipado
  white_blown = bit w 11;  -- 1 = Fusión de blanco / blanco intermitente
  vertical_white_fitted = bit w 12;  -- SIG_FOCO_BL_V (Foco blanco vertical): 1 = blanco vertical equipado
  vertical_white_blown = bit w 13;  -- 1 = Fusión de blanco vertical
  horizontal_white_fitted = bit w 14;  -- SIG_FOCO_BL_H (Foco blanco horizontal): 1 = blanco horizontal equipado
  horizontal_white_blown = bit w 15;  -- 1 = Fusión de blanco horizontal
  blue_fitted = bit w 16;  -- SIG_FOCO_AZ (Foco azul): 1 = azul equipado
  blue_blown = bit w 17;  -- 1 = Fusión de azul / azul intermitente
  yellow_fitted = bit w 18;  -- SIG_FOCO_AM (Foco amarillo): 1 = amarillo equipado
  yellow_blown = bit w 19;  -- 1 = Fusión de amarillo o amarillo intermitente
  green_fitted = bit w 20;  -- SIG_FOCO_V (Foco verde): 1 = verde equipado
  green_blown = bit w 21;  -- 1 = Fusión de verde / verde intermitente
  special_command_pending = bit w 22;  -- SIG_ME (Mando Especial, ME): 1 = Pendiente de confirmación ME ejecutado
  command_blocked = bit w 23;  -- SIG_B (Bloqueo de mando): 1 = Bloqueo de mando activo ("B" rojo)
  mixed_gauge = mixed_gauge_indication_of (bits w 24 26);  -- SIG_UIC (Indicaciones de Tercer Carril, ancho de vía UIC / CONV)
  automatic_succession = bit w 27;  -- SIG_SA (Sucesión Automática, SA): 1 = SA establecida ("S" verde)
  auto_route = auto_route_of (bits w 28 29);  -- SIG_FAI (Formación Automática de Itinerarios, FAI)
  router = router_indication_of (bits w 30 31);  -- SIG_GRP_ARS (Indicación de enrutadores GRP o ARS)
}

pub signal_v3_bits : (w : ℕ) → signal_v3_of (values 31 w) ≡ signal_v3_in w
unfolding cells layouts
signal_v3_bits w = refl

pub signal_v3_words : ((signal_v3_of (values 31 0x00000003)).kind ≡ SignalKind.HighNoWhiteNoBlue)
    × ((signal_v3_of (values 31 0x000000A1)).aspect ≡ SignalAspect.GreenYellow)
    × ((signal_v3_of (values 31 0x03000001)).mixed_gauge ≡ MixedGaugeIndication.UicShuntSet)
    × ((signal_v3_of (values 31 0x20000001)).auto_route ≡ AutoRoute.GreenFlashing)
    × ((signal_v3_of (values 31 0x40000001)).router ≡ RouterIndication.ManualBlock)
unfolding cells layouts
signal_v3_words = (refl, refl, refl, refl, refl)

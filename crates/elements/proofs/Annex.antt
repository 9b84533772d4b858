-- Which types are carried; that a word of each type, by its number in annex 1 or 3 of NAS 831, is read as the state
-- that the annex's bits say; which bits are reserved; and which types two catalogues read alike.
-- Kept by hand and typed from the papers and the annexes' tables of types;
-- the bits and the cases are in `Annex` of `states` and of `cases`.
-- Assumes nothing.
use mathlib.Core.Path.{◌≡◌, refl, ap}
use mathlib.Core.Bool.{Bool, true, false, cond, not, ◌||◌}
use mathlib.Core.List.{List, [], ◌∷◌, map}
use Prim.Native.Nat.{ℕ, ◌+◌, ◌-◌}
use lib.Dec.{T, eqb, eqb→eq}
use lib.ListN.{length}
use borrow.Author.Tests.{eq-eqb}
use Rattle.rows.specs.Rows.{Row, cells, layouts, row_total}
use Rattle.states.proofs.Annex.{signal_in, signal_bits, changer_signal_in, changer_signal_bits, virtual_board_in}
use Rattle.states.proofs.Annex.{virtual_board_bits, line_track_circuit_in, line_track_circuit_bits}
use Rattle.states.proofs.Annex.{points_track_circuit_in, points_track_circuit_bits, crossing_track_circuit_in}
use Rattle.states.proofs.Annex.{crossing_track_circuit_bits, dual_detection_in, dual_detection_bits, points_in}
use Rattle.states.proofs.Annex.{points_bits, electric_lock_in, electric_lock_bits, general_notices_in}
use Rattle.states.proofs.Annex.{general_notices_bits, control_boundary_in, control_boundary_bits, signal_v3_in}
use Rattle.states.proofs.Annex.{signal_v3_bits}
use Rattle.kinds.specs.Kinds.{KindLine, find_in, kind_in, kinds, layout_no, rows_of}
use Rattle.kinds.specs.declared.Kind.{Kind}
use Rattle.kinds.specs.declared.Element.{Element}
use Rattle.std.proofs.Common.{Option, Some, is_some}
use Rattle.elements.specs.Types.{Catalogue, catalogues, find_under, find_by_type}
use Rattle.elements.specs.Elements.{carried, kind_of, same_kind, state_of}
use Rattle.elements.proofs.TypeLaws.{all_types, every_carried}

-- ---- which types are carried

abbrev one_of : List ℕ → ℕ → Bool
one_of [] type = false
one_of (t ∷ ts) type = cond (eqb type t) true (one_of ts type)

-- whether one of these catalogues, each an X and its types, carries a type
abbrev pub carried_by : List (ℕ × List ℕ) → ℕ → ℕ → Bool
carried_by [] x type = false
carried_by (c ∷ cs) x type = cond (eqb x c.0) (one_of c.1 type) (carried_by cs x type)

abbrev numbers : List KindLine → List ℕ
numbers ls = map (λ (l : KindLine). l.number) ls

abbrev numbers_in : List Catalogue → List (ℕ × List ℕ)
numbers_in cs = map (λ (c : Catalogue). (c.x, numbers c.types)) cs

either : (b : Bool) (s t : Option Kind) {p q : Bool} → is_some s ≡ p → is_some t ≡ q
    → is_some (cond b s t) ≡ cond b p q
either true s t e f = e
either false s t e f = f

carried_in : (type : ℕ) (ls : List KindLine) → is_some (find_in type ls) ≡ one_of (numbers ls) type
carried_in type [] = refl
carried_in type (l ∷ ls) =
    either (eqb type l.number) (Some l.kind) (find_in type ls) refl (carried_in type ls)

carried_under : (x type : ℕ) (cs : List Catalogue)
    → is_some (find_under x type cs) ≡ carried_by (numbers_in cs) x type
carried_under x type [] = refl
carried_under x type (c ∷ cs) =
    either (eqb x c.x) (find_in type c.types) (find_under x type cs) (carried_in type c.types)
    (carried_under x type cs)

-- "Catalogue 1.0, types 1 to 9, 22 and 23"; of 3.0 "its types 1 to 7"; and nothing else
pub carried_exactly : (x type : ℕ) → carried x type
    ≡ carried_by ((1, 1 ∷ 2 ∷ 3 ∷ 4 ∷ 5 ∷ 6 ∷ 7 ∷ 8 ∷ 9 ∷ 22 ∷ 23 ∷ []) ∷
    (3, 1 ∷ 2 ∷ 3 ∷ 4 ∷ 5 ∷ 6 ∷ 7 ∷ []) ∷ []) x type
unfolding carried
carried_exactly x type = carried_under x type catalogues

-- ---- a word of each type

-- under X the type is carried as the state's kind, and the word is read as the state
abbrev pub Reads : ℕ → ℕ → ℕ → Element → Type 0
Reads x type w e = (find_by_type x type ≡ Some (kind_in e)) × (state_of (kind_in e) w ≡ e)

pub by_type : (w : ℕ) →
    Reads 1 1 w (Element.Signal (signal_in w))  -- 1 Señal luminosa SIG
    × Reads 1 2 w (Element.ChangerSignal (changer_signal_in w))  -- 2 Señal indicadora de Cambiador de Ancho IC
    × Reads 1 3 w (Element.VirtualBoard (virtual_board_in w))  -- 3 Pantalla virtual PV
    × Reads 1 4 w (Element.LineTrackCircuit (line_track_circuit_in w))  -- 4 Circuito de vía lineal CV
    × Reads 1 5 w (Element.PointsTrackCircuit (points_track_circuit_in w))  -- 5 Circuito de vía de agujas CVA
    × Reads 1 6 w (Element.CrossingTrackCircuit (crossing_track_circuit_in w))  -- 6 Circuito de vía de cruzamiento CVX
    × Reads 1 7 w (Element.DualDetection (dual_detection_in w))  -- 7 Sistema de Doble Detección de Tren SDT
    × Reads 1 8 w (Element.Points (points_in w))  -- 8 Aguja AG
    × Reads 1 9 w (Element.ElectricLock (electric_lock_in w))  -- 9 Cerradura Eléctrica/Bouré BOU
    × Reads 1 22 w (Element.GeneralNotices (general_notices_in w))  -- 22 Avisos Generales, sin reconocimiento de alarmas AVG
    × Reads 1 23 w (Element.ControlBoundary (control_boundary_in w))  -- 23 Frontera FRA
    × Reads 3 1 w (Element.SignalV3 (signal_v3_in w))  -- 1 Señal luminosa SIG, of catalogue 3.0
unfolding cells layouts state_of
by_type w = (
  (refl, ap Element.Signal (signal_bits w)),
  (refl, ap Element.ChangerSignal (changer_signal_bits w)),
  (refl, ap Element.VirtualBoard (virtual_board_bits w)),
  (refl, ap Element.LineTrackCircuit (line_track_circuit_bits w)),
  (refl, ap Element.PointsTrackCircuit (points_track_circuit_bits w)),
  (refl, ap Element.CrossingTrackCircuit (crossing_track_circuit_bits w)),
  (refl, ap Element.DualDetection (dual_detection_bits w)),
  (refl, ap Element.Points (points_bits w)),
  (refl, ap Element.ElectricLock (electric_lock_bits w)),
  (refl, ap Element.GeneralNotices (general_notices_bits w)),
  (refl, ap Element.ControlBoundary (control_boundary_bits w)),
  (refl, ap Element.SignalV3 (signal_v3_bits w)),
)

-- ---- what is reserved

-- the reserved rows, each by its lowest bit, which code 10 names, and its highest
abbrev reserved_in : List Row → List (ℕ × ℕ)
reserved_in [] = []
reserved_in (r ∷ rs) = cond (eqb r.top 0) ((r.low, (r.low + r.width) - 1) ∷ reserved_in rs) (reserved_in rs)

pub reserved_rows : map (λ (k : Kind). reserved_in (rows_of k)) kinds ≡
    ((31, 31) ∷ []) ∷  -- SIG: 31 (reserva)
    ((3, 7) ∷ []) ∷  -- IC: 3..7 (reserva)
    ((4, 7) ∷ []) ∷  -- PV: 4..7 (reserva)
    ((14, 15) ∷ []) ∷  -- CV: 14..15 (reserva)
    ((2, 2) ∷ (6, 7) ∷ (14, 15) ∷ []) ∷  -- CVA: 2 (reserva), 6..7 (reserva), 14..15 (reserva)
    ((15, 15) ∷ []) ∷  -- CVX: 15 (reserva)
    ((6, 7) ∷ []) ∷  -- SDT: 6..7 (reserva)
    ((19, 23) ∷ []) ∷  -- AG: 19..23 (reserva)
    ((4, 7) ∷ []) ∷  -- BOU: 4..7 (reserva)
    ((9, 15) ∷ []) ∷  -- AVG: 9..15 (reserva)
    ((12, 15) ∷ []) ∷  -- FRA: 12..15 (reserva)
    [] ∷  -- SIG of catalogue 3.0: none
    []
unfolding cells layouts
reserved_rows = refl

-- "107 rows", and 24 of 3.0's signal; four numbers each
pub rows_counted : (row_total ≡ 131) × (length cells ≡ 524)
unfolding cells
rows_counted = (refl, refl)

-- ---- a type that two catalogues carry

-- the same truth value
abbrev agree : Bool → Bool → Bool
agree a b = cond a b (not b)

-- one type has one kind under both catalogues, but type 1 has one only where they are the same
abbrev alike_under : ℕ → ℕ → Kind → ℕ → ℕ → Kind → Bool
alike_under x type k y type' j = not (eqb type type') || agree (same_kind k j) (eqb x y || not (eqb type 1))

agreed : (a b : Bool) → T (agree a b) → a ≡ b
agreed true true t = refl
agreed false false t = refl
agreed false true t = elim t [ ]
agreed true false t = elim t [ ]

same_type : (type : ℕ) (b : Bool) → T (not (eqb type type) || b) → T b
same_type type b t = rw (eq-eqb type type refl) at t

-- "Type 1 .. has a state of its own. Types 2 to 7 keep their admitted values": every type but 1 is of one kind in both
pub one_kind : (x y type : ℕ) → carried x type ≡ true → carried y type ≡ true
    → same_kind (kind_of x type) (kind_of y type) ≡ (eqb x y || not (eqb type 1))
unfolding layouts
one_kind x y type cx cy =
    let other =
    every_carried (λ (x : ℕ) (type : ℕ) (k : Kind). all_types (alike_under x type k) catalogues) tt x type cx in
    agreed _ _ (same_type type _ (every_carried (alike_under x type (kind_of x type)) other y type cy))

-- a kind's number, which C sees, is the type's, except that of type 1 under catalogue 3.0, which is 31
pub kind_number : (x type : ℕ) → carried x type ≡ true
    → layout_no (kind_of x type) ≡ cond (eqb x 3) (cond (eqb type 1) 31 type) type
unfolding layouts
kind_number x type c =
    eqb→eq _ _ (every_carried
    (λ (x : ℕ) (type : ℕ) (k : Kind). eqb (layout_no k) (cond (eqb x 3) (cond (eqb type 1) 31 type) type))
    tt x type c)

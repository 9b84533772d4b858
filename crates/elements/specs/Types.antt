-- Which types are carried under each catalogue's X, and as which kind. No others are.
-- Written by catalogue/write.py.
use Rattle.std.specs.Prelude.{cond, List, [], ◌∷◌, ℕ, eqb, Option, None}
use Rattle.kinds.specs.Kinds.{KindLine, kind_line, find_in}
use Rattle.kinds.specs.declared.Kind.{Kind}

-- the types carried under X = 1, each with its kind
abbrev pub types_under1 : List KindLine
types_under1 =
    kind_line 1 Kind.Signal ∷
    kind_line 2 Kind.ChangerSignal ∷
    kind_line 3 Kind.VirtualBoard ∷
    kind_line 4 Kind.LineTrackCircuit ∷
    kind_line 5 Kind.PointsTrackCircuit ∷
    kind_line 6 Kind.CrossingTrackCircuit ∷
    kind_line 7 Kind.DualDetection ∷
    kind_line 8 Kind.Points ∷
    kind_line 9 Kind.ElectricLock ∷
    kind_line 22 Kind.GeneralNotices ∷
    kind_line 23 Kind.ControlBoundary ∷
    []

-- the types carried under X = 3, each with its kind
abbrev pub types_under3 : List KindLine
types_under3 =
    kind_line 1 Kind.SignalV3 ∷
    kind_line 2 Kind.ChangerSignal ∷
    kind_line 3 Kind.VirtualBoard ∷
    kind_line 4 Kind.LineTrackCircuit ∷
    kind_line 5 Kind.PointsTrackCircuit ∷
    kind_line 6 Kind.CrossingTrackCircuit ∷
    kind_line 7 Kind.DualDetection ∷
    []

-- a catalogue: its X and the types carried under it
pub record Catalogue : Type 0 where
  pub x : ℕ
  pub types : List KindLine

abbrev catalogue : ℕ → List KindLine → Catalogue
catalogue x types = record { x = x; types = types }

abbrev pub catalogues : List Catalogue
catalogues = catalogue 1 types_under1 ∷ catalogue 3 types_under3 ∷ []

-- the kind of a type under an X
abbrev pub find_under : ℕ → ℕ → List Catalogue → Option Kind
find_under x type [] = None
find_under x type (c ∷ cs) = cond (eqb x c.x) (find_in type c.types) (find_under x type cs)

abbrev pub find_by_type : ℕ → ℕ → Option Kind
find_by_type x type = find_under x type catalogues

-- By computation: what is found of each of the paper's known elements, and the two states that the paper names;
-- elements with two faults, of which the lower is named, and 12 last; words of the signal of catalogue 3.0; and which
-- kinds lack DAT.
-- Assumes nothing.
use mathlib.Core.Path.{◌≡◌, refl}
use mathlib.Core.Bool.{true, false, cond}
use mathlib.Core.List.{List, [], ◌∷◌, map}
use Rattle.octets.specs.Octets.{number}
use Rattle.rows.specs.Rows.{cells, layouts}
use Rattle.rows.specs.Values.{code_at}
use Rattle.std.proofs.Common.{Ok, Err}
use Rattle.kinds.specs.Kinds.{layout_of, kinds}
use Rattle.cases.specs.declared.ChangerAspect.{ChangerAspect}
use Rattle.cases.specs.declared.SignalKind.{SignalKind}
use Rattle.cases.specs.declared.SignalAspect.{SignalAspect}
use Rattle.cases.specs.declared.MixedGaugeIndication.{MixedGaugeIndication}
use Rattle.cases.specs.declared.AutoRouteIndication.{AutoRouteIndication}
use Rattle.states.specs.declared.signal.Signal.{Signal}
use Rattle.elements.specs.Elements.{kind_of, dat_rule, element_check, state_of}
use Rattle.elements.specs.Known.{known, findings, said, wide, printed_widths}
use Rattle.kinds.specs.declared.Kind.{Kind}
use Rattle.kinds.specs.declared.Element.{Element}

-- a high signal with white or blue, green, its red lamp fitted
abbrev green : Signal
green =
    record {
      current = true;
      kind = SignalKind.HighWhiteOrBlue;
      aspect = SignalAspect.Green;
      red_fitted = true;
      red_blown = false;
      white_fitted = false;
      white_blown = false;
      vertical_white_fitted = false;
      vertical_white_blown = false;
      horizontal_white_fitted = false;
      horizontal_white_blown = false;
      blue_fitted = false;
      blue_blown = false;
      yellow_fitted = false;
      yellow_blown = false;
      green_fitted = false;
      green_blown = false;
      special_command_pending = false;
      command_blocked = false;
      mixed_gauge = MixedGaugeIndication.NoThirdRail;
      automatic_succession = false;
      auto_route_set = false;
      auto_route_indication = AutoRouteIndication.GreenSteady;
    }

-- IC (type 2) 03 is fixed T, SIG (type 1) 00 00 01 B5 is green
pub all_known : (findings known ≡ said known)
    × (wide known ≡ printed_widths known)
    × (state_of (kind_of 1 2) (number (0x03 ∷ []))
    ≡ Element.ChangerSignal (record { current = true; aspect = ChangerAspect.FixedT }))
    × (state_of (kind_of 1 1) (number (0x00 ∷ 0x00 ∷ 0x01 ∷ 0xB5 ∷ [])) ≡ Element.Signal green)
unfolding cells layouts kind_of dat_rule element_check state_of
all_known = (refl, refl, refl, refl)

pub two_faults : (element_check Kind.ChangerSignal 0x81 ≡ Err (code_at 10 3))
    × (element_check Kind.VirtualBoard 0x06 ≡ Err (code_at 11 1))
    × (element_check Kind.VirtualBoard 0x17 ≡ Err (code_at 11 1))
    × (element_check Kind.LineTrackCircuit 0x14C1 ≡ Err (code_at 11 6))
    × (element_check Kind.PointsTrackCircuit 0x0024 ≡ Err (code_at 10 2))
unfolding cells layouts dat_rule element_check
two_faults = (refl, refl, refl, refl, refl)

-- 3.0's signal: EAR alone, low, a router in automatic block, every highest listed value, without data;
-- IND 13, GRP_ARS 3, EAR where DAT is 0.
-- 1.0's signal refuses two of these words: TIPO 4 and the reserved bit 31
pub new_signal : (map (element_check (kind_of 3 1))
    (0x00000009 ∷ 0x00000007 ∷ 0x80000001 ∷ 0xBFFFFFCF ∷ 0x00000000 ∷ 0x000000D1 ∷ 0xC0000001 ∷ 0x00000008 ∷ []) ≡
    Ok tt ∷ Ok tt ∷ Ok tt ∷ Ok tt ∷ Ok tt ∷
    Err (code_at 11 4) ∷ Err (code_at 11 30) ∷ Err (code_at 12 0) ∷ [])
    × (map (element_check (kind_of 1 1)) (0x00000009 ∷ 0x80000001 ∷ [])
    ≡ Err (code_at 11 1) ∷ Err (code_at 10 31) ∷ [])
unfolding cells layouts kind_of dat_rule element_check
new_signal = (refl, refl)

-- the kinds whose bit 0 is not DAT; which they are is typed from the annexes
abbrev lacking : List Kind → List Kind
lacking [] = []
lacking (k ∷ ks) = cond (layout_of k).dat (lacking ks) (k ∷ lacking ks)

pub which_lack_dat : lacking kinds ≡ Kind.GeneralNotices ∷ []  -- AVG
unfolding layouts
which_lack_dat = refl

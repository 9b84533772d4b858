-- `kinds::marks` meets its contract: each kind's marks are checked against its rows.
-- Written by catalogue/write.py. Assumes nothing.
use mathlib.Core.Path.{◌≡◌, subst⁻¹}
use Prim.Native.Nat.{ℕ}
use lib.Dec.{T}
use Rattle.rows.specs.Rows.{cells, layouts}
use Rattle.rows.specs.Marks.{marked}
use Rattle.kinds.specs.Kinds.{rows_of}
use Rattle.kinds.specs.declared.Kind.{Kind}
use Rattle.kinds.proofs.marks.Goals as goal

fits : (add carry : ℕ) {k j : Kind} → k ≡ j → T (marked add carry (rows_of j)) → T (marked add carry (rows_of k))
fits add carry e t = subst⁻¹ (λ (k : Kind). T (marked add carry (rows_of k))) e t

pub returns-in-Signal : goal.returns-in-Signal
unfolding cells layouts
returns-in-Signal c = fits _ _ c.in-Signal.is tt

pub returns-in-ChangerSignal : goal.returns-in-ChangerSignal
unfolding cells layouts
returns-in-ChangerSignal c = fits _ _ c.in-ChangerSignal.is tt

pub returns-in-VirtualBoard : goal.returns-in-VirtualBoard
unfolding cells layouts
returns-in-VirtualBoard c = fits _ _ c.in-VirtualBoard.is tt

pub returns-in-LineTrackCircuit : goal.returns-in-LineTrackCircuit
unfolding cells layouts
returns-in-LineTrackCircuit c = fits _ _ c.in-LineTrackCircuit.is tt

pub returns-in-PointsTrackCircuit : goal.returns-in-PointsTrackCircuit
unfolding cells layouts
returns-in-PointsTrackCircuit c = fits _ _ c.in-PointsTrackCircuit.is tt

pub returns-in-CrossingTrackCircuit : goal.returns-in-CrossingTrackCircuit
unfolding cells layouts
returns-in-CrossingTrackCircuit c = fits _ _ c.in-CrossingTrackCircuit.is tt

pub returns-in-DualDetection : goal.returns-in-DualDetection
unfolding cells layouts
returns-in-DualDetection c = fits _ _ c.in-DualDetection.is tt

pub returns-in-Points : goal.returns-in-Points
unfolding cells layouts
returns-in-Points c = fits _ _ c.in-Points.is tt

pub returns-in-ElectricLock : goal.returns-in-ElectricLock
unfolding cells layouts
returns-in-ElectricLock c = fits _ _ c.in-ElectricLock.is tt

pub returns-in-GeneralNotices : goal.returns-in-GeneralNotices
unfolding cells layouts
returns-in-GeneralNotices c = fits _ _ c.in-GeneralNotices.is tt

pub returns-in-ControlBoundary : goal.returns-in-ControlBoundary
unfolding cells layouts
returns-in-ControlBoundary c = fits _ _ c.in-ControlBoundary.is tt

pub returns-in-SignalV3 : goal.returns-in-SignalV3
unfolding cells layouts
returns-in-SignalV3 c = fits _ _ c.in-SignalV3.is tt

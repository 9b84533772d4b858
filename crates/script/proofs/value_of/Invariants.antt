-- The name is at no place passed so far.
use Rattle.std.proofs.Common.{ℕ, ◌<◌, length}
use Rattle.script.specs.Placed.{IsAt}
use Rattle.script.proofs.value_of.Given as goal

abbrev pub invariant-loop-i : goal.invariant-loop-i
invariant-loop-i l = (k : ℕ) → k < l.i → 0 < length l.name → IsAt l.line k l.name → ⊥

-- "Outcomes allowed by one statement are shown equal": what a call ensures is an equation with its definition. For a
-- call that only answers, and for one that also writes (`Leaves` of specs/Verdict). Each floor above shows this for its
-- calls, in its `OneOutcome`.
-- Assumes nothing.
use mathlib.Core.Path.{◌≡◌, sym, ◌∙◌}
use Rattle.history.specs.declared.Answer.{Answer}
use Rattle.history.specs.Verdict.{Verdict, told}

pub one_outcome : {A : Type 0} {x y z : A} → x ≡ z → y ≡ z → x ≡ y
one_outcome p q = p ∙ sym q

pub one_pair : {A B : Type 0} {x y z : A} {m n o : B} → (x ≡ z) × (m ≡ o) → (y ≡ z) × (n ≡ o) → (x ≡ y) × (m ≡ n)
one_pair p q = (one_outcome p.0 q.0, one_outcome p.1 q.1)

-- a call that writes nothing
abbrev pub Tells : {A : Type 0} → Verdict A → Answer → Type 0
Tells v r = r ≡ told v

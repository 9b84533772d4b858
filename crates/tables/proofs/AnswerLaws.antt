-- An answer and its verdict: what the answer tells of it, and that a refusal is the answer of the whole.
-- Assumes nothing.
use mathlib.Core.Path.{◌≡◌, refl, sym, ap, ◌∙◌}
use mathlib.Core.Bool.{Bool, true, false, not}
use Rattle.std.specs.Prelude.{Result, Err}
use Rattle.std.specs.Result.{IsErrAnd}
use Rattle.std.proofs.lemmas.Result.{err_from_is_err_and}
use borrow.Author.Tests.{not-true, not-false}
use Rattle.history.specs.declared.Answer.{Answer}
use Rattle.history.specs.Verdict.{Refused, Verdict, refused, done, then, numbers, unnamed, told, checked}

-- what `if !t` tells of the definition that t equals
pub no : {t u : Bool} → t ≡ u → not t ≡ true → u ≡ false
no {t} {u} e h = sym e ∙ not-true t h

pub yes : {t u : Bool} → t ≡ u → not t ≡ false → u ≡ true
yes {t} {u} e h = sym e ∙ not-false t h

-- the answer of a verdict that is known
pub told_refused : {A : Type 0} (v : Verdict A) {x : Refused} {r : Answer} → v ≡ refused x → r ≡ numbers x 0
    → r ≡ told v
unfolding told
told_refused v e q = rw e q

pub told_done : {A : Type 0} (v : Verdict A) {a : A} {r : Answer} → v ≡ done a → r ≡ unnamed 0 0 → r ≡ told v
unfolding told
told_done v e q = rw e q

-- a refusal is the answer, whatever would come after it
pub told_first : {A B : Type 0} (v : Verdict A) (f : A → Verdict B) → ((told v).code ≡ 0 → ⊥) → told v ≡ told (then v f)
unfolding told
told_first (refused r) f n = refl
told_first (done a) f n = absurd (n refl)

-- the answer doesn't depend on the value
pub told_then : {A B : Type 0} (v : Verdict A) (f : A → B) → told (then v (λ a. done (f a))) ≡ told v
unfolding told
told_then (refused r) f = refl
told_then (done a) f = refl

-- what follows may use the value
pub then_same : {A B : Type 0} (v : Verdict A) (f g : A → Verdict B) → ((a : A) → v ≡ done a → f a ≡ g a)
    → then v f ≡ then v g
then_same (refused r) f g h = refl
then_same (done a) f g h = h a refl

-- ---- the same of what a check gives

-- what `?` returns is the refusal
pub passed_on : {A E : Type 0} {e : E} (r : Result A E) → IsErrAnd r (λ x. x ≡ e) → r ≡ Err e
passed_on r h = let p = err_from_is_err_and r h in p.1 ∙ ap Err p.2

-- what a check gives doesn't depend on the value
pub checked_then : {A B : Type 0} (v : Verdict A) (f : A → B) → checked (then v (λ a. done (f a))) ≡ checked v
checked_then (refused r) f = refl
checked_then (done a) f = refl

-- A refused element decides; an accepted one leaves it to the rest of the check. And what a part of a check returns,
-- by what its definition says, and back.
-- Assumes nothing.
use Prim.Native.Nat.{ℕ}
use Rattle.std.specs.Prelude.{Ok, Err}
use mathlib.Core.Path.{◌≡◌, sym, ap, ◌∙◌}
use Rattle.rows.specs.Values.{Finding}
use Rattle.rows.specs.declared.Refusal.{Refusal}
use Rattle.history.specs.declared.Answer.{Answer}
use Rattle.history.specs.Verdict.{Refused, Verdict, refused, done, numbers, given}
use Rattle.history.specs.Image.{found_in, ◌of◌⨾◌}

pub is_bad : {A : Type 0} (f : Finding) (i : ℕ) (rest : Verdict A) (r : Refusal) → f ≡ Err r
    → (f of i ⨾ rest) ≡ refused (found_in r i)
is_bad f i rest r e = ap (λ (f : Finding). f of i ⨾ rest) e

pub is_good : {A : Type 0} (f : Finding) (i : ℕ) (rest : Verdict A) → f ≡ Ok tt → (f of i ⨾ rest) ≡ rest
is_good f i rest e = ap (λ (f : Finding). f of i ⨾ rest) e

-- ---- what is returned

module _ {A B : Type 0} (f : A → B) where
  pub refuses : {v : Verdict A} {x : Refused} {a : Answer} → v ≡ refused x → a ≡ numbers x 0 → Err a ≡ given f v
  refuses e q = ap Err q ∙ sym (ap (given f) e)

  pub accepts : {v : Verdict A} {a : A} → v ≡ done a → Ok (f a) ≡ given f v
  accepts e = sym (ap (given f) e)

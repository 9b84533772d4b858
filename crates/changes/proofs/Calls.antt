-- The four calls, form by form: the first that is refused decides.
-- Assumes nothing.
use Prim.Native.Nat.{ℕ}
use mathlib.Core.Path.{◌≡◌, refl}
use mathlib.Core.List.{List}
use Rattle.std.specs.Prelude.{Result, Err, IsErrAnd}
use Rattle.std.proofs.lemmas.Result.{err_from_is_err_and}
use Rattle.history.specs.declared.Answer.{Answer}
use Rattle.history.specs.Verdict.{Verdict, value_or, checked, Puts}
use Rattle.history.specs.Table.{Plan}
use Rattle.history.specs.Image.{read_image, AcceptedImage}
use Rattle.history.specs.Changes.{read_list, AcceptedList}
use Rattle.history.specs.Calls.{difference_under, difference_call, apply_under, apply_call, join_under, join_call}
use Rattle.history.specs.Calls.{turn_under, turn_call}
use Rattle.history.proofs.OutputLaws.{first_puts, first_given}
use Rattle.forms.proofs.UnderPlan.{Starts}
use Rattle.changes.proofs.Outcomes.{stays}

-- what `?` passes on is the refusal
pub passed : (v : Verdict (List ℕ)) (out : List ℕ) {r : Result ℕ Answer} {a : Answer} → IsErrAnd r (λ e. e ≡ a)
    → Puts v out (Err a) out
    → Puts v out r out
passed v out {r} h q = let p = err_from_is_err_and r h in rw (p.1, p.2) q

-- ---- the table is read first

module _ (T A B : List ℕ) where
  pub difference_starts : Starts T (difference_call T A B) (λ p. difference_under p A B)
  unfolding difference_call
  difference_starts = record { is = refl }

  pub apply_starts : Starts T (apply_call T A B) (λ p. apply_under p A B)
  unfolding apply_call
  apply_starts = record { is = refl }

  pub join_starts : Starts T (join_call T A B) (λ p. join_under p A B)
  unfolding join_call
  join_starts = record { is = refl }

pub turn_starts : (T L : List ℕ) → Starts T (turn_call T L) (λ p. turn_under p L)
unfolding turn_call
turn_starts T L = record { is = refl }

-- ---- then the other forms, in the order given

module _ (p : Plan) (A B out : List ℕ) {a : Answer} where
  pub difference_first : Err a ≡ checked (read_image p A) → Puts (difference_under p A B) out (Err a) out
  unfolding difference_under
  difference_first e = first_puts (read_image p A) _ _ out e

  pub difference_second : AcceptedImage p A → Err a ≡ checked (read_image p B)
      → Puts (difference_under p A B) out (Err a) out
  unfolding difference_under
  difference_second i e = rw i.reads (first_puts (read_image p B) _ _ out e)

  pub apply_first : Err a ≡ checked (read_image p A) → Puts (apply_under p A B) out (Err a) out
  unfolding apply_under
  apply_first e = first_puts (read_image p A) _ _ out e

  pub apply_second : AcceptedImage p A → Err a ≡ checked (read_list p B) → Puts (apply_under p A B) out (Err a) out
  unfolding apply_under
  apply_second i e = rw i.reads (first_puts (read_list p B) _ _ out e)

  pub join_first : Err a ≡ checked (read_list p A) → Puts (join_under p A B) out (Err a) out
  unfolding join_under
  join_first e = first_puts (read_list p A) _ _ out e

  pub join_second : AcceptedList p A → Err a ≡ checked (read_list p B) → Puts (join_under p A B) out (Err a) out
  unfolding join_under
  join_second l e = rw l.reads (first_puts (read_list p B) _ _ out e)

pub turn_first : (p : Plan) (L out : List ℕ) {a : Answer} → Err a ≡ checked (read_list p L)
    → Puts (turn_under p L) out (Err a) out
unfolding turn_under
turn_first p L out e = first_puts (read_list p L) _ _ out e

-- of a list that is taken into an image
pub take_first : (p : Plan) (A L : List ℕ) {a : Answer} → AcceptedImage p A → Err a ≡ checked (read_list p L)
    → (Err a ≡ checked (apply_under p A L)) × (A ≡ value_or A (apply_under p A L))
unfolding apply_under
take_first p A L {a} i e =
    let first : Err a ≡ checked (apply_under p A L) = rw i.reads (first_given (read_list p L) _ _ _ e) in
    (first, stays (apply_under p A L) A _ first)

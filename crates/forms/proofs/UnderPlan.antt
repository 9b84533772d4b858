-- Calls that read the table first: a refused table's answer is the whole answer;
-- under an accepted one the rest of the call depends on its plan.
-- Assumes nothing.
use Prim.Native.Nat.{ℕ}
use native.Mathlib.Omega.{arith}
use mathlib.Core.Path.{◌≡◌, refl, sym, ap, ◌∙◌}
use mathlib.Core.List.{List}
use Rattle.std.specs.Prelude.{Ok, Err}
use Rattle.history.specs.declared.Answer.{Answer}
use Rattle.history.specs.Verdict.{Verdict, refused, done, then, given, Puts, Leaves}
use Rattle.history.specs.Table.{Plan}
use Rattle.history.specs.Image.{read_image}
use Rattle.history.specs.Changes.{read_list}
use Rattle.history.specs.Calls.{read_plan, image_call, list_call}
use Rattle.history.proofs.OutputLaws.{first_puts, first_given, puts_as, puts_leave}

-- the call v reads the table first
pub record Starts {A : Type 0} (T : List ℕ) (v : Verdict A) (next : Plan → Verdict A) : Type 0 where
  pub is : v ≡ then (read_plan T) next

module _ {T : List ℕ} {A : Type 0} {v : Verdict A} {next : Plan → Verdict A} (s : Starts T v next) where
  -- of a refused table
  pub table_refused : {B : Type 0} (h : A → B) {a : Answer} → Err a ≡ given (λ (p : Plan). p) (read_plan T)
      → Err a ≡ given h v
  table_refused h e = first_given (read_plan T) (λ (p : Plan). p) next h e ∙ ap (given h) (sym s.is)

  -- of an accepted one: o is what is read of it, and p the plan that is lent from there
  pub under_plan : {o p : Plan} → Ok o ≡ given (λ (p : Plan). p) (read_plan T) → p ≡ o → next p ≡ v
  under_plan {o} {p} e q = ap next q ∙ go (read_plan T) e ∙ sym s.is
    where
      go : (w : Verdict Plan) → Ok o ≡ given (λ (p : Plan). p) w → next o ≡ then w next
      go (refused r) e = absurd (let z : ◌≡◌ {A = ℕ} 0 1 = cc in omega arith)
      go (done p) e = ap next cc

pub table_puts : {T : List ℕ} {v : Verdict (List ℕ)} {next : Plan → Verdict (List ℕ)} → Starts T v next
    → (out : List ℕ) {a : Answer} → Err a ≡ given (λ (p : Plan). p) (read_plan T) → Puts v out (Err a) out
table_puts {T} {next = next} s out e = puts_as out (sym s.is) (first_puts (read_plan T) (λ (p : Plan). p) next out e)

-- in the call's four numbers
pub table_leaves : {T : List ℕ} {v : Verdict (List ℕ)} {next : Plan → Verdict (List ℕ)} → Starts T v next
    → (out : List ℕ) {a : Answer} → Err a ≡ given (λ (p : Plan). p) (read_plan T) → Leaves v out a out
table_leaves {v = v} s out e = puts_leave v out (table_puts s out e)

-- ---- the checks of an image and of a list

module _ (T b : List ℕ) where
  pub image_starts : Starts T (image_call T b) (λ p. read_image p b)
  unfolding image_call
  image_starts = record { is = refl }

  -- as one equation, for a proof that the check finds alone
  pub image_read : image_call T b ≡ then (read_plan T) (λ p. read_image p b)
  image_read = image_starts.is

  pub list_starts : Starts T (list_call T b) (λ p. read_list p b)
  unfolding list_call
  list_starts = record { is = refl }

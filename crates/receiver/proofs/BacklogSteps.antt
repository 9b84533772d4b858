-- What a backlog leaves at each return: the table, the image, the room, and the lists in the copy.
-- Assumes nothing.
use Prim.Native.Nat.{ℕ, ◌^◌, ◌≤◌, ◌<◌}
use native.Mathlib.Omega.{arith}
use mathlib.Core.Path.{◌≡◌, refl, sym, ap, ◌∙◌}
use mathlib.Core.List.{List, [], ◌++◌}
use lib.ListN.{length, take, drop, get_or}
use lib.Seq.{take_at, drop_at}
use borrow.Author.Tests.{le-leb, lt-leb}
use mir.Syntax.{w8}
use mir.Val.{Fits}
use Rattle.std.specs.Prelude.{Ok, Err}
use Rattle.history.specs.declared.Answer.{Answer}
use Rattle.history.specs.declared.Standing.{Standing}
use Rattle.history.specs.Verdict.{Refused, Verdict, refused, done, then, numbers, unnamed, given, checked}
use Rattle.history.specs.Form.{forms_in}
use Rattle.history.specs.Table.{Plan}
use Rattle.history.specs.Image.{read_image, AcceptedImage}
use Rattle.history.specs.Calls.{read_plan}
use Rattle.history.specs.Backlog.{Backlog, nothing_taken, take_lists, backlog_under, backlog_call}
use Rattle.history.proofs.ImageLaws.{Fair}
use Rattle.history.proofs.BacklogLaws.{forms_bytes, take_keeps}
use Rattle.forms.proofs.Accepted.{image_accepted}
use Rattle.forms.proofs.UnderPlan.{Starts, under_plan}
use Rattle.receiver.specs.declared.Advance.{Advance}
use Rattle.receiver.specs.Backlogs.{advance_of, Advances}
use Rattle.receiver.proofs.Turns.{image_small}

-- a refusal is told by its numbers
refused_told : {A B : Type 0} (v : Verdict A) (f : A → B) {a : Answer} → Err a ≡ given f v
    → (x : Refused) × (v ≡ refused x) × (a ≡ numbers x 0)
refused_told (refused x) f e = (x, refl, cc)
refused_told (done b) f e = absurd (let z : ◌≡◌ {A = ℕ} 0 1 = cc in omega arith)

-- ---- the image, and room for it

pub image_fits : (p : Plan) (A : List ℕ) → ((i : ℕ) → Fits w8 (get_or A i 0)) → Ok tt ≡ checked (read_image p A)
    → length p.kinds ≤ 1024 → length A < 2 ^ 32
image_fits p A bytes good few = image_small (image_accepted p A bytes good) few

module _ (p : Plan) (A b out : List ℕ) (s : Standing) {a : Answer} {r : Advance}
    (n : r ≡ advance_of (nothing_taken [] s a)) where
  pub image_refused : Err a ≡ checked (read_image p A) → Advances (backlog_under p A b out s) r out
  unfolding backlog_under
  image_refused e =
      let f = refused_told (read_image p A) _ e in
      rw f.1 (n ∙ ap (λ (a : Answer). advance_of (nothing_taken [] s a)) f.2, refl)

  pub no_room : AcceptedImage p A → {m : List ℕ} → (a ≡ unnamed 21 (length A)) × (length out < length A) × (m ≡ out)
      → Advances (backlog_under p A b out s) r m
  unfolding backlog_under
  no_room i q =
      rw (i.reads, lt-leb (length A) (length out) q.1)
      (n ∙ ap (λ (a : Answer). advance_of (nothing_taken [] s a)) q.0, q.2)

-- ---- the copy at the front of the output

module _ (A out : List ℕ) {n : ℕ} {m : List ℕ} (q : (n ≡ length A) × (n ≤ length out) × (m ≡ A ++ drop n out)) where
  copy_is : take n m ≡ A
  copy_is = ap (take n) q.2 ∙ take_at A (drop n out) n (sym q.0)

  copy_rest : drop n m ≡ drop n out
  copy_rest = ap (drop n) q.2 ∙ drop_at A (drop n out) n (sym q.0)

  pub copy_accepted : {p : Plan} → AcceptedImage p A → AcceptedImage p (take n m)
  copy_accepted i = rw copy_is i

  -- it takes the lists; what follows it stays
  pub lists_taken : (p : Plan) (b : List ℕ) (s : Standing) → length p.kinds ≤ 1024 → AcceptedImage p A
      → ((i : ℕ) → Fits w8 (get_or b i 0)) → {r : Advance} {bs : List ℕ}
      → Advances (take_lists p (take n m) (forms_in b) s 0) r bs
      → Advances (backlog_under p A b out s) r (bs ++ drop n m)
  unfolding backlog_under
  lists_taken p b s few i bytes {r} {bs} t =
      let fair : Fair p = record { count = few } in
      let g : Backlog = take_lists p A (forms_in b) s 0 in
      let taken : Advances g r bs = rw copy_is at t in
      let size : n ≡ length g.output =
      q.0 ∙ sym (take_keeps fair (forms_in b) s 0 i (forms_bytes b λ i. (bytes i).fits)) in
      let rest = copy_rest ∙ ap (λ (n : ℕ). drop n out) size in
      rw (i.reads, le-leb (length A) (length out) (rw (sym q.0) q.1))
      (taken.0, ap (λ (l : List ℕ). bs ++ l) rest ∙ ap (λ (l : List ℕ). l ++ drop (length g.output) out) taken.1)

-- ---- the table

-- reading a plan is itself a call that reads the table first
plan_starts : (T : List ℕ) → Starts T (read_plan T) (λ p. done p)
plan_starts T = record { is = go (read_plan T) }
  where
    go : (v : Verdict Plan) → v ≡ then v (λ p. done p)
    go (refused r) = refl
    go (done p) = refl

module _ (T A b out : List ℕ) (s : Standing) {r : Advance} where
  pub table_stops : {a : Answer} → Err a ≡ given (λ (p : Plan). p) (read_plan T) → r ≡ advance_of (nothing_taken [] s a)
      → Advances (backlog_call T A b out s) r out
  unfolding backlog_call
  table_stops e n =
      let f = refused_told (read_plan T) _ e in
      rw f.1 (n ∙ ap (λ (a : Answer). advance_of (nothing_taken [] s a)) f.2, refl)

  -- o is what is read of the table, and p the plan that is lent from there
  pub table_goes : {o p : Plan} → Ok o ≡ given (λ (p : Plan). p) (read_plan T) → p ≡ o → {m : List ℕ}
      → Advances (backlog_under p A b out s) r m → Advances (backlog_call T A b out s) r m
  unfolding backlog_call
  table_goes e l q = rw (sym (under_plan (plan_starts T) e l)) q

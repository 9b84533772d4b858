-- A call that is not refused has accepted its forms.
-- Assumes nothing.
use Prim.Native.Nat.{ℕ}
use mathlib.Core.Path.{◌≡◌, sym, ap, ◌∙◌}
use mathlib.Core.List.{List}
use lib.ListN.{length}
use Rattle.kinds.specs.declared.Element.{Element}
use Rattle.octets.specs.Octets.{Bytes}
use Rattle.history.specs.Verdict.{Verdict, done, then}
use Rattle.history.specs.Table.{Plan}
use Rattle.history.specs.Image.{Image, image_bytes, read_image, AcceptedImage}
use Rattle.history.specs.Changes.{Changes, read_list, AcceptedList, applied}
use Rattle.history.specs.Calls.{read_plan, image_call, list_call, difference_under, difference_call, apply_under}
use Rattle.history.specs.Calls.{apply_call, join_under, join_call, write_state_under, write_state_call}
use Rattle.history.proofs.VerdictLaws.{used}
use Rattle.history.proofs.OperationLaws.{result_legal}
use Rattle.history.proofs.ImageLaws.{image_is, Fair, image_reads, image_long}
use Rattle.history.proofs.ListLaws.{list_is}

-- ---- the table

pub record Under (T : List ℕ) : Type 0 where
  pub plan : Plan
  pub reads : read_plan T ≡ done plan

pub table_of : {B : Type 0} (T : List ℕ) (f : Plan → Verdict B) {b : B} → then (read_plan T) f ≡ done b
    → (u : Under T) × (f u.plan ≡ done b)
table_of T f e = let q = used (read_plan T) f e in (record { plan = q.0; reads = q.1 }, q.2)

image_of : {B : Type 0} (p : Plan) (A : List ℕ) → Bytes A → (f : Image → Verdict B) {b : B}
    → then (read_image p A) f ≡ done b → (a : AcceptedImage p A) × (f a.image ≡ done b)
image_of p A h f e =
    let q = used (read_image p A) f e in
    let i = image_is p A h q.1 in
    (record { image = q.0; legal = i.0; reads = q.1; same = i.1 }, q.2)

list_of : {B : Type 0} (p : Plan) (L : List ℕ) → Bytes L → (f : Changes → Verdict B) {b : B}
    → then (read_list p L) f ≡ done b → (l : AcceptedList p L) × (f l.list ≡ done b)
list_of p L h f e =
    let q = used (read_list p L) f e in
    let i = list_is p L h q.1 in
    (record { list = q.0; legal = i.0; reads = q.1; same = i.1 }, q.2)

-- ---- a list applied to an accepted image, under the plan of any table: the result is accepted too, and as long

pub after_list : {p : Plan} → Fair p → {A B : List ℕ} (L : List ℕ) → AcceptedImage p A → Bytes L
    → apply_under p A L ≡ done B → AcceptedImage p B × (length B ≡ length A)
unfolding apply_under
after_list {p} fair {A} {B} L a h e =
    let l = list_of p L h _ (rw a.reads at e) in
    let q = used (applied l.0.list a.image) _ l.1 in
    let legal = result_legal l.0.legal a.legal q.1 in
    let B-is : B ≡ image_bytes p q.0 = cc q.2 in (
      record { image = q.0; legal = legal; reads = ap (read_image p) B-is ∙ image_reads fair legal; same = B-is },
      ap length B-is ∙ image_long legal ∙ sym (ap length a.same ∙ image_long a.legal),
    )

module _ (T : List ℕ) where
  -- a call that is not refused has accepted its table ..
  pub difference_under_lem : (A B : List ℕ) {L : List ℕ} → difference_call T A B ≡ done L → Under T
  unfolding difference_call
  difference_under_lem A B e = (table_of T _ e).0

  pub apply_under_lem : (A L : List ℕ) {B : List ℕ} → apply_call T A L ≡ done B → Under T
  unfolding apply_call
  apply_under_lem A L e = (table_of T _ e).0

  pub write_under : (A : List ℕ) (i : ℕ) (e : Element) (position : ℕ) {B : List ℕ}
      → write_state_call T A i e position ≡ done B → Under T
  unfolding write_state_call
  write_under A i e position q = (table_of T _ q).0

  pub image_under : (A : List ℕ) {a : Image} → image_call T A ≡ done a → Under T
  unfolding image_call
  image_under A e = (table_of T _ e).0

  pub list_under : (L : List ℕ) {l : Changes} → list_call T L ≡ done l → Under T
  unfolding list_call
  list_under L e = (table_of T _ e).0

  pub join_under_lem : (L M : List ℕ) {K : List ℕ} → join_call T L M ≡ done K → Under T
  unfolding join_call
  join_under_lem L M e = (table_of T _ e).0

  -- .. and its other forms
  module _ {p : Plan} (t : read_plan T ≡ done p) where
    pub two_images : (A B : List ℕ) {L : List ℕ} → Bytes A → Bytes B → difference_call T A B ≡ done L
        → AcceptedImage p A × AcceptedImage p B
    unfolding difference_call difference_under
    two_images A B ha hb e =
        let a = image_of p A ha _ (rw t at e) in
        (a.0, (image_of p B hb _ a.1).0)

    pub taken : (A L : List ℕ) {B : List ℕ} → Bytes A → Bytes L → apply_call T A L ≡ done B
        → AcceptedImage p A × AcceptedList p L
    unfolding apply_call apply_under
    taken A L ha hl e =
        let a = image_of p A ha _ (rw t at e) in
        (a.0, (list_of p L hl _ a.1).0)

    pub two_lists : (L M : List ℕ) {K : List ℕ} → Bytes L → Bytes M → join_call T L M ≡ done K
        → AcceptedList p L × AcceptedList p M
    unfolding join_call join_under
    two_lists L M hl hm e =
        let l = list_of p L hl _ (rw t at e) in
        (l.0, (list_of p M hm _ l.1).0)

    -- a list that is applied to an accepted image
    pub list_taken : (A L : List ℕ) {B : List ℕ} → AcceptedImage p A → Bytes L → apply_call T A L ≡ done B
        → AcceptedList p L
    unfolding apply_call apply_under
    list_taken A L a hl e = (list_of p L hl _ (rw (t, a.reads) at e)).0

    pub written_in : (A : List ℕ) (i : ℕ) (e : Element) (position : ℕ) {B : List ℕ} → Bytes A
        → write_state_call T A i e position ≡ done B → AcceptedImage p A
    unfolding write_state_call write_state_under
    written_in A i e position ha q = (image_of p A ha _ (rw t at q)).0

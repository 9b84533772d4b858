-- The laws of change lists, over the bytes of an accepted table, images and lists.
-- Assumes nothing.
use Prim.Native.Nat.{ℕ}
use mathlib.Core.Path.{◌≡◌, sym, ap, ◌∙◌}
use mathlib.Core.List.{List}
use Rattle.octets.specs.Octets.{Bytes}
use Rattle.history.specs.Verdict.{done, then}
use Rattle.history.specs.Table.{Plan}
use Rattle.history.specs.Image.{Image, image_bytes, read_image, LegalImage, AcceptedImage}
use Rattle.history.specs.Changes.{Changes, list_bytes, read_list, LegalList, AcceptedList, difference, applied}
use Rattle.history.specs.Changes.{join, turned}
use Rattle.history.specs.Calls.{read_plan, image_call, list_call, difference_under, difference_call, apply_under}
use Rattle.history.specs.Calls.{apply_call, join_under, join_call, turn_under, turn_call}
use Rattle.history.proofs.VerdictLaws.{used}
use Rattle.history.proofs.OperationLaws.{difference_legal, apply_difference, only_difference, result_legal}
use Rattle.history.proofs.OperationLaws.{join_differences, join_legal, turned_legal, turned_difference}
use Rattle.history.proofs.ImageLaws.{image_is, image_reads}
use Rattle.history.proofs.ListLaws.{list_is, list_reads}
use Rattle.history.proofs.TableLaws.{plan_fair}

module _ (T : List ℕ) {p : Plan} (t : read_plan T ≡ done p) where
  -- what the check of an image or a list accepts is an accepted form, and the other way round
  pub accepted_image : (A : List ℕ) {a : Image} → Bytes A → image_call T A ≡ done a → AcceptedImage p A
  unfolding image_call
  accepted_image A {a} h e =
      let r : read_image p A ≡ done a = rw t at e in
      let i = image_is p A h r in
      record { image = a; legal = i.0; reads = r; same = i.1 }

  pub accepted_list : (L : List ℕ) {l : Changes} → Bytes L → list_call T L ≡ done l → AcceptedList p L
  unfolding list_call
  accepted_list L {l} h e =
      let r : read_list p L ≡ done l = rw t at e in
      let i = list_is p L h r in
      record { list = l; legal = i.0; reads = r; same = i.1 }

  pub image_accepted : {A : List ℕ} (a : AcceptedImage p A) → image_call T A ≡ done a.image
  unfolding image_call
  image_accepted a = rw t a.reads

  pub list_accepted : {L : List ℕ} (l : AcceptedList p L) → list_call T L ≡ done l.list
  unfolding list_call
  list_accepted l = rw t l.reads

  -- what is legal is accepted when written
  abbrev pub legal_image : {A : List ℕ} {a : Image} → LegalImage p a → A ≡ image_bytes p a → AcceptedImage p A
  legal_image {A} {a} h e =
      record { image = a; legal = h; reads = ap (read_image p) e ∙ image_reads (plan_fair T t) h; same = e }

  abbrev pub legal_list : {L : List ℕ} {l : Changes} → LegalList p l → L ≡ list_bytes p l → AcceptedList p L
  legal_list {L} {l} h e =
      record { list = l; legal = h; reads = ap (read_list p) e ∙ list_reads (plan_fair T t) h; same = e }

  -- ---- what each call gives, once its forms are accepted

  pub difference_is : {A B : List ℕ} (a : AcceptedImage p A) (b : AcceptedImage p B)
      → difference_call T A B ≡ done (list_bytes p (difference a.image b.image))
  unfolding difference_call difference_under
  difference_is a b = rw (t, a.reads, b.reads)

  pub apply_is : {A L : List ℕ} (a : AcceptedImage p A) (l : AcceptedList p L)
      → apply_call T A L ≡ then (applied l.list a.image) (λ b. done (image_bytes p b))
  unfolding apply_call apply_under
  apply_is a l = rw (t, a.reads, l.reads)

  pub join_is : {L M : List ℕ} (l : AcceptedList p L) (m : AcceptedList p M)
      → join_call T L M ≡ then (join l.list m.list) (λ k. done (list_bytes p k))
  unfolding join_call join_under
  join_is l m = rw (t, l.reads, m.reads)

  pub turn_is : {L : List ℕ} (l : AcceptedList p L) → turn_call T L ≡ done (list_bytes p (turned l.list))
  unfolding turn_call turn_under
  turn_is l = rw (t, l.reads)

  -- ---- answers are accepted again

  pub difference_list : {A B L : List ℕ} (a : AcceptedImage p A) (b : AcceptedImage p B)
      → difference_call T A B ≡ done L
      → AcceptedList p L
  difference_list {L = L} a b e =
      let L-is : L ≡ list_bytes p (difference a.image b.image) = cc (difference_is a b) in
      legal_list (difference_legal a.legal b.legal) L-is

  pub applied_image : {A B L : List ℕ} (a : AcceptedImage p A) (l : AcceptedList p L) → apply_call T A L ≡ done B
      → (b : AcceptedImage p B) × (applied l.list a.image ≡ done b.image)
  applied_image {B = B} a l e =
      let q = used (applied l.list a.image) (λ b. done (image_bytes p b)) (sym (apply_is a l) ∙ e) in
      let B-is : B ≡ image_bytes p q.0 = cc q.2 in
      (legal_image (result_legal l.legal a.legal q.1) B-is, q.1)

  pub joined_list : {L M K : List ℕ} (l : AcceptedList p L) (m : AcceptedList p M) → join_call T L M ≡ done K
      → (k : AcceptedList p K) × (join l.list m.list ≡ done k.list)
  joined_list {K = K} l m e =
      let q = used (join l.list m.list) (λ k. done (list_bytes p k)) (sym (join_is l m) ∙ e) in
      let K-is : K ≡ list_bytes p q.0 = cc q.2 in
      (legal_list (join_legal l.legal m.legal q.1) K-is, q.1)

  pub turned_list : {L K : List ℕ} (l : AcceptedList p L) → turn_call T L ≡ done K → AcceptedList p K
  turned_list {K = K} l e =
      let K-is : K ≡ list_bytes p (turned l.list) = cc (turn_is l) in
      legal_list (turned_legal l.legal) K-is

  -- ---- demand 3

  -- the list from A to B turns A into B, if both have the same version
  pub difference_applies : {A B L : List ℕ} (a : AcceptedImage p A) (b : AcceptedImage p B)
      → a.image.version ≡ b.image.version → difference_call T A B ≡ done L → apply_call T A L ≡ done B
  difference_applies {A} {B} {L} a b v e =
      let L-is : L ≡ list_bytes p (difference a.image b.image) = cc (difference_is a b) in
      let l = legal_list (difference_legal a.legal b.legal) L-is in
      apply_is a l ∙ rw (apply_difference a.legal b.legal v, b.same)

  -- .. and is the only accepted list that does
  pub only_difference_applies : {A B L : List ℕ} → AcceptedImage p A → AcceptedList p L → apply_call T A L ≡ done B
      → difference_call T A B ≡ done L
  only_difference_applies a l e =
      let q = applied_image a l e in
      difference_is a q.0
      ∙ ap done (ap (list_bytes p) (sym (only_difference l.legal a.legal q.1)) ∙ sym l.same)

  -- the list from A to B joined with the list from B to C is the list from A to C
  pub differences_join : {A B C L M : List ℕ} → AcceptedImage p A → AcceptedImage p B → AcceptedImage p C
      → difference_call T A B ≡ done L → difference_call T B C ≡ done M
      → join_call T L M ≡ difference_call T A C
  differences_join {L = L} {M = M} a b c e g =
      let L-is : L ≡ list_bytes p (difference a.image b.image) = cc (difference_is a b) in
      let M-is : M ≡ list_bytes p (difference b.image c.image) = cc (difference_is b c) in
      let l = legal_list (difference_legal a.legal b.legal) L-is in
      let m = legal_list (difference_legal b.legal c.legal) M-is in
      join_is l m ∙ rw (join_differences a.legal b.legal c.legal) (sym (difference_is a c))

  -- turned back, it is the list from B to A
  pub difference_turned : {A B L : List ℕ} → AcceptedImage p A → AcceptedImage p B → difference_call T A B ≡ done L
      → turn_call T L ≡ difference_call T B A
  difference_turned {L = L} a b e =
      let L-is : L ≡ list_bytes p (difference a.image b.image) = cc (difference_is a b) in
      turn_is (legal_list (difference_legal a.legal b.legal) L-is)
      ∙ rw (turned_difference a.image b.image) (sym (difference_is b a))

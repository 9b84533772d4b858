-- Two outcomes of one request are equal: a view, its count, the numbers, and the part that a label request gives. Of a
-- part: where it points and the bytes there (and so how many), which is all that a program can see of it.
-- Assumes nothing.
use Prim.Native.Nat.{ℕ}
use mathlib.Core.Path.{◌≡◌}
use mathlib.Core.List.{List}
use denote.Ref.{Bor}
use Rattle.history.specs.declared.Answer.{Answer}
use Rattle.history.specs.Calls.{table_call, Place, label_call}
use Rattle.history.proofs.OneOutcome.{one_outcome, Tells}
use Rattle.view.specs.declared.TableView.{TableView}
use Rattle.view.specs.Parts.{count_of, given_place, Part}

-- a place has one part
one_part : {s r r' : Bor (List ℕ)} {p : Place} → Part s r p → Part s r' p → (r.ref_ptr ≡ r'.ref_ptr) × (r.now ≡ r'.now)
one_part p q = (one_outcome p.place q.place, one_outcome p.bytes q.bytes)

module _ (T : Bor (List ℕ)) where
  abbrev pub Opens : TableView → Type 0
  Opens r = (r.table ≡ T) × (r.count ≡ count_of (table_call T.now))

  pub one_view : {r r' : TableView} → Opens r → Opens r' → r ≡ r'
  one_view p q = λ i. record { table = one_outcome p.0 q.0 i; count = one_outcome p.1 q.1 i }

  pub one_count : {n n' : ℕ} → n ≡ count_of (table_call T.now) → n' ≡ count_of (table_call T.now) → n ≡ n'
  one_count = one_outcome

  pub one_view_answer : {r r' : Answer} → Tells (table_call T.now) r → Tells (table_call T.now) r' → r ≡ r'
  one_view_answer = one_outcome

  -- `label` of a view of T, `table_label` and `label_part` of T
  pub one_label : (i : ℕ) {r r' : Bor (List ℕ)} → Part T r (given_place (label_call T.now i))
      → Part T r' (given_place (label_call T.now i)) → (r.ref_ptr ≡ r'.ref_ptr) × (r.now ≡ r'.now)
  one_label i = one_part

  pub one_label_answer : (i : ℕ) {r r' : Answer} → Tells (label_call T.now i) r
      → Tells (label_call T.now i) r' → r ≡ r'
  one_label_answer i = one_outcome

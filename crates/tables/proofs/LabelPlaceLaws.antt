-- A label's place, found from the entries' places, is the one that `history` defines; each answer to a label request;
-- and the bytes that it names.
-- Assumes nothing.
use Prim.Native.Nat.{ℕ, zero, suc, ◌+◌, ◌≤◌, ◌<◌}
use native.Mathlib.Omega.{arith}
use native.Mathlib.Nat.{eq-or-lt_of_le, le_of_suc-le-suc}
use mathlib.Core.Path.{◌≡◌, refl, sym, ap, ◌∙◌}
use mathlib.Core.Bool.{true, false}
use mathlib.Core.List.{List, [], ◌∷◌, ◌++◌}
use mathlib.Core.Logic.{⊎_elim}
use Rattle.std.specs.Prelude.{Result, Ok, Err}
use lib.Dec.{ltb}
use lib.ListN.{length, get_or, take, length-append, get_or-append}
use lib.Seq.{take_all, take-append-le, get_or-append_seam}
use borrow.Author.Tests.{lt-ltb, le-ltb}
use Rattle.octets.specs.Octets.{Bytes}
use Rattle.history.specs.declared.Answer.{Answer}
use Rattle.history.specs.Verdict.{naming, Verdict, refused, done, refusal_at, ◌unless◌⨾◌, numbers, told, checked}
use Rattle.history.proofs.OutputLaws.{first_given}
use Rattle.history.specs.Table.{Object, Table, object, objects_bytes}
use Rattle.history.specs.Calls.{table_call, Place, label_place, label_call}
use Rattle.history.proofs.LabelLaws.{LabelIs, label_is}
use Rattle.history.proofs.TableLaws.{nobody}
use Rattle.tables.specs.declared.place.LabelAt.{LabelAt}
use Rattle.heads.specs.Heads.{count_in, objects_place}
use Rattle.heads.proofs.Places.{label_from}
use Rattle.tables.specs.Places.{place_of}
use Rattle.tables.specs.LabelPlaces.{label_at, label_told, LabelFound}
use Rattle.tables.proofs.EntryLaws.{GoodEntry}
use Rattle.tables.proofs.PlaceLaws.{object_of, objects_below, length_below}
use Rattle.tables.proofs.RepeatLaws.{part_length}
use Rattle.tables.proofs.TableLaws.{Accepted, accepted, table_of}

-- ---- the objects by their places

module _ (b : List ℕ) where
  take_below : (n i : ℕ) → i ≤ n → take i (objects_below b n) ≡ objects_below b i
  take_below zero zero h = refl
  take_below zero (suc i) h = absurd (omega arith)
  take_below (suc n) i h =
      ⊎_elim
      (λ e. ap (λ (k : ℕ). take k (objects_below b (suc n))) e
      ∙ take_all (suc n) (objects_below b (suc n)) (omega (arith, length_below b (suc n)))
      ∙ ap (objects_below b) (sym e))
      (λ l. take-append-le i (objects_below b n) (object_of b n ∷ []) (omega (arith, length_below b n))
      ∙ take_below n i (omega arith))
      (eq-or-lt_of_le h)

  at_below : (n i : ℕ) → i < n → get_or (objects_below b n) i nobody ≡ object_of b i
  at_below zero i h = absurd (omega arith)
  at_below (suc n) i h =
      ⊎_elim
      (λ e. let l : i ≡ length (objects_below b n) = omega (arith, length_below b n) in
      ap (λ (k : ℕ). get_or (objects_below b (suc n)) k nobody) l
      ∙ get_or-append_seam (objects_below b n) (object_of b n) [] nobody ∙ ap (object_of b) (sym e))
      (λ l. get_or-append (objects_below b n) (object_of b n ∷ []) nobody i (omega (arith, length_below b n))
      ∙ at_below n i l)
      (eq-or-lt_of_le (le_of_suc-le-suc h))

bytes_snoc : (os : List Object) (o : Object)
    → length (objects_bytes (os ++ (o ∷ []))) ≡ length (objects_bytes os) + (2 + length o.label)
bytes_snoc [] o = simp length-append (omega arith)
bytes_snoc (p ∷ os) o = simp length-append (omega (arith, bytes_snoc os o))

-- an entry begins where the entries before it end, when written
place_is : (b : List ℕ) (i : ℕ) → ((k : ℕ) → k < i → GoodEntry b (place_of b k))
    → objects_place + length (objects_bytes (objects_below b i)) ≡ place_of b i
unfolding place_of
place_is b zero h = omega arith
place_is b (suc i) h =
    let p : ℕ = place_of b i in
    let g = h i (omega arith) in
    let l = part_length b (p + 2) (get_or b (p + 1) 0) (omega (arith, g.all)) in
    omega (arith, bytes_snoc (objects_below b i) (object_of b i), place_is b i (λ k m. h k (omega arith)))

-- object i of an accepted table, and its label's place, from the place of its entry
pub object_is : (b : List ℕ) {t : Table} → Accepted b t → (i : ℕ) → i < count_in b → object t i ≡ object_of b i
object_is b a i h = ap (λ (os : List Object). get_or os i nobody) a.objects ∙ at_below b (count_in b) i h

label_place_is : (b : List ℕ) {t : Table} → Accepted b t → (i : ℕ) → i < count_in b
    → label_place t i ≡ record { offset = place_of b i + 2; size = get_or b (place_of b i + 1) 0 }
label_place_is b {t} a i h =
    let p : ℕ = place_of b i in
    let front : take i t.objects ≡ objects_below b i =
    ap (take i) a.objects ∙ take_below b (count_in b) i (omega arith) in
    let there : objects_place + length (objects_bytes (objects_below b i)) ≡ p =
    place_is b i (λ k m. a.each k (omega arith)) in
    let offset : objects_place + (length (objects_bytes (take i t.objects)) + 2) ≡ p + 2 =
    omega (arith, ap (λ (os : List Object). length (objects_bytes os)) front) in
    let size : length (object t i).label ≡ get_or b (p + 1) 0 =
    ap (λ (o : Object). length o.label) (object_is b a i h)
    ∙ part_length b (p + 2) (get_or b (p + 1) 0) (omega (arith, (a.each i h).all)) in
    label_from t i ∙ (λ j. record { offset = offset j; size = size j })

-- ---- each answer

pub label_table : (b : List ℕ) (i : ℕ) {a : Answer} → Err a ≡ checked (table_call b) → {r : Result LabelAt Answer}
    → r ≡ Err a → LabelFound b i r
unfolding label_call table_call label_told
label_table b i e r-is =
    rw r-is (record { whole = first_given (table_call b) (λ (t : Table). tt) _ label_at e; inside = tt })

module _ (b : List ℕ) (i : ℕ) (z : Ok tt ≡ checked (table_call b)) where
  call_is : label_call b i
      ≡ (refusal_at 13 i unless ltb i (length (table_of b z).0.objects) ⨾ done (label_place (table_of b z).0 i))
  unfolding label_call table_call
  call_is = rw (table_of b z).1

  pub label_none : count_in b ≤ i → (c : Answer) → c ≡ numbers (naming 13 i 255) 0 → LabelFound b i (Err c)
  unfolding label_told
  label_none h c c-is =
      let t = table_of b z in
      let many : ltb i (length t.0.objects) ≡ false =
      le-ltb i (length t.0.objects) (omega (arith, (accepted b t.1).count)) in
      let call : label_call b i ≡ refusal_at 13 i = call_is ∙ rw many in
      rw c-is (record { whole = sym (ap label_told call); inside = tt })

  call_found : i < count_in b → label_call b i ≡ done (label_place (table_of b z).0 i)
  call_found h =
      let few : ltb i (length (table_of b z).0.objects) ≡ true =
      lt-ltb i (length (table_of b z).0.objects) (omega (arith, (accepted b (table_of b z).1).count)) in
      call_is ∙ rw few

  pub label_found : i < count_in b → (at : ℕ) → at ≡ place_of b i → (n : ℕ) → n ≡ get_or b (at + 1) 0
      → LabelFound b i (Ok (record { offset = at + 2; size = n }))
  unfolding label_told
  label_found h at at-is n n-is =
      let t = table_of b z in
      let acc = accepted b t.1 in
      let size : n ≡ get_or b (place_of b i + 1) 0 = n-is ∙ ap (λ (p : ℕ). get_or b (p + 1) 0) at-is in
      let place : record { offset = at + 2; size = n } ≡ label_place t.0 i =
      (λ j. record { offset = at-is j + 2; size = size j }) ∙ sym (label_place_is b acc i h) in
      let call : label_call b i ≡ done (record { offset = at + 2; size = n }) = call_found h ∙ ap done (sym place) in
      record { whole = sym (ap label_told call); inside = omega (arith, (acc.each i h).all) }

-- ---- what a caller relies on

label_refused : (v : Verdict Place) → ((told v).code ≡ 0 → ⊥) → label_told v ≡ Err (told v)
unfolding label_told told
label_refused (refused x) n = refl
label_refused (done p) n = absurd (n refl)

label_done : (v : Verdict Place) (l : LabelAt) → Ok l ≡ label_told v
    → v ≡ done (record { offset = l.offset; size = l.size })
unfolding label_told
label_done (refused x) l e = absurd (let z : ◌≡◌ {A = ℕ} 0 1 = cc in omega arith)
label_done (done p) l e =
    let q : l ≡ label_at p = cc in
    ap (λ (l : LabelAt). done (record { offset = l.offset; size = l.size })) (sym q)

module _ {b : List ℕ} {i : ℕ} {r : Result LabelAt Answer} (l : LabelFound b i r) where
  -- refused: the request's numbers, and no bytes
  pub label_empty : ((told (label_call b i)).code ≡ 0 → ⊥) → r ≡ Err (told (label_call b i))
  label_empty n = l.whole ∙ label_refused (label_call b i) n

  -- accepted: the bytes are the object's label
  pub label_bytes : {at : LabelAt} → r ≡ Ok at → Bytes b → LabelIs b i (record { offset = at.offset; size = at.size })
  label_bytes {at} e h = label_is b h i (label_done (label_call b i) at (sym e ∙ l.whole))

-- A label request gives the place of the object's very label in the table's bytes.
-- Assumes nothing.
use Prim.Native.Nat.{ℕ, zero, suc, ◌+◌, ◌≤◌, ◌<◌}
use native.Mathlib.Omega.{arith}
use mathlib.Core.Path.{◌≡◌, refl, sym, ap, ◌∙◌}
use mathlib.Core.Bool.{Bool, true, false}
use mathlib.Core.List.{List, [], ◌∷◌, ◌++◌}
use lib.Dec.{leb, ltb}
use lib.ListN.{length, take, drop, get_or, length-append, length-drop}
use lib.Seq.{drop-drop, take_all, take-append_seam, drop-append-add}
use borrow.Author.Tests.{lt-ltb, ltb-true, leb-true, leb-false}
use Rattle.octets.specs.Octets.{bytes, Bytes}
use Rattle.history.specs.Verdict.{done}
use Rattle.history.specs.Form.{form_bytes}
use Rattle.history.specs.Table.{Object, Table, printable, first_colon, label_good, object, object_bytes}
use Rattle.history.specs.Table.{objects_bytes, table_bytes, read_table}
use Rattle.history.specs.Calls.{Place, label_place, label_call}
use Rattle.history.proofs.VerdictLaws.{left, right, held, used}
use Rattle.history.proofs.TableLaws.{table_is}

-- what is left after the first i entries is object i's entry, then the rest
entries_from : (os : List Object) (i : ℕ) → i < length os
    → drop (length (objects_bytes (take i os))) (objects_bytes os)
    ≡ object_bytes (get_or os i (record { type = 0; label = [] })) ++ objects_bytes (drop (suc i) os)
entries_from [] i h = absurd (omega arith)
entries_from (o ∷ os) zero h = refl
entries_from (o ∷ os) (suc i) h =
    let a : List ℕ = object_bytes o in
    let n : ℕ = length (objects_bytes (take i os)) in
    ap (λ (m : ℕ). drop m (a ++ objects_bytes os)) (length-append a (objects_bytes (take i os)))
    ∙ drop-append-add a (objects_bytes os) n ∙ entries_from os i (omega arith)

after_nine : (t : Table) → drop 9 (table_bytes t) ≡ objects_bytes t.objects
unfolding table_bytes form_bytes bytes
after_nine t = refl

label_at : (t : Table) (i : ℕ) → i < length t.objects
    → take (label_place t i).size (drop (label_place t i).offset (table_bytes t)) ≡ (object t i).label
label_at t i h =
    let n : ℕ = length (objects_bytes (take i t.objects)) in
    let l : List ℕ = (object t i).label in
    let rest : List ℕ = objects_bytes (drop (suc i) t.objects) in
    let there : drop (9 + (n + 2)) (table_bytes t) ≡ l ++ rest =
    sym (drop-drop (n + 2) 9 (table_bytes t)) ∙ ap (drop (n + 2)) (after_nine t)
    ∙ sym (drop-drop 2 n (objects_bytes t.objects)) ∙ ap (drop 2) (entries_from t.objects i h) in
    ap (take (length l)) there ∙ take-append_seam l rest

-- what an accepted label request gives: the part is the object's label in the table that the bytes are read as, has at
-- least three bytes (so an empty part tells a refusal), and lies inside
pub record LabelIs (T : List ℕ) (i : ℕ) (q : Place) : Type 0 where
  pub table : Table
  pub reads : read_table T ≡ done table
  pub below : i < length table.objects
  pub label : take q.size (drop q.offset T) ≡ (object table i).label
  pub some : 3 ≤ q.size
  pub inside : q.offset + q.size ≤ length T

three_bytes : (l : List ℕ) → label_good l ≡ true → 3 ≤ length l
unfolding label_good
three_bytes l h =
    let colon = right (printable l) _ h in
    let first : 1 ≤ first_colon l = leb-true _ _ (left (leb 1 (first_colon l)) _ colon) in
    let last : first_colon l + 1 < length l = ltb-true _ _ (right (leb 1 (first_colon l)) _ colon) in
    omega arith

inside : (l T : List ℕ) (n : ℕ) → take (length l) (drop n T) ≡ l → 3 ≤ length l → n + length l ≤ length T
inside l T n e h = go (leb (length l) (length (drop n T))) refl
  where
    go : (u : Bool) → leb (length l) (length (drop n T)) ≡ u → n + length l ≤ length T
    go true q =
        let room : length l ≤ length (drop n T) = leb-true _ _ q in
        omega (arith, length-drop n T)
    go false q =
        let short : length (drop n T) < length l = leb-false _ _ q in
        absurd (omega (arith, ap length e, ap length (take_all (length l) (drop n T) (omega arith))))

pub label_is : (T : List ℕ) → Bytes T → (i : ℕ) {q : Place} → label_call T i ≡ done q → LabelIs T i q
unfolding label_call
label_is T h i {q} e =
    let u = used (read_table T) _ e in
    let t = u.0 in
    let v = held (ltb i (length t.objects)) _ _ u.2 in
    let l = ltb-true i (length t.objects) v.0 in
    let q-is : q ≡ label_place t i = cc v.1 in
    let r = table_is T u.1 in
    let part : take (label_place t i).size (drop (label_place t i).offset T) ≡ (object t i).label =
    ap (λ (b : List ℕ). take (label_place t i).size (drop (label_place t i).offset b)) (r.same h) ∙ label_at t i l in
    let some = three_bytes (object t i).label (r.legal.each i l).good in
    rw q-is (record {
      table = t;
      reads = u.1;
      below = l;
      label = part;
      some = some;
      inside = inside (object t i).label T (label_place t i).offset part some;
    })

-- a request for any object of an accepted table succeeds
pub label_given : (T : List ℕ) (i : ℕ) {t : Table} → read_table T ≡ done t → i < length t.objects
    → label_call T i ≡ done (label_place t i)
unfolding label_call
label_given T i {t} e h = rw (e, lt-ltb i (length t.objects) h)

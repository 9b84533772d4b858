-- What is refused because of catalogues, over the calls: 3 exactly where a table's catalogue is not carried; 9 exactly
-- where a form's is not the table's; 22 exactly where a state is not of its object's kind. For a state that was read
-- from an object of the same type, that is exactly where the type is 1 and the catalogues differ.
-- Assumes nothing.
use Prim.Native.Nat.{ℕ, zero, suc, ◌+◌, ◌<◌, ◌≤◌}
use native.Mathlib.Omega.{arith}
use mathlib.Core.Path.{◌≡◌, refl, sym, ap, ◌∙◌}
use mathlib.Core.Bool.{Bool, true, false, false≢true, not, ◌||◌}
use mathlib.Core.List.{List, [], ◌∷◌, map}
use mathlib.Core.Logic.Iff
use mathlib.Core.Logic.{◌↔◌, ◌⊎◌, inl, inr, ⊎_elim}
use lib.ListN.{length, get_or, take, drop, length-map}
use lib.Dec.{eqb, leb, ltb}
use borrow.Author.Tests.{lt-ltb, eqb-true, eq-eqb, ne_eqb}
use Rattle.octets.specs.Octets.{number}
use Rattle.kinds.specs.Kinds.{kind_in}
use Rattle.rows.specs.declared.Refusal.{Refusal}
use Rattle.kinds.specs.declared.Kind.{Kind}
use Rattle.kinds.specs.declared.Element.{Element}
use Rattle.elements.specs.Elements.{carried, kind_of, same_kind, word_of}
use Rattle.elements.proofs.Findings.{Refuses, reserved, unlisted, silent}
use Rattle.elements.proofs.Annex.{one_kind}
use Rattle.history.specs.Verdict.{Refused, done, then, refusal, refusal_at, ◌unless◌⨾◌}
use Rattle.history.specs.Form.{Form, read_form}
use Rattle.history.specs.Table.{Object, Table, object, version_good, catalogue_good, read_objects, read_table, Plan}
use Rattle.history.specs.Table.{plan_of, kind_at, same_catalogue}
use Rattle.history.specs.Image.{Image, image_version_good, element, found_in, ◌of◌⨾◌, widths, read_words}
use Rattle.history.specs.Image.{elements_from, read_image}
use Rattle.history.specs.Changes.{Changes, read_entries, list_version, read_list}
use Rattle.history.specs.Calls.{read_plan, table_call, image_call, list_call, read_state_call, check_state}
use Rattle.history.specs.Calls.{write_state_under, write_state_call}
use Rattle.history.proofs.VerdictLaws.{left, right, either, refuted, past, stopped, passed_up}
use Rattle.history.proofs.TableLaws.{table_is}
use Rattle.history.proofs.ElementLaws.{same_kind_lem, is_same_kind, refuses_as}
use Rattle.history.proofs.ImageLaws.{same_catalogue_lem}
use Rattle.history.proofs.NameLaws.{objects, its_numbers, one_of, Named, accepts, refuses, named_unless, named_of}
use Rattle.history.proofs.NameLaws.{named_then, objects_named, words_named, entries_named, read_object}

-- ---- 3

-- 1.0 or 3.0
abbrev pub CarriedCatalogue : ℕ → ℕ → Type 0
CarriedCatalogue x y = ((x ≡ 1) ⊎ (x ≡ 3)) × (y ≡ 0)

pub catalogue_carried : (x y : ℕ) → CarriedCatalogue x y → catalogue_good x y ≡ true
unfolding catalogue_good
catalogue_carried x y c = rw c.1 (⊎_elim (λ q. rw q refl) (λ q. rw q refl) c.0)

pub catalogue_is : (x y : ℕ) → catalogue_good x y ≡ true → CarriedCatalogue x y
unfolding catalogue_good
catalogue_is x y e = (
  ⊎_elim (λ q. inl (eqb-true x 1 q)) (λ q. inr (eqb-true x 3 q))
      (either (eqb x 1) (eqb x 3) (left (eqb x 1 || eqb x 3) (eqb y 0) e)),
  eqb-true y 0 (right (eqb x 1 || eqb x 3) (eqb y 0) e),
)

-- nothing after the test of the catalogue is refused with 3
not_three : (f : Form) (g : List Object → Table) → Named (λ r. r.code ≡ 3 → ⊥)
    (refusal 4 unless leb (number (take 2 f.contents)) 1024 ⨾
    then (read_objects f.version f.x [] (number (take 2 f.contents)) (drop 2 f.contents)) λ os.
    done (g os))
not_three f g =
    named_unless (leb (number (take 2 f.contents)) 1024) _ _ (λ q. refuses (λ c. omega arith)) λ q.
    named_then (read_objects f.version f.x [] (number (take 2 f.contents)) (drop 2 f.contents)) _
    (objects_named (number (take 2 f.contents)) (λ code i h l c. false≢true (sym (ap (one_of objects) c) ∙ h))
    (λ c. omega arith) f.version f.x [] (number (take 2 f.contents)) (drop 2 f.contents) (omega arith))
    λ os q. accepts

pub catalogue_exactly : (T : List ℕ) {f : Form} → read_form 5 version_good T ≡ done f
    → (table_call T ≡ refusal 3) ↔ (CarriedCatalogue f.x f.y → ⊥)
unfolding table_call read_table
catalogue_exactly T {f} e = (
  (λ r c. false≢true
      (sym (stopped (catalogue_good f.x f.y) _ _ (λ q. (not_three f _).names q refl) (rw e at r))
      ∙ catalogue_carried f.x f.y c)),
  (λ n. rw (e, refuted (catalogue_good f.x f.y) (λ q. n (catalogue_is f.x f.y q)))),
)

-- ---- a table's plan

-- an object's kind depends on its type and the table's X
kind_of_object : (x : ℕ) (os : List Object) (i : ℕ) (o : Object) → i < length os
    → kind_at (map (λ (o : Object). kind_of x o.type) os) i ≡ kind_of x (get_or os i o).type
kind_of_object x [] i o l = absurd (omega arith)
kind_of_object x (p ∷ os) zero o l = refl
kind_of_object x (p ∷ os) (suc i) o l = kind_of_object x os i o (omega arith)

-- what the plan of an accepted table takes from it
record Planned (T : List ℕ) (t : Table) : Type 0 where
  reads : read_plan T ≡ done (plan_of t)
  x : (plan_of t).x ≡ t.x
  y : (plan_of t).y ≡ t.y
  count : length (plan_of t).kinds ≡ length t.objects
  kind : (i : ℕ) → i < length t.objects → kind_at (plan_of t).kinds i ≡ kind_of t.x (object t i).type
  type : (i : ℕ) → i < length t.objects → carried t.x (object t i).type ≡ true

planned : (T : List ℕ) {t : Table} → table_call T ≡ done t → Planned T t
unfolding table_call read_plan plan_of
planned T {t} e = record {
  reads = rw e;
  x = refl;
  y = refl;
  count = length-map t.objects _;
  kind = λ i l. kind_of_object t.x t.objects i _ l;
  type = λ i l. ((table_is T e).legal.each i l).type;
}

-- ---- 9

-- an element's own codes
pub element_codes : {k : Kind} {code bit : ℕ} → Refuses k code bit → (10 ≤ code) × (code ≤ 12)
element_codes (reserved r h) = omega arith
element_codes (unlisted r h) = omega arith
element_codes (silent h) = omega arith

abbrev Not9 : Refused → Type 0
Not9 r = r.code ≡ 9 → ⊥

field_not_9 : (ks : List Kind) (f : Refusal) (i : ℕ) → i < length ks → Refuses (kind_at ks i) f.code f.bit
    → Not9 (found_in f i)
field_not_9 ks f i l r c = omega (arith, element_codes r)

-- the catalogue is the table's
abbrev pub OfTable : Form → Table → Type 0
OfTable f t = (f.x ≡ t.x) × (f.y ≡ t.y)

module _ (T : List ℕ) {t : Table} (rt : table_call T ≡ done t) where
  same_form : (f : Form) → OfTable f t → same_catalogue f (plan_of t) ≡ true
  same_form f c =
      rw (
        eq-eqb f.x (plan_of t).x (c.0 ∙ sym (planned T rt).x),
        eq-eqb f.y (plan_of t).y (c.1 ∙ sym (planned T rt).y),
      )

  other_form : (f : Form) → (OfTable f t → ⊥) → same_catalogue f (plan_of t) ≡ false
  other_form f n =
      refuted (same_catalogue f (plan_of t))
      (λ q. let s = same_catalogue_lem f (plan_of t) q in n (s.0 ∙ (planned T rt).x, s.1 ∙ (planned T rt).y))

  pub other_image : (A : List ℕ) {f : Form} → read_form 7 image_version_good A ≡ done f
      → (image_call T A ≡ refusal 9) ↔ (OfTable f t → ⊥)
  unfolding image_call read_image
  other_image A {f} e = (
    (λ r c. false≢true
        (sym (stopped (same_catalogue f p) _ _ (λ q. rest.names q refl) (rw ((planned T rt).reads, e) at r))
        ∙ same_form f c)),
    (λ n. rw ((planned T rt).reads, e, other_form f n)),
  )
    where
      p : Plan
      p = plan_of t

      rest : Named Not9 {A = Image}
          (refusal 8 unless eqb (length f.contents) (elements_from f.version + widths p.kinds) ⨾
          then (read_words 0 p.kinds (drop (elements_from f.version) f.contents)) λ ws. done
          (record { version = f.version; position = number (take 4 f.contents); words = ws }))
      rest =
          named_unless (eqb (length f.contents) (elements_from f.version + widths p.kinds)) _ _
          (λ f. refuses (λ c. omega arith)) λ t.
          named_then (read_words 0 p.kinds (drop (elements_from f.version) f.contents)) _
          (words_named p.kinds (field_not_9 p.kinds) 0 p.kinds _ refl) λ ws q. accepts

  pub other_list : (L : List ℕ) {f : Form} → read_form 13 (eqb list_version) L ≡ done f
      → (list_call T L ≡ refusal 9) ↔ (OfTable f t → ⊥)
  unfolding list_call read_list
  other_list L {f} e = (
    (λ r c. false≢true
        (sym (stopped (same_catalogue f p) _ _ (λ q. rest.names q refl) (rw ((planned T rt).reads, e) at r))
        ∙ same_form f c)),
    (λ n. rw ((planned T rt).reads, e, other_form f n)),
  )
    where
      p : Plan
      p = plan_of t

      n : ℕ
      n = number (take 2 (drop 8 f.contents))

      -- an entry's other codes are 8, 13, 14 and 15; which numbers the call was given doesn't matter
      rest : Named Not9 {A = Changes}
          (then (read_entries p.kinds 0 n (drop 10 f.contents)) λ cs. done
          (record { from = number (take 4 f.contents); to = number (take 4 (drop 4 f.contents)); each = cs }))
      rest = named_then (read_entries p.kinds 0 n (drop 10 f.contents)) _
          (entries_named p.kinds (λ i. i ≡ i) (λ c. omega arith) (λ i g l c. omega arith)
          (λ code i h g l c. false≢true (sym (ap (one_of its_numbers) c) ∙ h)) (field_not_9 p.kinds) 0 n
          (drop 10 f.contents) λ i s. refl)
          λ cs q. accepts

-- ---- 22

module _ (T A : List ℕ) {p : Plan} {a : Image} (t : read_plan T ≡ done p) (ea : image_call T A ≡ done a) (i : ℕ)
    (e : Element) (position : ℕ) where
  not_22 : Named (λ r. r.code ≡ 22 → ⊥) (element (kind_at p.kinds i) (word_of e) of i ⨾ done (word_of e))
  not_22 =
      named_of (element (kind_at p.kinds i) (word_of e)) i _
      (λ x q c. omega (arith, element_codes (refuses_as (kind_at p.kinds i) (word_of e) q))) accepts

  pub kind_exactly : i < length p.kinds
      → (write_state_call T A i e position ≡ refusal_at 22 i) ↔ (kind_in e ≡ kind_at p.kinds i → ⊥)
  unfolding image_call write_state_call write_state_under check_state
  kind_exactly l = (
    (λ r s.
        let q =
        past (ltb i (length p.kinds)) _ _ (λ z. omega arith)
        (passed_up (check_state p.kinds i e) _ (rw (t, rw t at ea) at r)) in
        false≢true (sym (stopped (same_kind (kind_in e) (kind_at p.kinds i)) _ _ (λ q. not_22.names q refl) q.1)
        ∙ is_same_kind (kind_in e) (kind_at p.kinds i) s)),
    (λ n. rw (
      t,
      rw t at ea,
      lt-ltb i (length p.kinds) l,
      refuted (same_kind (kind_in e) (kind_at p.kinds i)) (λ q. n (same_kind_lem (kind_in e) (kind_at p.kinds i) q)),
    )),
  )

-- a type has different kinds under x and y exactly where it is 1 and x and y differ
kinds_differ : (x y type : ℕ) → carried x type ≡ true → carried y type ≡ true
    → (kind_of x type ≡ kind_of y type → ⊥) ↔ ((type ≡ 1) × (x ≡ y → ⊥))
kinds_differ x y type cx cy = (
  (λ n. apart (eqb x y) (eqb type 1) refl refl
      (sym (one_kind x y type cx cy)
      ∙ refuted (same_kind (kind_of x type) (kind_of y type))
      (λ q. n (same_kind_lem (kind_of x type) (kind_of y type) q)))),
  (λ d s. false≢true (sym (differ d.0 d.1) ∙ is_same_kind (kind_of x type) (kind_of y type) s)),
)
  where
    apart : (a b : Bool) → eqb x y ≡ a → eqb type 1 ≡ b → (a || not b) ≡ false → (type ≡ 1) × (x ≡ y → ⊥)
    apart true b p q e = absurd (false≢true (sym e))
    apart false true p q e = (eqb-true type 1 q, (λ s. false≢true (sym p ∙ eq-eqb x y s)))
    apart false false p q e = absurd (false≢true (sym e))

    differ : type ≡ 1 → (x ≡ y → ⊥) → same_kind (kind_of x type) (kind_of y type) ≡ false
    differ p n = one_kind x y type cx cy ∙ rw (ne_eqb x y n, eq-eqb type 1 p)

-- a state that is read has the kind of its object's type under the table's X
pub read_by_type : (T A : List ℕ) (i : ℕ) {t : Table} {e : Element} → table_call T ≡ done t
    → read_state_call T A i ≡ done e
    → (i < length t.objects) × (kind_in e ≡ kind_of t.x (object t i).type)
read_by_type T A i {t} rt re =
    let s = planned T rt in
    let r = read_object T A re in
    let inside : i < length t.objects = omega (arith, rw s.reads at r.1, s.count) in
    (inside, (rw s.reads at r.2) ∙ s.kind i inside)

-- a state of the object's type under any X, with data or without, is refused with 22 exactly
-- where the type is 1 and the X is not the table's
pub handed_across : (U B : List ℕ) (x j : ℕ) (e : Element) (position : ℕ) {u : Table} {b : Image}
    → table_call U ≡ done u
    → image_call U B ≡ done b → j < length u.objects
    → carried x (object u j).type ≡ true → kind_in e ≡ kind_of x (object u j).type
    → (write_state_call U B j e position ≡ refusal_at 22 j) ↔ (((object u j).type ≡ 1) × (x ≡ u.x → ⊥))
handed_across U B x j e position {u} ru rb l held mine =
    let w = planned U ru in
    let exactly = kind_exactly U B w.reads rb j e position (omega (arith, w.count)) in
    Iff.trans (rw (mine, w.kind j l) at exactly) (kinds_differ x u.x (object u j).type held (w.type j l))

-- .. so too a state that was read from an object of the same type under any table
pub across_catalogues : (T A U B : List ℕ) (i j position : ℕ) {t u : Table} {b : Image} {e : Element}
    → table_call T ≡ done t → read_state_call T A i ≡ done e → table_call U ≡ done u → image_call U B ≡ done b
    → j < length u.objects → (object t i).type ≡ (object u j).type
    → (write_state_call U B j e position ≡ refusal_at 22 j) ↔ (((object u j).type ≡ 1) × (t.x ≡ u.x → ⊥))
across_catalogues T A U B i j position {t} {u} {e = e} rt re ru rb l same =
    let r = read_by_type T A i rt re in
    handed_across U B t.x j e position ru rb l (sym (ap (carried t.x) same) ∙ (planned T rt).type i r.0)
    (r.1 ∙ ap (kind_of t.x) same)

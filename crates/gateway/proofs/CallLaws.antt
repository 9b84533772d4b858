-- The check of an element by itself, at each return; that a label's offset and size fit 32 bits; the fields of a state
-- that is read; and a backlog's output.
-- Assumes nothing.
use Prim.Native.Nat.{ℕ, zero, suc, ◌*◌, ◌≤◌, ◌<◌}
use native.Mathlib.Omega.{arith}
use mathlib.Core.Path.{◌≡◌, refl, sym, ap, ap₂, ◌∙◌}
use mathlib.Core.Bool.{Bool, true, false, not}
use mathlib.Core.List.{List, [], ◌∷◌}
use Rattle.std.specs.Prelude.{Ok, Err}
use lib.Dec.{eqb, ltb}
use lib.ListN.{length, take, get_or, length-append}
use borrow.Author.Tests.{eq-eqb, ne_eqb, ltb-true}
use Rattle.rows.specs.Values.{Finding}
use Rattle.rows.specs.declared.Refusal.{Refusal}
use Rattle.kinds.specs.Kinds.{width_of}
use Rattle.kinds.specs.declared.Kind.{Kind}
use Rattle.kinds.specs.declared.Element.{Element}
use Rattle.octets.specs.Octets.{number}
use Rattle.elements.specs.Elements.{carried, kind_of, element_check}
use Rattle.history.specs.declared.Answer.{Answer}
use Rattle.history.specs.declared.Standing.{Standing}
use Rattle.history.specs.Verdict.{Verdict, refused, done, numbers, unnamed, checked}
use Rattle.history.specs.Table.{catalogue_good, Object, Table, object_bytes, objects_bytes, label_limit, read_table}
use Rattle.history.specs.Table.{LegalTable}
use Rattle.history.specs.Image.{element, found_in, ◌of◌⨾◌}
use Rattle.history.specs.Calls.{read_state_call, Place, label_place, label_call}
use Rattle.history.specs.Backlog.{backlog_call}
use Rattle.history.proofs.VerdictLaws.{held, used}
use Rattle.history.proofs.TableLaws.{nobody, table_is}
use Rattle.tables.specs.LabelPlaces.{label_at, label_told}
use Rattle.tables.specs.declared.place.LabelAt.{LabelAt}
use Rattle.tables.proofs.AnswerLaws.{yes, no}
use Rattle.panel.specs.Readings.{reading_of}
use Rattle.fields.specs.declared.Plain.{Plain}
use Rattle.fields.specs.PlainFields.{shown_plain, plain_of}
use Rattle.gateway.specs.Calls.{element_call}
use Rattle.gateway.specs.Slots.{slots, answer_slots, read_slots, fields_after, label_slots, standing_in}

-- ---- a label is within the first 65,536 bytes

entries_few : (i : ℕ) (os : List Object) → ((j : ℕ) → j < length os → length (get_or os j nobody).label ≤ 48)
    → length (objects_bytes (take i os)) ≤ 50 * length os
entries_few zero os h = omega arith
entries_few (suc i) [] h = omega arith
entries_few (suc i) (o ∷ os) h =
    omega (
      arith,
      length-append (object_bytes o) (objects_bytes (take i os)),
      h 0 (omega arith),
      entries_few i os (λ j m. h (suc j) (omega arith)),
    )

place_few : {t : Table} → LegalTable t → (i : ℕ) → i < length t.objects
    → ((label_place t i).offset < 65536) × ((label_place t i).size < 65536)
unfolding label_limit
place_few {t} h i m =
    let few = entries_few i t.objects (λ j l. omega (arith, (h.each j l).few)) in
    (omega (arith, few, h.count), omega (arith, (h.each i m).few))

label_few : (b : List ℕ) (i : ℕ) {l : LabelAt} → Ok l ≡ label_told (label_call b i)
    → (l.offset < 65536) × (l.size < 65536)
unfolding label_told label_call
label_few b i {l} = go (label_call b i) refl
  where
    go : (v : Verdict Place) → label_call b i ≡ v → Ok l ≡ label_told v → (l.offset < 65536) × (l.size < 65536)
    go (refused r) e q = absurd (let z : ◌≡◌ {A = ℕ} 0 1 = cc in omega arith)
    go (done p) e q =
        let u = used (read_table b) _ e in
        let v = held (ltb i (length u.0.objects)) _ _ u.2 in
        let few = place_few (table_is b u.1).legal i (ltb-true _ _ v.0) in
        let p-is : label_place u.0 i ≡ p = cc v.1 in
        let l-is : l ≡ label_at p = cc q in
        rw (l-is, ← p-is) few

-- in terms of what the code has
module _ (b : List ℕ) (i : ℕ) {l : LabelAt} (is : Ok l ≡ label_told (label_call b i)) where
  pub offset_few : l.offset < 65536
  offset_few = (label_few b i is).0

  pub size_few : l.size < 65536
  size_few = (label_few b i is).1

  pub label_shown : {a : Answer} → a ≡ unnamed 0 0 → {s : List ℕ} → s ≡ slots a l.offset l.size
      → s ≡ label_slots (label_told (label_call b i))
  unfolding label_slots
  label_shown a-is e = e ∙ ap (λ (a : Answer). slots a l.offset l.size) a-is ∙ ap label_slots is

pub label_refused : (b : List ℕ) (i : ℕ) {a : Answer} → Err a ≡ label_told (label_call b i) → {s : List ℕ}
    → s ≡ answer_slots a → s ≡ label_slots (label_told (label_call b i))
unfolding label_slots answer_slots
label_refused b i is e = e ∙ ap label_slots is

-- ---- an element by itself

module _ (x y ty : ℕ) (b : List ℕ) {s : Bool} (s-is : s ≡ catalogue_good x y) where
  pub element_3 : not s ≡ true → {a : Answer} → a ≡ unnamed 3 0 → Err a ≡ checked (element_call x y ty b)
  unfolding element_call
  element_3 h q = ap Err q ∙ rw (no s-is h)

  module _ (good : not s ≡ false) {t : Bool} (t-is : t ≡ carried x ty) where
    pub element_5 : not t ≡ true → {a : Answer} → a ≡ unnamed 5 0 → Err a ≡ checked (element_call x y ty b)
    unfolding element_call
    element_5 h q = ap Err q ∙ rw (yes s-is good, no t-is h)

    module _ (h : not t ≡ false) {k : Kind} (is : k ≡ kind_of x ty) {w : ℕ} (wide : w ≡ width_of k) where
      pub element_8 : (length b ≡ w → ⊥) → {a : Answer} → a ≡ unnamed 8 0 → Err a ≡ checked (element_call x y ty b)
      unfolding element_call
      element_8 n q =
          let f : eqb (length b) (width_of (kind_of x ty)) ≡ false =
          ne_eqb _ _ (λ q. n (q ∙ sym (wide ∙ ap width_of is))) in
          ap Err q ∙ rw (yes s-is good, yes t-is h, f)

      module _ (long : length b ≡ w) {n : ℕ} (number_is : n ≡ number b) {found : Finding}
          (found-is : found ≡ element_check k n) where
        by_finding : (v : Finding) → found ≡ v → (v of 65535 ⨾ done (number b)) ≡ element_call x y ty b
        unfolding element_call element
        by_finding v q =
            let f : eqb (length b) (width_of (kind_of x ty)) ≡ true = eq-eqb _ _ (long ∙ wide ∙ ap width_of is) in
            let g : element_check (kind_of x ty) (number b) ≡ v =
            ap₂ element_check (sym is) (sym number_is) ∙ sym found-is ∙ q in
            sym (rw (yes s-is good, yes t-is h, f, g))

        pub element_refused : {r : Refusal} → found ≡ Err r → {a : Answer}
            → a ≡ numbers (found_in r 65535) 0 → Err a ≡ checked (element_call x y ty b)
        element_refused {r} q e = ap Err e ∙ ap checked (by_finding (Err r) q)

        pub element_good : found ≡ Ok tt → Ok tt ≡ checked (element_call x y ty b)
        element_good q = ap checked (by_finding (Ok tt) q)

-- ---- the fields of a state that is read

module _ (fields : List ℕ) where
  stay : (v : Verdict Element) {a : Answer} → Err a ≡ plain_of (reading_of v) → fields ≡ fields_after v fields
  unfolding plain_of reading_of fields_after
  stay (refused r) e = refl
  stay (done state) e = absurd (let z : ◌≡◌ {A = ℕ} 0 1 = cc in omega arith)

  show : (v : Verdict Element) {p : Plain} → Ok p ≡ plain_of (reading_of v) → p.fields ≡ fields_after v fields
  unfolding plain_of shown_plain reading_of fields_after
  show (refused r) e = absurd (let z : ◌≡◌ {A = ℕ} 0 1 = cc in omega arith)
  show (done state) {p} e = let p-is : p ≡ shown_plain state = cc in ap (λ (p : Plain). p.fields) p-is

module _ (T A : List ℕ) (i : ℕ) (fields : List ℕ) where
  pub fields_stay : {a : Answer} → Err a ≡ plain_of (reading_of (read_state_call T A i))
      → fields ≡ fields_after (read_state_call T A i) fields
  fields_stay = stay fields (read_state_call T A i)

  pub fields_shown : {p : Plain} → Ok p ≡ plain_of (reading_of (read_state_call T A i))
      → p.fields ≡ fields_after (read_state_call T A i) fields
  fields_shown = show fields (read_state_call T A i)

module _ (T A : List ℕ) (i : ℕ) {l : List ℕ} where
  pub read_told : {p : Plain} → Ok p ≡ plain_of (reading_of (read_state_call T A i)) → l ≡ slots (unnamed 0 0) p.kind 0
      → l ≡ read_slots (plain_of (reading_of (read_state_call T A i)))
  unfolding read_slots
  read_told is e = e ∙ ap read_slots is

  pub refusal_told : {a : Answer} → Err a ≡ plain_of (reading_of (read_state_call T A i)) → l ≡ answer_slots a
      → l ≡ read_slots (plain_of (reading_of (read_state_call T A i)))
  unfolding read_slots answer_slots
  refusal_told is e = e ∙ ap read_slots is

-- a code that is not 0 leaves the fields as they were
pub refused_read : (T A : List ℕ) (i : ℕ) (before : List ℕ) {fields a : List ℕ}
    → fields ≡ fields_after (read_state_call T A i) before
    → a ≡ read_slots (plain_of (reading_of (read_state_call T A i)))
    → (get_or a 0 0 ≡ 0 → ⊥) → fields ≡ before
unfolding read_slots plain_of reading_of fields_after
refused_read T A i before {fields} {a} e q n = e ∙ go (read_state_call T A i) q
  where
    go : (v : Verdict Element) → a ≡ read_slots (plain_of (reading_of v)) → fields_after v before ≡ before
    go (refused r) q = refl
    go (done state) q = absurd (n (ap (λ (l : List ℕ). get_or l 0 0) q))

-- ---- a backlog's output

-- in terms of the tallies that C gives
pub backlog_output_lem : (T A b out : List ℕ) (s : Standing) (tallies : List ℕ) → s ≡ standing_in tallies
    → {m : List ℕ} → m ≡ (backlog_call T A b out s).output
    → m ≡ (backlog_call T A b out (standing_in tallies)).output
backlog_output_lem T A b out s tallies s-is e =
    e ∙ ap (λ (s : Standing). (backlog_call T A b out s).output) s-is

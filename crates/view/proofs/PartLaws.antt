-- A view's count and a label's part, from the table's plan and the label's place; and what a caller relies on: a
-- request's numbers and its part fit each other.
-- Assumes nothing.
use Prim.Native.Nat.{ℕ, ◌+◌, ◌-◌, ◌≤◌}
use native.Mathlib.Omega.{arith}
use mathlib.Core.Path.{◌≡◌, refl, sym, ap, subst, ◌∙◌}
use mathlib.Core.List.{List, []}
use Rattle.std.specs.Prelude.{Result, Ok, Err}
use lib.ListN.{length, take, drop, length-drop, length-map}
use lib.Seq.{length-take-le}
use denote.Ref.{Bor}
use Rattle.octets.specs.Octets.{Bytes}
use Rattle.history.specs.declared.Answer.{Answer}
use Rattle.history.specs.Verdict.{Verdict, refused, done, then, unnamed, told, given}
use Rattle.history.specs.Table.{Table, object, read_table, Plan, plan_of}
use Rattle.history.specs.Calls.{table_call, read_plan, Place, label_call}
use Rattle.history.proofs.VerdictLaws.{used}
use Rattle.history.proofs.OutputLaws.{given_done}
use Rattle.history.proofs.LabelLaws.{label_is}
use Rattle.history.proofs.CodeLaws.{label_call_coded, zero_told}
use Rattle.tables.specs.LabelPlaces.{label_at, label_told, LabelFound}
use Rattle.tables.specs.declared.place.LabelAt.{LabelAt}
use Rattle.view.specs.Parts.{count_of, given_place, Part}

-- ---- the count

-- how many kinds an outline has; a refused table has none
abbrev kinds_count : Result Plan Answer → ℕ
kinds_count (Ok p) = length p.kinds
kinds_count (Err a) = 0

-- an accepted table has as many objects as its plan has kinds
outline_count : (v : Verdict Table)
    → kinds_count (given (λ (p : Plan). p) (then v (λ t. done (plan_of t)))) ≡ count_of v
unfolding count_of plan_of
outline_count (refused r) = refl
outline_count (done t) = length-map t.objects _

module _ (T : List ℕ) where
  pub counted : {p q : Plan} → Ok p ≡ given (λ (p : Plan). p) (read_plan T) → q ≡ p
      → length q.kinds ≡ count_of (table_call T)
  unfolding read_plan table_call
  counted e q-is = ap (λ (p : Plan). length p.kinds) q-is ∙ ap kinds_count e ∙ outline_count (read_table T)

  pub uncounted : {a : Answer} → Err a ≡ given (λ (p : Plan). p) (read_plan T) → 0 ≡ count_of (table_call T)
  unfolding read_plan table_call
  uncounted e = ap kinds_count e ∙ outline_count (read_table T)

-- ---- the numbers

told_found : (v : Verdict Place) {l : LabelAt} → Ok l ≡ label_told v → unnamed 0 0 ≡ told v
unfolding label_told told
told_found (refused r) e = absurd (let z : ◌≡◌ {A = ℕ} 0 1 = cc in omega arith)
told_found (done p) e = refl

told_refused : (v : Verdict Place) {a : Answer} → Err a ≡ label_told v → a ≡ told v
unfolding label_told told
told_refused (refused r) e = cc
told_refused (done p) e = absurd (let z : ◌≡◌ {A = ℕ} 0 1 = cc in omega arith)

module _ {T : List ℕ} {i : ℕ} {r : Result LabelAt Answer} (l : LabelFound T i r) where
  pub found_told : {f : LabelAt} → r ≡ Ok f → (a : Answer) → a ≡ unnamed 0 0 → a ≡ told (label_call T i)
  found_told e a a-is = a-is ∙ told_found (label_call T i) (sym e ∙ l.whole)

  pub refused_told : {a : Answer} → r ≡ Err a → a ≡ told (label_call T i)
  refused_told e = told_refused (label_call T i) (sym e ∙ l.whole)

-- ---- the part

told_place : (v : Verdict Place) (l : LabelAt) → Ok l ≡ label_told v
    → record { offset = l.offset; size = l.size } ≡ given_place v
unfolding label_told given_place
told_place (refused r) l e = absurd (let z : ◌≡◌ {A = ℕ} 0 1 = cc in omega arith)
told_place (done p) l e =
    let q : l ≡ label_at p = cc in ap (λ (l : LabelAt). record { offset = l.offset; size = l.size }) q

told_nothing : (v : Verdict Place) {a : Answer} → Err a ≡ label_told v → record { offset = 0; size = 0 } ≡ given_place v
unfolding label_told given_place
told_nothing (refused r) e = refl
told_nothing (done p) e = absurd (let z : ◌≡◌ {A = ℕ} 0 1 = cc in omega arith)

module _ {T : Bor (List ℕ)} {i : ℕ} {r : Result LabelAt Answer} (part : Bor (List ℕ)) (l : LabelFound T.now i r) where
  -- the part that the code takes at the place is the one defined ..
  pub found_part : (f : LabelAt) → r ≡ Ok f → part.ref_ptr ≡ (T.ref_ptr.0, f.offset + T.ref_ptr.1)
      → part.now ≡ take (f.offset + f.size - f.offset) (drop f.offset T.now)
      → Part T part (given_place (label_call T.now i))
  found_part f e p b =
      let all : f.offset + f.size - f.offset ≡ f.size = omega arith in
      subst (Part T part) (told_place (label_call T.now i) f (sym e ∙ l.whole))
      (record { place = p; bytes = b ∙ ap (λ (n : ℕ). take n (drop f.offset T.now)) all })

  -- .. and that of a refused request is empty, at the front
  pub no_part : {a : Answer} → r ≡ Err a → part.ref_ptr ≡ T.ref_ptr → part.now ≡ []
      → Part T part (given_place (label_call T.now i))
  no_part e p b =
      let front : T.ref_ptr.1 ≡ 0 + T.ref_ptr.1 = omega arith in
      subst (Part T part) (told_nothing (label_call T.now i) (sym e ∙ l.whole))
      (record { place = p ∙ (λ j. (T.ref_ptr.0, front j)); bytes = b })

-- ---- what a caller relies on

own_place : (v : Verdict Place) (p : Place) → v ≡ done p → given_place v ≡ p
unfolding given_place
own_place v p e = ap given_place e

empty_place : (v : Verdict Place) (b : List ℕ) → ((told v).code ≡ 0 → ⊥)
    → take (given_place v).size (drop (given_place v).offset b) ≡ []
unfolding given_place told
empty_place (refused r) b n = refl
empty_place (done p) b n = absurd (n refl)

module _ {T part : Bor (List ℕ)} (i : ℕ) (p : Part T part (given_place (label_call T.now i))) {r : Answer}
    (r-is : r ≡ told (label_call T.now i)) where
  -- refused: the part is empty
  pub refused_empty : (r.code ≡ 0 → ⊥) → part.now ≡ []
  refused_empty bad =
      p.bytes ∙ empty_place (label_call T.now i) T.now (λ z. bad (ap (λ (a : Answer). a.code) r-is ∙ z))

  -- accepted: the part is the object's label, of at least three bytes
  pub accepted_label : Bytes T.now → r.code ≡ 0
      → (t : Table) × (read_table T.now ≡ done t) × (part.now ≡ (object t i).label) × (3 ≤ length part.now)
  accepted_label h ok =
      let q =
      zero_told (label_call T.now i) (label_call_coded T.now i) (ap (λ (a : Answer). a.code) (sym r-is) ∙ ok) in
      let l = label_is T.now h i q.1 in
      let b : part.now ≡ take q.0.size (drop q.0.offset T.now) =
      p.bytes ∙ ap (λ (p : Place). take p.size (drop p.offset T.now))
      (own_place (label_call T.now i) q.0 q.1) in (
        l.table,
        l.reads,
        b ∙ l.label,
        omega (
          arith,
          l.some,
          ap length b ∙ length-take-le q.0.size (drop q.0.offset T.now)
              (omega (arith, l.inside, length-drop q.0.offset T.now)),
        ),
      )

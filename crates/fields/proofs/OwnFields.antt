-- Fields that a caller makes itself: only as many count as the kind has that are not reserved,
-- and these are read as they were written.
-- Assumes nothing.
use Prim.Native.Nat.{ℕ, zero, suc, ◌^◌, ◌≤◌, ◌<◌}
use native.Mathlib.Omega.{arith}
use mathlib.Core.Path.{◌≡◌, refl, sym, ap, ap₂, ◌∙◌}
use mathlib.Core.Bool.{Bool, true, false, cond}
use mathlib.Core.List.{List, [], ◌∷◌, ◌++◌}
use Rattle.std.specs.Prelude.{Ok}
use lib.Dec.{eqb, leb}
use lib.ListN.{length, get_or, take, drop}
use lib.Seq.{length-take-le}
use borrow.Author.Tests.{eqb-true, leb-true}
use Rattle.octets.specs.Octets.{Bytes}
use Rattle.rows.specs.Rows.{Row, row_at, rows_from}
use Rattle.rows.specs.Values.{code_at, filled, padded}
use Rattle.std.proofs.Common.{Err, is_ok}
use Rattle.rows.proofs.Words.{Within}
use Rattle.rows.proofs.Listed.{listed_from_lem}
use Rattle.kinds.specs.Kinds.{layout_of, layout_no, rows_of, kind_in, element_of, element_values}
use Rattle.kinds.specs.declared.Kind.{Kind}
use Rattle.kinds.specs.declared.Element.{Element}
use Rattle.kinds.proofs.KindLaws.{element_listed, element_kind}
use Rattle.elements.proofs.Covering.{cover}
use Rattle.history.specs.Verdict.{Verdict, done, refusal_at, ◌unless◌⨾◌}
use Rattle.history.specs.Image.{◌of◌⨾◌}
use Rattle.history.specs.Calls.{read_state_call, write_state_call}
use Rattle.history.proofs.VerdictLaws.{held, used}
use Rattle.history.proofs.ElementLaws.{was_accepted}
use Rattle.history.proofs.Demands.{write_then_read}
use Rattle.panel.specs.Readings.{reading_of}
use Rattle.fields.specs.declared.Plain.{Plain}
use Rattle.fields.specs.PlainFields.{shown, shown_plain, plain_of, spread, values_in, check_named}
use Rattle.fields.specs.Calls.{write_fields_call}
use Rattle.fields.proofs.CallLaws.{of_kinds, valued}

-- a kind's own fields: as many as it has rows that are not reserved
abbrev pub own : List Row → ℕ
own [] = 0
own (r ∷ rs) = cond (eqb r.top 0) (own rs) (suc (own rs))

own_few : (n i : ℕ) → own (rows_from i n) ≤ n
own_few zero i = omega arith
own_few (suc n) i = at (eqb (row_at i).top 0) (own_few n (suc i))
  where
    at : (b : Bool) → own (rows_from (suc i) n) ≤ n
        → cond b (own (rows_from (suc i) n)) (suc (own (rows_from (suc i) n))) ≤ suc n
    at true h = omega arith
    at false h = omega arith

pub spread_length : (n i : ℕ) (fs : List ℕ) → length (spread (rows_from i n) fs) ≡ n
spread_length zero i fs = refl
spread_length (suc n) i fs =
    at (eqb (row_at i).top 0) _ _ (spread_length n (suc i) fs) (spread_length n (suc i) (drop 1 fs))
  where
    at : (b : Bool) (xs ys : List ℕ) → length xs ≡ n → length ys ≡ n
        → length (cond b (0 ∷ xs) (get_or fs 0 0 ∷ ys)) ≡ suc n
    at true xs ys e f = ap suc e
    at false xs ys e f = ap suc f

-- what comes after a kind's own fields is not looked at
spread_own : (rs : List Row) (fs : List ℕ) → spread rs (take (own rs) fs) ≡ spread rs fs
spread_own [] fs = refl
spread_own (r ∷ rs) fs = at (eqb r.top 0) refl fs (spread_own rs)
  where
    at : (b : Bool) → eqb r.top 0 ≡ b → (fs : List ℕ) → ((gs : List ℕ) → spread rs (take (own rs) gs) ≡ spread rs gs)
        → spread (r ∷ rs) (take (own (r ∷ rs)) fs) ≡ spread (r ∷ rs) fs
    at true e fs h = rw e (ap (λ (vs : List ℕ). 0 ∷ vs) (h fs))
    at false e [] h = rw e refl
    at false e (f ∷ fs) h = rw e (ap (λ (vs : List ℕ). f ∷ vs) (h fs))

-- fields that were taken in are handed out again
shown_spread : (rs : List Row) (fs xs : List ℕ) → own rs ≤ length fs → shown rs (spread rs fs ++ xs) ≡ take (own rs) fs
shown_spread [] fs xs h = refl
shown_spread (r ∷ rs) fs xs h = at (eqb r.top 0) refl fs h (λ gs. shown_spread rs gs xs)
  where
    at : (b : Bool) → eqb r.top 0 ≡ b → (fs : List ℕ) → own (r ∷ rs) ≤ length fs
        → ((gs : List ℕ) → own rs ≤ length gs → shown rs (spread rs gs ++ xs) ≡ take (own rs) gs)
        → shown (r ∷ rs) (spread (r ∷ rs) fs ++ xs) ≡ take (own (r ∷ rs)) fs
    at true e fs h g = rw (e, e) (g fs (rw e at h))
    at false e [] h g = let n : suc (own rs) ≤ 0 = rw e at h in absurd (omega arith)
    at false e (f ∷ fs) h g =
        let n : suc (own rs) ≤ suc (length fs) = rw e at h in
        rw (e, e) (ap (λ (vs : List ℕ). f ∷ vs) (g fs (omega arith)))

-- values that are not refused are values that their rows admit
named_within : (n i : ℕ) (vs xs : List ℕ) → length vs ≡ n → is_ok (check_named (rows_from i n) (vs ++ xs)) ≡ true
    → Within (rows_from i n) vs
named_within zero i [] xs h e = tt
named_within zero i (v ∷ vs) xs h e = absurd (omega arith)
named_within (suc n) i [] xs h e = absurd (omega arith)
named_within (suc n) i (v ∷ vs) xs h e = at (leb v (row_at i).top) refl (named_within n (suc i) vs xs (omega arith)) e
  where
    at : (b : Bool) → leb v (row_at i).top ≡ b
        → (is_ok (check_named (rows_from (suc i) n) (vs ++ xs)) ≡ true → Within (rows_from (suc i) n) vs)
        → is_ok
        (cond b (check_named (rows_from (suc i) n) (vs ++ xs)) (Err (code_at 11 (row_at i).low))) ≡ true
        → Within (rows_from i (suc n)) (v ∷ vs)
    at true q rest e = (leb-true v (row_at i).top q, rest e)
    at false q rest e = absurd (let z : ◌≡◌ {A = ℕ} 0 1 = cc in omega arith)

-- ---- the calls

-- what comes after the own fields of the number's kind changes nothing, refusals included
pub after_unseen : (T A : List ℕ) (i number : ℕ) (F G : List ℕ) (position : ℕ)
    → ((k : Kind) → number ≡ layout_no k → take (own (rows_of k)) F ≡ take (own (rows_of k)) G)
    → write_fields_call T A i number F position ≡ write_fields_call T A i number G position
unfolding write_fields_call
after_unseen T A i number F G position h =
    of_kinds T A i number F position (from F) (from G) (read_state_call T A i)
    (λ k. at k (eqb number (layout_no k)) refl)
  where
    from : List ℕ → Kind → Verdict (List ℕ)
    from fields = valued T A i number fields position

    at : (k : Kind) (b : Bool) → eqb number (layout_no k) ≡ b
        → (refusal_at 22 i unless b ⨾ from F k) ≡ (refusal_at 22 i unless b ⨾ from G k)
    at k true q =
        let same : spread (rows_of k) F ≡ spread (rows_of k) G =
        sym (spread_own (rows_of k) F) ∙ ap (spread (rows_of k)) (h k (eqb-true number (layout_no k) q))
        ∙ spread_own (rows_of k) G in
        ap (λ (vs : List ℕ). check_named (rows_of k) (padded vs) of i ⨾
        write_state_call T A i (element_of k (padded vs)) position) same
    at k false q = refl

-- a reading with the kind's own fields of F, then zeros
abbrev pub own_of : ℕ → Kind → List ℕ → Plain
own_of number k F =
    record { kind = number; count = own (rows_of k); fields = filled 32 (take (own (rows_of k)) F) }

-- a state made of fields with named cases gives them back
shown_made : (k : Kind) (F : List ℕ) → length F ≡ 32 → is_ok (check_named (rows_of k) (values_in k F)) ≡ true
    → shown_plain (element_of k (values_in k F)) ≡ own_of (layout_no k) k F
unfolding shown_plain
shown_made k F long ok =
    let rs : List Row = rows_of k in
    let vs : List ℕ = spread rs F in
    let few : own rs ≤ length F = omega (arith, own_few (layout_of k).count (layout_of k).first, (cover k).few) in
    let within =
    named_within (layout_of k).count (layout_of k).first vs _
    (spread_length (layout_of k).count (layout_of k).first F) ok in
    let values : element_values (element_of k (padded vs)) ≡ vs =
    element_listed k (padded vs) ∙ listed_from_lem rs [] vs _ within in
    let fields : shown rs (padded vs) ≡ take (own rs) F = shown_spread rs F _ few in
    ap₂ (λ (j : Kind) (us : List ℕ).
    record {
      kind = layout_no j;
      count = length (shown (rows_of j) (padded us));
      fields = filled 32 (shown (rows_of j) (padded us));
    })
    (element_kind k (padded vs)) values
    ∙ ap (λ (us : List ℕ).
    record { kind = layout_no k; count = length us; fields = filled 32 us }) fields
    ∙ ap (λ (n : ℕ).
    record { kind = layout_no k; count = n; fields = filled 32 (take (own rs) F) })
    (length-take-le (own rs) F few)

-- fields that were written are read back, under their number: the kind's own, whatever comes after them
pub made_read : (T A : List ℕ) (i number : ℕ) (F : List ℕ) (position : ℕ) {B : List ℕ} → Bytes A → length F ≡ 32
    → position < 2 ^ 32
    → write_fields_call T A i number F position ≡ done B
    → (k : Kind) × (number ≡ layout_no k) × (plain_of (reading_of (read_state_call T B i)) ≡ Ok (own_of number k F))
unfolding write_fields_call reading_of plain_of
made_read T A i number F position ha long small e =
    let was = used (read_state_call T A i) _ e in
    let k : Kind = kind_in was.0 in
    let q = held (eqb number (layout_no k)) _ _ was.2 in
    let v =
    was_accepted (check_named (rows_of k) (values_in k F)) i
    (write_state_call T A i (element_of k (values_in k F)) position) q.1 in
    let is : number ≡ layout_no k = eqb-true number (layout_no k) q.0 in
    let read = write_then_read T A i (element_of k (values_in k F)) position ha small v.1 in (
      k,
      is,
      ap (λ (s : Verdict Element). plain_of (reading_of s)) read ∙ ap Ok (shown_made k F long v.0
          ∙ ap (λ (n : ℕ). own_of n k F) (sym is)),
    )

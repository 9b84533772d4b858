-- What a refusal names where a state is handed in as numbers: the same as where a state is written;
-- and 11 names the lowest bit of a field that is not reserved.
-- Assumes nothing.
use Prim.Native.Nat.{ℕ}
use native.Mathlib.Omega.{arith}
use mathlib.Core.Path.{◌≡◌, refl, sym, ◌∙◌}
use mathlib.Core.Bool.{Bool, true, false, cond}
use mathlib.Core.List.{List, [], ◌∷◌, ◌++◌, append_assoc}
use lib.Dec.{eqb, leb}
use lib.ListN.{get_or, drop}
use borrow.Author.Tests.{le-leb, eqb-false}
use Rattle.rows.specs.Rows.{Row}
use Rattle.rows.specs.Values.{Finding, code_at}
use Rattle.std.proofs.Common.{Err}
use Rattle.rows.specs.declared.Refusal.{Refusal}
use Rattle.kinds.specs.Kinds.{layout_no, rows_of, kind_in}
use Rattle.kinds.specs.declared.Kind.{Kind}
use Rattle.elements.proofs.Findings.{Refuses, unlisted}
use Rattle.history.specs.Calls.{read_state_call}
use Rattle.history.proofs.NameLaws.{its_number, its_field, Named, refuses, named_unless, named_of, named_then, NamesIn}
use Rattle.history.proofs.NameLaws.{TheNumber, read_call_named, write_call_named, read_object}
use Rattle.history.proofs.CodeLaws.{Coded, coded}
use Rattle.fields.specs.PlainFields.{spread, values_in, check_named}
use Rattle.fields.specs.Calls.{write_fields_call}

-- what a value with no named case, among the last rows rs of a kind, is refused with
value_refuses : (k : Kind) (below rs : List Row) (fields zeros : List ℕ) {x : Refusal} → rows_of k ≡ below ++ rs
    → check_named rs (spread rs fields ++ zeros) ≡ Err x
    → Refuses k x.code x.bit
value_refuses k below [] fields zeros all e = absurd (let z : ◌≡◌ {A = ℕ} 0 1 = cc in omega arith)
value_refuses k below (r ∷ rs) fields zeros {x} all e =
    let next : rows_of k ≡ (below ++ (r ∷ [])) ++ rs = all ∙ sym (append_assoc below (r ∷ []) rs) in
    at (eqb r.top 0) refl (value_refuses k (below ++ (r ∷ [])) rs fields zeros next)
    (value_refuses k (below ++ (r ∷ [])) rs (drop 1 fields) zeros next) e
  where
    here : (b : Bool) → (r.top ≡ 0 → ⊥) → (rest : Finding) → (rest ≡ Err x → Refuses k x.code x.bit)
        → cond b rest (Err (code_at 11 r.low)) ≡ Err x → Refuses k x.code x.bit
    here true n rest later e = later e
    here false n rest later e =
        let x-is : code_at 11 r.low ≡ x = cc in
        rw (← x-is) (unlisted (record { below = below; above = rs; parts = all }) n)

    at : (b : Bool) → eqb r.top 0 ≡ b
        → (check_named rs (spread rs fields ++ zeros) ≡ Err x → Refuses k x.code x.bit)
        → (check_named rs (spread rs (drop 1 fields) ++ zeros) ≡ Err x → Refuses k x.code x.bit)
        → check_named (r ∷ rs) (cond b (0 ∷ spread rs fields) (get_or fields 0 0 ∷ spread rs (drop 1 fields)) ++ zeros)
        ≡ Err x
        → Refuses k x.code x.bit
    at true q skip later e = skip (rw (le-leb 0 r.top (omega arith)) at e)
    at false q skip later e = here (leb (get_or fields 0 0) r.top) (eqb-false _ _ q) _ later e

-- what any refusal of the call names
module _ (T A : List ℕ) (i number : ℕ) (fields : List ℕ) (position : ℕ) where
  pub write_fields_named : Named (NamesIn T (TheNumber i)) (write_fields_call T A i number fields position)
  unfolding write_fields_call
  write_fields_named =
      named_then (read_state_call T A i) _ (read_call_named T A i) λ was e.
      let o = read_object T A e in
      named_unless (eqb number (layout_no (kind_in was))) _ _ (λ f. refuses (its_number refl refl o.0)) λ t.
      named_of (check_named (rows_of (kind_in was)) (values_in (kind_in was) fields)) i _
      (λ x q. its_field o.1 (rw (← o.2) (value_refuses (kind_in was) [] (rows_of (kind_in was)) fields _ refl q)))
      (write_call_named T A i _ position)

  pub write_fields_coded : Coded (write_fields_call T A i number fields position)
  write_fields_coded = coded write_fields_named

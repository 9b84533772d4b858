-- Fields handed out and in again are the same state: for every state, and over the calls that read and write it.
-- Assumes nothing.
use Prim.Native.Nat.{ℕ}
use native.Mathlib.Omega.{arith}
use mathlib.Core.Path.{◌≡◌, refl, ap, ◌∙◌}
use mathlib.Core.Bool.{Bool, true, false}
use mathlib.Core.List.{List, [], ◌∷◌, ◌++◌}
use Rattle.std.specs.Prelude.{Ok}
use lib.Dec.{eqb}
use borrow.Author.Tests.{eqb-true, le-leb}
use Rattle.octets.specs.Octets.{Bytes}
use Rattle.rows.specs.Rows.{Row}
use Rattle.rows.specs.Values.{padded}
use Rattle.std.proofs.Common.{Ok}
use Rattle.rows.proofs.Words.{Within}
use Rattle.kinds.specs.Kinds.{rows_of, kind_in, element_of, element_values}
use Rattle.kinds.specs.declared.Element.{Element}
use Rattle.kinds.proofs.KindLaws.{kind_found, element_back}
use Rattle.elements.proofs.Laws.{state_within}
use Rattle.history.specs.Verdict.{Verdict, done}
use Rattle.history.specs.Image.{Image}
use Rattle.history.specs.Calls.{image_call, read_state_call, write_state_call}
use Rattle.history.proofs.Demands.{read_then_write}
use Rattle.panel.specs.Readings.{reading_of}
use Rattle.fields.specs.declared.Plain.{Plain}
use Rattle.fields.specs.PlainFields.{shown, fields_of, shown_plain, plain_of, spread, values_in, check_named}
use Rattle.fields.specs.Calls.{write_fields_call}
use Rattle.fields.proofs.CallLaws.{writes}

-- ---- values that their rows admit, followed by anything

-- handed out and in again, they are the same: a reserved row admits only 0
spread_shown : (rs : List Row) (vs xs ys : List ℕ) → Within rs vs → spread rs (shown rs (vs ++ xs) ++ ys) ≡ vs
spread_shown [] [] xs ys h = refl
spread_shown [] (v ∷ vs) xs ys h = absurd h
spread_shown (r ∷ rs) [] xs ys h = absurd h
spread_shown (r ∷ rs) (v ∷ vs) xs ys h = at (eqb r.top 0) refl (spread_shown rs vs xs ys h.1)
  where
    at : (b : Bool) → eqb r.top 0 ≡ b → spread rs (shown rs (vs ++ xs) ++ ys) ≡ vs
        → spread (r ∷ rs) (shown (r ∷ rs) (v ∷ (vs ++ xs)) ++ ys) ≡ v ∷ vs
    at true e rest = let z : v ≡ 0 = omega (arith, eqb-true r.top 0 e) in rw (e, rest, z)
    at false e rest = rw (e, rest)

-- each has a named case
all_named : (rs : List Row) (vs xs : List ℕ) → Within rs vs → check_named rs (vs ++ xs) ≡ Ok tt
all_named [] vs xs h = refl
all_named (r ∷ rs) [] xs h = absurd h
all_named (r ∷ rs) (v ∷ vs) xs h = rw (le-leb v r.top h.0) (all_named rs vs xs h.1)

-- ---- the values of a state

module _ (e : Element) where
  values_back : values_in (kind_in e) (fields_of e).fields ≡ padded (element_values e)
  values_back = ap padded (spread_shown (rows_of (kind_in e)) (element_values e) _ _ (state_within e))

  -- its fields, handed in, make the state
  pub handed_back : element_of (kind_in e) (values_in (kind_in e) (fields_of e).fields) ≡ e
  handed_back = ap (element_of (kind_in e)) values_back ∙ element_back e

  -- none of them is refused
  pub handed_named : check_named (rows_of (kind_in e)) (values_in (kind_in e) (fields_of e).fields) ≡ Ok tt
  handed_named =
      ap (check_named (rows_of (kind_in e))) values_back
      ∙ all_named (rows_of (kind_in e)) (element_values e) _ (state_within e)

-- ---- the calls

module _ (T A : List ℕ) (i : ℕ) where
  -- a state handed in as its fields is written as the state
  pub handed_in : (e : Element) (position : ℕ)
      → write_fields_call T A i (shown_plain e).kind (shown_plain e).fields position ≡ write_state_call T A i e position
  unfolding shown_plain
  handed_in e position =
      writes T A i (shown_plain e).kind (shown_plain e).fields position (kind_found (kind_in e)) (handed_named e)
      ∙ ap (λ (s : Element). write_state_call T A i s position) (handed_back e)

  module _ {x : Plain} {e : Element} (is : Ok x ≡ plain_of (reading_of (read_state_call T A i)))
      (q : read_state_call T A i ≡ done e) where
    -- fields that were read, handed in for the same object, write the state that was read
    pub read_handed_in : (position : ℕ)
        → write_fields_call T A i x.kind x.fields position ≡ write_state_call T A i e position
    unfolding reading_of plain_of
    read_handed_in position =
        let read = is ∙ ap (λ (v : Verdict Element). plain_of (reading_of v)) q in
        let x-is : x ≡ shown_plain e = cc in
        rw x-is (handed_in e position)

    -- at the image's own position that gives the image
    pub image_again : {a : Image} → Bytes A → image_call T A ≡ done a
        → write_fields_call T A i x.kind x.fields a.position ≡ done A
    image_again {a} h ea = read_handed_in a.position ∙ read_then_write T A i h ea q

-- "Where DAT is 0, all other bits must be 0": a state that breaks this is refused with 12, any other is accepted; a
-- number is accepted exactly if it keeps this and its fields have listed values.
-- Assumes nothing.
use mathlib.Core.Path.{◌≡◌, refl, ◌∙◌}
use mathlib.Core.Bool.{Bool, true, false}
use mathlib.Core.Logic.{◌⊎◌, inl, inr, ◌↔◌}
use Prim.Native.Nat.{ℕ, ◌%◌}
use native.Mathlib.Omega.{arith}
use borrow.Author.Tests.{eq-eqb, ne_eqb, eqb-true, eqb-false}
use lib.Dec.{eqb}
use Rattle.rows.specs.Values.{Finding, code_at, check_rows, values_of, on_finding}
use Rattle.rows.specs.declared.Refusal.{Refusal}
use Rattle.std.proofs.Common.{Ok, Err}
use Rattle.rows.proofs.Words.{Within}
use Rattle.rows.proofs.Listed.{accepted_within, within_accepted, FirstUnlisted, names_first, refuses_first}
use Rattle.kinds.specs.Kinds.{layout_of, rows_of, kind_in}
use Rattle.kinds.specs.declared.Kind.{Kind}
use Rattle.kinds.specs.declared.Element.{Element}
use Rattle.elements.specs.Elements.{dat_rule, element_check, word_of}
use Rattle.elements.proofs.Laws.{accepted_fields, state_check}

-- bit 0 is DAT and is 0, and another bit is 1
pub record Stale (k : Kind) (w : ℕ) : Type 0 where
  pub dat : (layout_of k).dat ≡ true
  pub silent : w % 2 ≡ 1 → ⊥
  pub other : w ≡ 0 → ⊥

module _ (k : Kind) (w : ℕ) where
  -- ---- the rule by its cases

  dat_absent : (layout_of k).dat ≡ false → dat_rule k w ≡ Ok tt
  unfolding dat_rule
  dat_absent e = rw e

  dat_one : (layout_of k).dat ≡ true → w % 2 ≡ 1 → dat_rule k w ≡ Ok tt
  unfolding dat_rule
  dat_one e h = rw (e, eq-eqb _ _ h)

  dat_none : (layout_of k).dat ≡ true → (w % 2 ≡ 1 → ⊥) → w ≡ 0 → dat_rule k w ≡ Ok tt
  unfolding dat_rule
  dat_none e h z = rw (e, ne_eqb _ _ h, eq-eqb _ _ z)

  pub dat_stale : Stale k w → dat_rule k w ≡ Err (code_at 12 0)
  unfolding dat_rule
  dat_stale s = rw (s.dat, ne_eqb _ _ s.silent, ne_eqb _ _ s.other)

  -- ---- accepted exactly if it is not stale

  pub dat_either : ((Stale k w → ⊥) × (dat_rule k w ≡ Ok tt)) ⊎ Stale k w
  dat_either = go (layout_of k).dat (eqb (w % 2) 1) (eqb w 0) refl refl refl
    where
      go : (has one none : Bool) → (layout_of k).dat ≡ has → eqb (w % 2) 1 ≡ one → eqb w 0 ≡ none
          → ((Stale k w → ⊥) × (dat_rule k w ≡ Ok tt)) ⊎ Stale k w
      go false one none a b c =
          inl ((λ s. absurd (let z : ◌≡◌ {A = ℕ} 0 1 = cc (a, s.dat) in omega arith)), dat_absent a)
      go true true none a b c = inl ((λ s. s.silent (eqb-true _ _ b)), dat_one a (eqb-true _ _ b))
      go true false true a b c = inl ((λ s. s.other (eqb-true _ _ c)), dat_none a (eqb-false _ _ b) (eqb-true _ _ c))
      go true false false a b c = inr (record { dat = a; silent = eqb-false _ _ b; other = eqb-false _ _ c })

  pub not_stale : (Stale k w → ⊥) → dat_rule k w ≡ Ok tt
  not_stale n = go dat_either
    where
      go : ((Stale k w → ⊥) × (dat_rule k w ≡ Ok tt)) ⊎ Stale k w → dat_rule k w ≡ Ok tt
      go (inl q) = q.1
      go (inr s) = absurd (n s)

-- a state is accepted unless it is stale, and then it is refused with 12
module _ (e : Element) where
  pub state_accepted : (Stale (kind_in e) (word_of e) → ⊥) → element_check (kind_in e) (word_of e) ≡ Ok tt
  state_accepted n = state_check e ∙ not_stale (kind_in e) (word_of e) n

  pub state_stale : Stale (kind_in e) (word_of e)
      → element_check (kind_in e) (word_of e) ≡ Err (code_at 12 0)
  state_stale s = state_check e ∙ dat_stale (kind_in e) (word_of e) s

-- a number is accepted exactly if each field has a listed value and it is not stale
pub element_exactly : (k : Kind) (w : ℕ)
    → (element_check k w ≡ Ok tt) ↔ (Within (rows_of k) (values_of w (rows_of k)) × (Stale k w → ⊥))
unfolding element_check
element_exactly k w = (
  (λ e. let f = accepted_fields k w e in (
    accepted_within w (rows_of k) f,
    (λ s. let z : ◌≡◌ {A = ℕ} 0 1 = cc (rw (f, dat_stale k w s) at e) in omega arith),
  )),
  (λ h. rw (within_accepted w (rows_of k) h.0) (not_stale k w h.1)),
)

-- .. and is refused exactly if a field has not, naming the lowest such field, or else if it is stale, with 12
pub element_first : (k : Kind) (w : ℕ) {x : Refusal} → FirstUnlisted w (rows_of k) x
    → element_check k w ≡ Err x
unfolding element_check
element_first k w q = rw (refuses_first w (rows_of k) q)

pub element_names : (k : Kind) (w : ℕ) {x : Refusal} → element_check k w ≡ Err x
    → FirstUnlisted w (rows_of k) x ⊎ ((check_rows w (rows_of k) ≡ Ok tt) × Stale k w × (x ≡ code_at 12 0))
unfolding element_check
element_names k w {x} e = go (check_rows w (rows_of k)) refl e
  where
    silent : ((Stale k w → ⊥) × (dat_rule k w ≡ Ok tt)) ⊎ Stale k w → dat_rule k w ≡ Err x
        → Stale k w × (x ≡ code_at 12 0)
    silent (inl q) d = absurd (let z : ◌≡◌ {A = ℕ} 0 1 = cc q.1 in omega arith)
    silent (inr s) d = (s, cc (dat_stale k w s))

    go : (f : Finding) → check_rows w (rows_of k) ≡ f → on_finding f (dat_rule k w) Err ≡ Err x
        → FirstUnlisted w (rows_of k) x
        ⊎ ((check_rows w (rows_of k) ≡ Ok tt) × Stale k w × (x ≡ code_at 12 0))
    go (Ok tt) t d = let s = silent (dat_either k w) d in inr (t, s.0, s.1)
    go (Err r) t d = inl (names_first w (rows_of k) (t ∙ d))

-- The answers of the functions over elements, from what their callees ensure.
-- Assumes nothing.
use mathlib.Core.Path.{◌≡◌, ◌∙◌, sym, ap, ap₂}
use mathlib.Core.Bool.{Bool, true, false, cond}
use mathlib.Core.List.{List}
use Prim.Native.Nat.{ℕ, ◌%◌, ◌<◌}
use borrow.Author.Tests.{ne_eqb}
use lib.ListN.{take, drop}
use Rattle.octets.specs.Octets.{number}
use Rattle.rows.specs.Rows.{Row}
use Rattle.rows.specs.Values.{Finding, code_at, check_rows, compose_of, padded, on_finding, values_read}
use Rattle.rows.specs.Marks.{Shows}
use Rattle.rows.specs.declared.Refusal.{Refusal}
use Rattle.std.proofs.Common.{Ok, Err}
use Rattle.rows.specs.declared.Layout.{Layout}
use Rattle.kinds.specs.Kinds.{layout_of, width_of, rows_of, element_of, element_values, kind_in}
use Rattle.kinds.specs.Glances.{Glanced}
use Rattle.elements.specs.Elements.{dat_rule, element_check, state_read, word_of}
use Rattle.kinds.specs.declared.Kind.{Kind}
use Rattle.kinds.specs.declared.Element.{Element}
use Rattle.kinds.specs.declared.Glance.{Glance}
use Rattle.elements.proofs.DatLaws.{not_stale}
use Rattle.elements.proofs.Laws.{word_small, compose_padded}

-- the rule of DAT, test by test
module _ (k : Kind) (w : ℕ) where
  pub current : w % 2 ≡ 1 → dat_rule k w ≡ Ok tt
  current h = not_stale k w (λ s. s.silent h)

  pub without_data : w ≡ 0 → dat_rule k w ≡ Ok tt
  without_data z = not_stale k w (λ s. s.other z)

  pub by_layout : {l : Layout} → l ≡ layout_of k → (w % 2 ≡ 1 → ⊥) → (w ≡ 0 → ⊥)
      → dat_rule k w ≡ cond l.dat (Err (code_at 12 0)) (Ok tt)
  unfolding dat_rule
  by_layout e h z = rw (ne_eqb _ _ h, ne_eqb _ _ z, e)

-- from what is found of the fields
module _ (k : Kind) (w : ℕ) (f : Finding) (e : f ≡ check_rows w (rows_of k)) where
  pub check_refused : (x : Refusal) → f ≡ Err x → Err x ≡ element_check k w
  unfolding element_check
  check_refused x t = ap (λ (f : Finding). on_finding f (dat_rule k w) Err) (sym t ∙ e)

  pub check_rest : f ≡ Ok tt → dat_rule k w ≡ element_check k w
  unfolding element_check
  check_rest t = ap (λ (f : Finding). on_finding f (dat_rule k w) Err) (sym t ∙ e)

-- from what a glance shows, and the rule of DAT
pub shown : (k : Kind) {w : ℕ} {listed stale : Bool} → Shows (rows_of k) w listed → listed ≡ true
    → dat_rule k w ≡ cond stale (Err (code_at 12 0)) (Ok tt) → stale ≡ false
    → Ok tt ≡ element_check k w
unfolding element_check
shown k s on e off = rw (s.accepted on, e, off)

-- .. and so of the number that was read at a place
pub number_at : (k : Kind) {b : List ℕ} {at : ℕ} {g : Glance} {f : Finding} → Glanced k b at g
    → f ≡ element_check k g.word → f ≡ element_check k (number (take (width_of k) (drop at b)))
number_at k s e = e ∙ ap (element_check k) s.read

-- from the values that were read
pub values_state : (k : Kind) (w : ℕ) {vs : List ℕ} {s : Element} → vs ≡ values_read w (rows_of k) → s ≡ element_of k vs
    → s ≡ state_read k w
unfolding state_read
values_state k w e h = h ∙ ap (element_of k) e

-- from what the callees of `word_of` ensure
module _ (e : Element) (k : Kind) (vs : List ℕ) (rs : List Row) (ek : k ≡ kind_in e)
    (ev : vs ≡ padded (element_values e))
    (er : rs ≡ rows_of k) where
  pub whole : compose_of rs vs ≡ word_of e
  whole =
      ap (λ (rs : List Row). compose_of rs vs) er
      ∙ ap₂ (λ (j : Kind) (us : List ℕ). compose_of (rows_of j) us) ek ev
      ∙ compose_padded e

  pub small : compose_of rs vs < 4294967296
  small = rw whole (word_small e)

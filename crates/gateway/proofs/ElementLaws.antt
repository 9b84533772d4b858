-- The answer to an element by itself: 3 exactly if its catalogue is not carried, else 5 exactly if its type is not
-- carried, else 8 exactly if its length is not its kind's width, else what the element's check finds.
-- Assumes nothing.
use Prim.Native.Nat.{ℕ, ◌<◌}
use native.Mathlib.Omega.{arith}
use mathlib.Core.Path.{◌≡◌, sym, ◌∙◌}
use mathlib.Core.Bool.{true, false, false≢true}
use mathlib.Core.List.{List}
use mathlib.Core.Logic.{◌↔◌}
use lib.Dec.{eqb}
use lib.ListN.{length}
use borrow.Author.Tests.{eq-eqb, ne_eqb}
use Rattle.octets.specs.Octets.{number}
use Rattle.kinds.specs.Kinds.{width_of}
use Rattle.elements.specs.Elements.{carried, kind_of}
use Rattle.history.specs.Verdict.{Verdict, done, refusal, ◌unless◌⨾◌}
use Rattle.history.specs.Table.{catalogue_good}
use Rattle.history.specs.Image.{element, ◌of◌⨾◌}
use Rattle.history.proofs.VerdictLaws.{refuted, past, stopped}
use Rattle.history.proofs.ElementLaws.{refuses_as}
use Rattle.history.proofs.NameLaws.{Named, accepts, refuses, named_unless, named_of}
use Rattle.history.proofs.CatalogueLaws.{CarriedCatalogue, catalogue_is, catalogue_carried, element_codes}
use Rattle.gateway.specs.Calls.{element_call}

module _ (x y type : ℕ) (b : List ℕ) where
  -- what is checked after 5
  abbrev typed : Verdict ℕ
  typed =
      refusal 8 unless eqb (length b) (width_of (kind_of x type)) ⨾
      element (kind_of x type) (number b) of 65535 ⨾
      done (number b)

  above_eight : Named (λ r. 8 < r.code) (element (kind_of x type) (number b) of 65535 ⨾ done (number b))
  above_eight =
      named_of (element (kind_of x type) (number b)) 65535 _
      (λ r q. omega (arith, element_codes (refuses_as (kind_of x type) (number b) q))) accepts

  above_five : Named (λ r. 5 < r.code) typed
  above_five =
      named_unless (eqb (length b) (width_of (kind_of x type))) _ _ (λ f. refuses (omega arith)) λ t.
      record { names = λ e. omega (arith, above_eight.names e) }

  above_three : Named (λ r. 3 < r.code) (refusal 5 unless carried x type ⨾ typed)
  above_three =
      named_unless (carried x type) _ _ (λ f. refuses (omega arith)) λ t.
      record { names = λ e. omega (arith, above_five.names e) }

  pub element_catalogue : (element_call x y type b ≡ refusal 3) ↔ (CarriedCatalogue x y → ⊥)
  unfolding element_call
  element_catalogue = (
    (λ r c. false≢true
        (sym (stopped (catalogue_good x y) _ _ (λ q. omega (arith, above_three.names q)) r) ∙ catalogue_carried x y c)),
    (λ n. rw (refuted (catalogue_good x y) (λ q. n (catalogue_is x y q)))),
  )

  pub element_type : CarriedCatalogue x y → (element_call x y type b ≡ refusal 5) ↔ (carried x type ≡ false)
  unfolding element_call
  element_type c = (
    (λ r. stopped (carried x type) _ _ (λ q. omega (arith, above_five.names q))
        (past (catalogue_good x y) _ _ (λ z. omega arith) r).1),
    (λ f. rw (catalogue_carried x y c, f)),
  )

  module _ (c : CarriedCatalogue x y) (h : carried x type ≡ true) where
    pub element_length : (element_call x y type b ≡ refusal 8) ↔ (length b ≡ width_of (kind_of x type) → ⊥)
    unfolding element_call
    element_length = (
      (λ r e. false≢true
          (sym (stopped (eqb (length b) (width_of (kind_of x type))) _ _ (λ q. omega (arith, above_eight.names q))
          (rw (catalogue_carried x y c, h) at r))
          ∙ eq-eqb _ _ e)),
      (λ n. rw (catalogue_carried x y c, h, ne_eqb _ _ n)),
    )

    pub element_alone : length b ≡ width_of (kind_of x type)
        → element_call x y type b ≡ (element (kind_of x type) (number b) of 65535 ⨾ done (number b))
    unfolding element_call
    element_alone e = rw (catalogue_carried x y c, h, eq-eqb _ _ e)

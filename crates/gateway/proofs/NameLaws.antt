-- What a refusal of an element by itself names: no object, and the bit that it would name in an image.
-- Assumes nothing.
use Prim.Native.Nat.{ℕ}
use mathlib.Core.Path.{◌≡◌, refl}
use mathlib.Core.Bool.{true}
use mathlib.Core.List.{List, [], ◌∷◌}
use lib.Dec.{eqb}
use lib.ListN.{length}
use Rattle.octets.specs.Octets.{number}
use Rattle.rows.specs.declared.Refusal.{Refusal}
use Rattle.kinds.specs.Kinds.{width_of}
use Rattle.kinds.specs.declared.Kind.{Kind}
use Rattle.elements.specs.Elements.{carried, kind_of}
use Rattle.elements.proofs.Findings.{Refuses}
use Rattle.history.specs.Verdict.{Refused, naming}
use Rattle.history.specs.Table.{catalogue_good}
use Rattle.history.specs.Image.{element, found_in}
use Rattle.history.proofs.ElementLaws.{refuses_as}
use Rattle.history.proofs.NameLaws.{one_of, Named, accepts, refuses, named_unless, named_of}
use Rattle.history.proofs.CodeLaws.{IsCode, Coded, one_of_lem, field_code, coded_by}
use Rattle.gateway.specs.Calls.{element_call}

pub data NamesAlone (k : Kind) : Refused → Type 0 where
  nothing : {code : ℕ} → one_of (3 ∷ 5 ∷ 8 ∷ []) code ≡ true → NamesAlone k (naming code 65535 255)
  its_field : {f : Refusal} → Refuses k f.code f.bit → NamesAlone k (found_in f 65535)

code_of : {k : Kind} {r : Refused} → NamesAlone k r → IsCode r.code
code_of (nothing {code} h) = one_of_lem (3 ∷ 5 ∷ 8 ∷ []) code refl h
code_of (its_field r) = field_code r

module _ (x y type : ℕ) (b : List ℕ) where
  pub element_call_named : Named (NamesAlone (kind_of x type)) (element_call x y type b)
  unfolding element_call
  element_call_named =
      named_unless (catalogue_good x y) _ _ (λ f. refuses (nothing refl)) λ t.
      named_unless (carried x type) _ _ (λ f. refuses (nothing refl)) λ t.
      named_unless (eqb (length b) (width_of (kind_of x type))) _ _ (λ f. refuses (nothing refl)) λ t.
      named_of (element (kind_of x type) (number b)) 65535 _
      (λ r q. its_field (refuses_as (kind_of x type) (number b) q)) accepts

  pub element_call_coded : Coded (element_call x y type b)
  element_call_coded = coded_by (λ r. code_of) element_call_named

-- The loop over an image's elements, one turn at a time: what the whole gives is what the rest gives.
-- Assumes nothing.
use Prim.Native.Nat.{ℕ, suc, ◌+◌, ◌≤◌, ◌<◌}
use Rattle.std.specs.Prelude.{Ok, Err}
use native.Mathlib.Omega.{arith}
use mathlib.Core.Path.{◌≡◌, refl, sym, ap, ap₂, ◌∙◌}
use mathlib.Core.List.{List, ◌∷◌}
use lib.ListN.{length, take, drop}
use lib.Seq.{drop-drop}
use Rattle.rows.specs.Values.{Finding}
use Rattle.rows.specs.declared.Refusal.{Refusal}
use Rattle.kinds.specs.Kinds.{width_of}
use Rattle.elements.specs.Elements.{element_check}
use Rattle.kinds.specs.declared.Kind.{Kind}
use Rattle.octets.specs.Octets.{number}
use Rattle.history.specs.declared.Answer.{Answer}
use Rattle.history.specs.Verdict.{Verdict, done, then, numbers, checked}
use Rattle.history.specs.Table.{kind_at}
use Rattle.history.specs.Image.{element, found_in, ◌of◌⨾◌, widths, read_words}
use Rattle.forms.proofs.Found.{is_bad, is_good, refuses}
use Rattle.tables.proofs.AnswerLaws.{checked_then}
use Rattle.forms.proofs.KindLaws.{kinds_next, kinds_end}

-- at object i the elements from `at` on are left
pub record Left (ks : List Kind) (b : List ℕ) (i at : ℕ) : Type 0 where
  pub inside : i ≤ length ks
  pub room : at + widths (drop i ks) ≡ length b
  pub same : checked (read_words 0 ks b) ≡ checked (read_words i (drop i ks) (drop at b))

pub begin : (ks : List Kind) (b : List ℕ) → length b ≡ widths ks → Left ks b 0 0
begin ks b h = record { inside = omega arith; room = omega arith; same = refl }

pub ended : {ks : List Kind} {b : List ℕ} {i at : ℕ} → Left ks b i at → length ks ≤ i
    → Ok tt ≡ checked (read_words 0 ks b)
ended {ks} {b} {i} {at} l h =
    sym (l.same ∙ ap (λ (ks : List Kind). checked (read_words i ks (drop at b))) (kinds_end ks i h))

-- from what the code has: the kind, what is found, and the width
module _ {ks : List Kind} {b : List ℕ} {i at : ℕ} (l : Left ks b i at) (h : i < length ks) {kind : Kind}
    (kind_is_lem : kind ≡ kind_at ks i) where
  pub has_room : at + width_of kind ≤ length b
  has_room = omega (arith, l.room, ap widths (kinds_next ks i h), ap width_of kind_is_lem)

  module _ {found : Finding} (found-is : found ≡ element_check kind (number (take (width_of kind) (drop at b)))) where
    word : ℕ
    word = number (take (width_of kind) (drop at b))

    -- the rest, after this object's element
    next : Verdict (List ℕ)
    next =
        then (read_words (suc i) (drop (i + 1) ks) (drop (width_of kind) (drop at b)))
        (λ ws. done (word ∷ ws))

    here : checked (read_words 0 ks b) ≡ checked (found of i ⨾ next)
    unfolding element next word
    here =
        l.same ∙ ap (λ (ks : List Kind). checked (read_words i ks (drop at b)))
        (kinds_next ks i h ∙ ap (λ (k : Kind). k ∷ drop (i + 1) ks) (sym kind_is_lem))
        ∙ rw (← found-is)

    pub stops : {r : Refusal} → found ≡ Err r → {a : Answer} → a ≡ numbers (found_in r i) 0
        → Err a ≡ checked (read_words 0 ks b)
    stops {r} e q = refuses _ (is_bad found i next r e) q ∙ sym here

    pub goes_on : found ≡ Ok tt → {w : ℕ} → w ≡ width_of kind → Left ks b (i + 1) (at + w)
    unfolding next word
    goes_on e {w} wide =
        let one : suc i ≡ i + 1 = omega arith in
        record {
          inside = omega arith;
          room = omega (arith, l.room, ap widths (kinds_next ks i h), ap width_of kind_is_lem);
          same =
              here ∙ ap checked (is_good found i next e)
              ∙ checked_then (read_words (suc i) (drop (i + 1) ks) (drop (width_of kind) (drop at b)))
              (λ ws. word ∷ ws)
              ∙ ap₂ (λ (n : ℕ) (c : List ℕ). checked (read_words n (drop (i + 1) ks) c)) one
              (ap (λ (n : ℕ). drop n (drop at b)) (sym wide) ∙ drop-drop w at b);
        }

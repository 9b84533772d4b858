-- Writing a state, at each place where the code returns: a refusal's numbers are those of the call, and success writes
-- the image with the object's word and the position.
-- Assumes nothing.
use Prim.Native.Nat.{ℕ, ◌+◌, ◌≤◌, ◌<◌}
use mathlib.Core.Path.{◌≡◌, refl, sym, ap, ◌∙◌}
use mathlib.Core.Bool.{Bool, true, false, not}
use mathlib.Core.List.{List}
use Rattle.std.specs.Prelude.{Ok, Err}
use lib.Dec.{ltb}
use lib.ListN.{length, get_or, set}
use borrow.Author.Tests.{lt-ltb, le-ltb}
use mir.Syntax.{w8}
use mir.Val.{Fits}
use Rattle.octets.specs.Octets.{bytes}
use Rattle.rows.specs.Values.{Finding}
use Rattle.std.proofs.Common.{Ok, Err}
use Rattle.rows.specs.declared.Refusal.{Refusal}
use Rattle.kinds.specs.Kinds.{width_of, kind_in}
use Rattle.kinds.specs.declared.Kind.{Kind}
use Rattle.kinds.specs.declared.Element.{Element}
use Rattle.elements.specs.Elements.{same_kind, element_check, word_of}
use Rattle.history.specs.declared.Answer.{Answer}
use Rattle.history.specs.Verdict.{naming, done, then, numbers, checked, Puts}
use Rattle.history.specs.Table.{Plan, kind_at}
use Rattle.history.specs.Image.{element, found_in, ◌of◌⨾◌, read_image, image_bytes, widths, AcceptedImage}
use Rattle.history.specs.Calls.{placed, check_state, write_state_under, write_state_call}
use Rattle.history.proofs.OutputLaws.{given_done, puts_as, first_puts}
use Rattle.history.proofs.StateLaws.{Taken, state_taken}
use Rattle.history.proofs.ImageLaws.{length_words}
use Rattle.heads.specs.Heads.{image_head}
use Rattle.heads.specs.Written.{with_elements}
use Rattle.heads.proofs.Parts.{elements_in_lem, image_length}
use Rattle.heads.proofs.WrittenLaws.{image_again}
use Rattle.tables.proofs.AnswerLaws.{no, yes}
use Rattle.forms.specs.Places.{place_in, over}
use Rattle.forms.proofs.ElementPlaces.{words_over, words_long}
use Rattle.forms.proofs.UnderPlan.{Starts}
use Rattle.outputs.specs.Outputs.{image_with}
use Rattle.panel.proofs.ReadLaws.{taken}

-- ---- the state handed in

module _ (ns : List Kind) (i : ℕ) (e : Element) where
  -- 13: there is no such object
  pub no_object : length ns ≤ i → {s : Answer} → s ≡ numbers (naming 13 i 255) 0 → Err s ≡ checked (check_state ns i e)
  unfolding check_state
  no_object l q = ap Err q ∙ rw (le-ltb i (length ns) l)

  module _ (l : i < length ns) {own : Kind} (own_is : own ≡ kind_in e) where
    inside : ltb i (length ns) ≡ true
    inside = lt-ltb i (length ns) l

    alike : {t : Bool} → same_kind own (kind_at ns i) ≡ t → same_kind (kind_in e) (kind_at ns i) ≡ t
    alike h = ap (λ (k : Kind). same_kind k (kind_at ns i)) (sym own_is) ∙ h

    -- 22: the state is of another kind
    pub other_kind : {t : Bool} → t ≡ same_kind own (kind_at ns i) → not t ≡ true → {s : Answer}
        → s ≡ numbers (naming 22 i 255) 0 → Err s ≡ checked (check_state ns i e)
    unfolding check_state
    other_kind t-is h q = ap Err q ∙ rw (inside, alike (no t-is h))

    module _ {t : Bool} (t-is : t ≡ same_kind own (kind_at ns i)) (h : not t ≡ false) {word : ℕ}
        (word-is : word ≡ word_of e) {found : Finding} (found-is : found ≡ element_check (kind_at ns i) word) where
      by_finding : (found of i ⨾ done (word_of e)) ≡ check_state ns i e
      unfolding check_state element
      by_finding =
          ap (λ (n : Finding). n of i ⨾ done (word_of e))
          (found-is ∙ ap (element_check (kind_at ns i)) word-is)
          ∙ sym (rw (inside, alike (yes t-is h)))

      -- 12: the element's check refuses the state's word
      pub bad_state : {f : Refusal} → found ≡ Err f → {s : Answer} → s ≡ numbers (found_in f i) 0
          → Err s ≡ checked (check_state ns i e)
      bad_state {f} n q = ap Err q ∙ ap checked (ap (λ (n : Finding). n of i ⨾ done (word_of e)) (sym n) ∙ by_finding)

      pub good_state : found ≡ Ok tt → Ok tt ≡ checked (check_state ns i e)
      good_state n = ap checked (ap (λ (n : Finding). n of i ⨾ done (word_of e)) (sym n) ∙ by_finding)

-- ---- the table

pub write_starts : (T A : List ℕ) (i : ℕ) (e : Element) (position : ℕ)
    → Starts T (write_state_call T A i e position) (λ p. write_state_under p A i e position)
unfolding write_state_call
write_starts T A i e position = record { is = refl }

-- ---- the image

-- a state that is accepted is of an object of the table
module _ (ns : List Kind) (i : ℕ) (e : Element) (fine : Ok tt ≡ checked (check_state ns i e)) where
  state : (w : ℕ) × (check_state ns i e ≡ done w)
  state = let q = given_done (check_state ns i e) _ fine in (q.0, q.1)

  taken_state : Taken ns i e state.0
  taken_state = state_taken ns i e state.1

  pub state_object : i < length ns
  state_object = taken_state.inside

module _ (p : Plan) (A : List ℕ) (i : ℕ) (e : Element) (position : ℕ) where
  pub image_writes : {a : Answer} → Err a ≡ checked (read_image p A) → (out : List ℕ)
      → Puts (write_state_under p A i e position) out (Err a) out
  unfolding write_state_under
  image_writes bad out = first_puts (read_image p A) _ _ out bad

  module _ (h : (n : ℕ) → Fits w8 (get_or A n 0)) (good : Ok tt ≡ checked (read_image p A)) where
    abbrev image : AcceptedImage p A
    image = taken p A i h good

    under : write_state_under p A i e position
        ≡ then (check_state p.kinds i e)
        (λ w. done (image_bytes p (placed image.image i w position)))
    unfolding write_state_under
    under = rw image.reads

    pub state_writes : {a : Answer} → Err a ≡ checked (check_state p.kinds i e) → (out : List ℕ)
        → Puts (write_state_under p A i e position) out (Err a) out
    state_writes bad out = puts_as out (sym under) (first_puts (check_state p.kinds i e) _ _ out bad)

    pub image_sized : length A ≡ image_head A + widths p.kinds
    image_sized = image_length image

    module _ (fine : Ok tt ≡ checked (check_state p.kinds i e)) where
      with_state : (w : ℕ)
          → image_with p.kinds position i w A ≡ image_bytes p (placed image.image i w position)
      unfolding image_with
      with_state w =
          let inside : i < length p.kinds = state_object p.kinds i e fine in
          let words = words_over w image.legal.words i inside in
          let long = words_long w image.legal.words i ∙ length_words image.legal.words in
          ap (λ (es : List ℕ). with_elements A position
          (over (place_in p.kinds i) (bytes (width_of (kind_at p.kinds i)) w) es))
          (elements_in_lem image)
          ∙ ap (with_elements A position) words ∙ image_again image position (set image.image.words i w) long

      pub write_is : {word : ℕ} → word ≡ word_of e
          → done (image_with p.kinds position i word A) ≡ write_state_under p A i e position
      write_is {word} word-is =
          ap done (with_state word)
          ∙ ap (λ (w : ℕ). done (image_bytes p (placed image.image i w position))) word-is
          ∙ sym (under ∙ rw ((state p.kinds i e fine).1, ← (taken_state p.kinds i e fine).word))

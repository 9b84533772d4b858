-- Reading a state, at each place where the code returns: a refusal's numbers are those of the call, and the state that
-- the code reads at the element's place is the call's.
-- Assumes nothing.
use Prim.Native.Nat.{ℕ, zero, suc, ◌≤◌, ◌<◌}
use native.Mathlib.Omega.{arith}
use mathlib.Core.Path.{◌≡◌, refl, sym, ap, ◌∙◌}
use mathlib.Core.Bool.{true}
use mathlib.Core.List.{List}
use Rattle.std.specs.Prelude.{Ok, Err}
use lib.Dec.{ltb}
use lib.ListN.{length, take, drop, get_or}
use borrow.Author.Tests.{lt-ltb, le-ltb}
use mir.Syntax.{w8}
use mir.Val.{Fits}
use Rattle.octets.specs.Octets.{number}
use Rattle.kinds.specs.Kinds.{width_of}
use Rattle.kinds.specs.declared.Kind.{Kind}
use Rattle.kinds.specs.declared.Element.{Element}
use Rattle.elements.specs.Elements.{state_read, state_of}
use Rattle.history.specs.declared.Answer.{Answer}
use Rattle.history.specs.Verdict.{naming, Verdict, refused, done, refusal_at, ◌unless◌⨾◌, given, checked, numbers, told}
use Rattle.history.specs.Table.{Plan, kind_at}
use Rattle.history.specs.Image.{read_image, admits, Every, nil, and, AcceptedImage}
use Rattle.history.specs.Calls.{read_plan, read_state_under, read_state_call}
use Rattle.history.proofs.ElementLaws.{admits_read}
use Rattle.history.proofs.OutputLaws.{first_given}
use Rattle.history.proofs.StateLaws.{state_at}
use Rattle.forms.proofs.Accepted.{image_accepted}
use Rattle.heads.specs.Heads.{image_head, elements_in}
use Rattle.heads.proofs.Parts.{elements_in_lem, image_inside, elements_length}
use Rattle.forms.specs.Places.{place_in, Sized}
use Rattle.forms.proofs.ElementPlaces.{words_number}
use Rattle.forms.proofs.UnderPlan.{Starts, table_refused, under_plan}
use Rattle.panel.specs.Readings.{reading_of, answer_in}

-- a reading's numbers are the call's
pub reading_told : (v : Verdict Element) → answer_in (reading_of v) ≡ told v
unfolding told reading_of
reading_told (refused r) = refl
reading_told (done s) = refl

-- ---- the table

module _ (T A : List ℕ) (i : ℕ) where
  read_starts : Starts T (read_state_call T A i) (λ p. read_state_under p A i)
  unfolding read_state_call
  read_starts = record { is = refl }

  pub table_read : {a : Answer} → Err a ≡ given (λ (p : Plan). p) (read_plan T)
      → Err a ≡ reading_of (read_state_call T A i)
  unfolding reading_of
  table_read = table_refused read_starts (λ (e : Element). e)

  pub read_by_plan : {o p : Plan} → Ok o ≡ given (λ (p : Plan). p) (read_plan T) → p ≡ o
      → reading_of (read_state_under p A i) ≡ reading_of (read_state_call T A i)
  read_by_plan e q = ap reading_of (under_plan read_starts e q)

-- ---- the image

admitted_at : {ks : List Kind} {ws : List ℕ} → Every admits ks ws → (i : ℕ) → i < length ks
    → admits (kind_at ks i) (get_or ws i 0) ≡ true
admitted_at nil i l = absurd (omega arith)
admitted_at (and h r) zero l = h
admitted_at (and h r) (suc i) l = admitted_at r i (omega arith)

module _ (p : Plan) (A : List ℕ) (i : ℕ) where
  pub image_read : {a : Answer} → Err a ≡ checked (read_image p A) → Err a ≡ reading_of (read_state_under p A i)
  unfolding read_state_under reading_of
  image_read = first_given (read_image p A) _ _ (λ (e : Element). e)

  -- h: each number in A fits in a byte, as in any slice
  module _ (h : (n : ℕ) → Fits w8 (get_or A n 0)) (good : Ok tt ≡ checked (read_image p A)) where
    pub taken : AcceptedImage p A
    taken = image_accepted p A h good

    pub head_inside : image_head A ≤ length A
    head_inside = image_inside taken

    under : read_state_under p A i
        ≡ (refusal_at 13 i unless ltb i (length p.kinds) ⨾ done (state_at p taken.image i))
    unfolding read_state_under
    under = rw taken.reads

    -- 13: there is no such object
    pub other_object : length p.kinds ≤ i → {s : Answer} → s ≡ numbers (naming 13 i 255) 0
        → Err s ≡ reading_of (read_state_under p A i)
    unfolding reading_of
    other_object l {s} e =
        let none : read_state_under p A i ≡ refusal_at 13 i = under ∙ rw (le-ltb i (length p.kinds) l) in
        ap Err e ∙ sym (ap reading_of none)

    module _ (l : i < length p.kinds) where
      pub image_sized : length p.kinds ≤ 1024 → {es : List ℕ} → es ≡ elements_in A → Sized p.kinds es i
      image_sized few e = record { below = l; few = few; long = elements_length taken e }

      module _ {es : List ℕ} (es-is : es ≡ elements_in A) {word : ℕ}
          (word-is : word ≡ number (take (width_of (kind_at p.kinds i)) (drop (place_in p.kinds i) es))) where
        own_word : word ≡ get_or taken.image.words i 0
        own_word =
            word-is ∙ ap (λ (b : List ℕ). number
            (take (width_of (kind_at p.kinds i)) (drop (place_in p.kinds i) b)))
            (es-is ∙ elements_in_lem taken)
            ∙ words_number taken.legal.words i l

        admitted : admits (kind_at p.kinds i) word ≡ true
        admitted = rw own_word (admitted_at taken.legal.words i l)

        pub state_is : {e : Element} → e ≡ state_read (kind_at p.kinds i) word
            → Ok e ≡ reading_of (read_state_under p A i)
        unfolding reading_of
        state_is {e} e-is =
            let own : read_state_under p A i ≡ done (state_at p taken.image i) =
            under ∙ rw (lt-ltb i (length p.kinds) l) in
            ap Ok (e-is ∙ admits_read (kind_at p.kinds i) word admitted ∙ ap (state_of (kind_at p.kinds i)) own_word)
            ∙ sym (ap reading_of own)

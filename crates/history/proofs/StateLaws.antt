-- States in images: what was written is read back, writing what was read changes nothing, and other objects stay. All
-- states of one image written into any other give the first again.
-- Assumes nothing.
use Prim.Native.Nat.{ℕ, zero, suc, ◌+◌, ◌^◌, ◌<◌}
use native.Mathlib.Omega.{arith}
use mathlib.Core.Path.{◌≡◌, refl, sym, ap, ap₂, ◌∙◌}
use mathlib.Core.Bool.{Bool, true}
use mathlib.Core.List.{List, [], ◌∷◌, ◌++◌, map, zip_with}
use lib.Dec.{ltb}
use lib.ListN.{length, take, get_or, set, length-set}
use lib.Seq.{take_all, take-suc, take-suc-set, get_or-set_same, get_or-set_other, set-get_or}
use borrow.Author.Tests.{lt-ltb, ltb-true}
use Rattle.kinds.specs.Kinds.{kind_in}
use Rattle.elements.specs.Elements.{state_of, word_of}
use Rattle.kinds.specs.declared.Kind.{Kind}
use Rattle.kinds.specs.declared.Element.{Element}
use Rattle.elements.proofs.Laws.{state_kind}
use Rattle.elements.proofs.DatLaws.{Stale}
use Rattle.history.specs.Verdict.{naming, Verdict, refused, done, then, refusal_at, ◌unless◌⨾◌}
use Rattle.history.specs.Table.{Plan, kind_at}
use Rattle.std.proofs.Common.{is_ok}
use Rattle.history.specs.Image.{Image, element, ◌of◌⨾◌, image_bytes, admits, Every, nil, and}
use Rattle.history.specs.Image.{LegalImage, AcceptedImage}
use Rattle.history.specs.Calls.{read_plan, placed, read_state_under, read_state_call, check_state, write_state_under}
use Rattle.history.specs.Calls.{write_state_call}
use Rattle.elements.specs.Elements.{same_kind}
use Rattle.history.proofs.VerdictLaws.{held, used}
use Rattle.history.proofs.ElementLaws.{was_accepted, is_accepted_lem, admits_accepted, word_again, state_again}
use Rattle.history.proofs.ElementLaws.{state_admitted, same_kind_lem, is_same_kind, state_current, state_twelve}
use Rattle.history.proofs.OperationLaws.{one_version}
use Rattle.history.proofs.CallLaws.{legal_image}

-- object i's element as a state
abbrev pub state_at : Plan → Image → ℕ → Element
state_at p a i = state_of (kind_at p.kinds i) (get_or a.words i 0)

-- ---- all objects

-- states turned back into words are the words that they were read from
words_again : {ks : List Kind} {ws : List ℕ} → Every admits ks ws → map word_of (zip_with state_of ks ws) ≡ ws
unfolding zip_with
words_again nil = refl
words_again (and {a = k} {b = w} h r) = ap₂ ◌∷◌ (word_again k w h) (words_again r)

pub states_at : (d : Element) {ks : List Kind} {ws : List ℕ} → Every admits ks ws → (i : ℕ) → i < length ks
    → get_or (zip_with state_of ks ws) i d ≡ state_of (kind_at ks i) (get_or ws i 0)
unfolding zip_with
states_at d nil i h = absurd (omega arith)
states_at d (and p ps) zero h = refl
states_at d (and p ps) (suc i) h = states_at d ps i (omega arith)

-- ---- a test at each place

module _ {A B : Type 0} {test : A → B → Bool} where
  every_long : {xs : List A} {ys : List B} → Every test xs ys → length ys ≡ length xs
  every_long nil = refl
  every_long (and h r) = ap suc (every_long r)

  every_at : (d : A) (d' : B) {xs : List A} {ys : List B} → Every test xs ys → (i : ℕ) → i < length xs
      → test (get_or xs i d) (get_or ys i d') ≡ true
  every_at d d' nil i l = absurd (omega arith)
  every_at d d' (and h r) zero l = h
  every_at d d' (and h r) (suc i) l = every_at d d' r i (omega arith)

  every_set : (d : A) {xs : List A} {ys : List B} → Every test xs ys → (i : ℕ) (b : B) → i < length xs
      → test (get_or xs i d) b ≡ true → Every test xs (set ys i b)
  every_set d nil i b l t = nil
  every_set d (and h r) zero b l t = and t r
  every_set d (and h r) (suc i) b l t = and h (every_set d r i b (omega arith) t)

-- ---- the check of a state that is to be written

module _ (ks : List Kind) (i : ℕ) (e : Element) where
  -- accepted: the object exists and has the state's kind, and the word is the state's
  pub record Taken (w : ℕ) : Type 0 where
    pub inside : i < length ks
    pub kind : kind_in e ≡ kind_at ks i
    pub good : is_ok (element (kind_at ks i) (word_of e)) ≡ true
    pub word : word_of e ≡ w

  pub state_taken : {w : ℕ} → check_state ks i e ≡ done w → Taken w
  unfolding check_state
  state_taken q =
      let q₁ = held (ltb i (length ks)) _ _ q in
      let q₂ = held (same_kind (kind_in e) (kind_at ks i)) _ _ q₁.1 in
      let q₃ = was_accepted (element (kind_at ks i) (word_of e)) i _ q₂.1 in
      record {
        inside = ltb-true _ _ q₁.0;
        kind = same_kind_lem (kind_in e) (kind_at ks i) q₂.0;
        good = q₃.0;
        word = cc q₃.1;
      }

  state_checked : i < length ks → kind_in e ≡ kind_at ks i
      → check_state ks i e ≡ (element (kind_at ks i) (word_of e) of i ⨾ done (word_of e))
  unfolding check_state
  state_checked l s = rw (lt-ltb i (length ks) l, is_same_kind (kind_in e) (kind_at ks i) s)

-- ---- the calls

-- the states of A's objects from i on, each read and written into Z, one at each of the positions
abbrev pub states_into : List ℕ → List ℕ → ℕ → List ℕ → List ℕ → Verdict (List ℕ)
states_into T A i [] Z = done Z
states_into T A i (position ∷ rest) Z =
    then (read_state_call T A i) λ e. then (write_state_call T Z i e position) λ Y. states_into T A (suc i) rest Y

abbrev pub AllBelow : ℕ → List ℕ → Type 0
AllBelow n [] = Unit {0}
AllBelow n (x ∷ xs) = (x < n) × AllBelow n xs

module _ (T : List ℕ) {p : Plan} (t : read_plan T ≡ done p) where
  -- what a read of object i gives in an accepted image
  abbrev answered : ℕ → Element → Verdict Element
  answered i state = refusal_at 13 i unless ltb i (length p.kinds) ⨾ done state

  read_any : {A : List ℕ} (a : AcceptedImage p A) (i : ℕ) → read_state_call T A i ≡ answered i (state_at p a.image i)
  unfolding read_state_call read_state_under
  read_any a i = rw (t, a.reads)

  pub read_is : {A : List ℕ} (a : AcceptedImage p A) (i : ℕ) → i < length p.kinds
      → read_state_call T A i ≡ done (state_at p a.image i)
  unfolding read_state_call read_state_under
  read_is a i h = rw (t, a.reads, lt-ltb i (length p.kinds) h)

  -- what a successful write tells
  pub record Wrote {A : List ℕ} (a : AcceptedImage p A) (i : ℕ) (e : Element) (position : ℕ) (B : List ℕ) : Type 0 where
    pub inside : i < length p.kinds
    pub kind : kind_in e ≡ kind_at p.kinds i
    pub good : admits (kind_at p.kinds i) (word_of e) ≡ true
    pub same : B ≡ image_bytes p (placed a.image i (word_of e) position)

  pub wrote : {A B : List ℕ} (a : AcceptedImage p A) (i : ℕ) (e : Element) (position : ℕ)
      → write_state_call T A i e position ≡ done B → Wrote a i e position B
  unfolding write_state_call write_state_under
  wrote {A} {B} a i e position q =
      let c = used (check_state p.kinds i e) _ (rw (t, a.reads) at q) in
      let k = state_taken p.kinds i e c.1 in
      record {
        inside = k.inside;
        kind = k.kind;
        good = state_admitted (kind_at p.kinds i) e k.kind k.good;
        same = cc (c.2, k.word);
      }

  -- the new image is legal
  placed_legal : {z : Image} → LegalImage p z → (i w position : ℕ) → i < length p.kinds
      → admits (kind_at p.kinds i) w ≡ true → position < 2 ^ 32 → LegalImage p (placed z i w position)
  placed_legal h i w position inside good small =
      record { version = h.version; position = omega arith; words = every_set Kind.Signal h.words i w inside good }

  pub written_legal : {A B : List ℕ} (a : AcceptedImage p A) (i : ℕ) (e : Element) (position : ℕ) → position < 2 ^ 32
      → Wrote a i e position B
      → LegalImage p (placed a.image i (word_of e) position)
  written_legal a i e position small w = placed_legal a.legal i (word_of e) position w.inside w.good small

  pub write_is : {A : List ℕ} (a : AcceptedImage p A) (i : ℕ) (e : Element) (position : ℕ) → i < length p.kinds
      → kind_in e ≡ kind_at p.kinds i → is_ok (element (kind_at p.kinds i) (word_of e)) ≡ true
      → write_state_call T A i e position ≡ done (image_bytes p (placed a.image i (word_of e) position))
  unfolding write_state_call write_state_under
  write_is a i e position l s h =
      rw (
        t,
        a.reads,
        state_checked p.kinds i e l s,
        is_accepted_lem (element (kind_at p.kinds i) (word_of e)) i (done (word_of e)) h,
      )

  -- a state of the object's kind is written, unless DAT is 0 and another bit is 1: then it is refused with 12
  pub write_current : {A : List ℕ} (a : AcceptedImage p A) (i : ℕ) (e : Element) (position : ℕ) → i < length p.kinds
      → kind_in e ≡ kind_at p.kinds i → (Stale (kind_in e) (word_of e) → ⊥)
      → write_state_call T A i e position ≡ done (image_bytes p (placed a.image i (word_of e) position))
  write_current a i e position l s n =
      write_is a i e position l s (ap is_ok (state_current (kind_at p.kinds i) e s n))

  pub write_stale : {A : List ℕ} (a : AcceptedImage p A) (i : ℕ) (e : Element) (position : ℕ) → i < length p.kinds
      → kind_in e ≡ kind_at p.kinds i → Stale (kind_in e) (word_of e)
      → write_state_call T A i e position ≡ refused (naming 12 i 0)
  unfolding write_state_call write_state_under
  write_stale a i e position l s h =
      rw (t, a.reads, state_checked p.kinds i e l s, state_twelve (kind_at p.kinds i) e s h)

  abbrev pub written_image : {A B : List ℕ} (a : AcceptedImage p A) (i : ℕ) (e : Element) (position : ℕ)
      → position < 2 ^ 32 → Wrote a i e position B → AcceptedImage p B
  written_image a i e position small w = legal_image T t (written_legal a i e position small w) w.same

  -- a state that was written is read back
  pub write_read : {A B : List ℕ} (a : AcceptedImage p A) (i : ℕ) (e : Element) (position : ℕ) → position < 2 ^ 32
      → write_state_call T A i e position ≡ done B → read_state_call T B i ≡ done e
  write_read a i e position small q =
      let w = wrote a i e position q in
      let long : i < length a.image.words = omega (arith, every_long a.legal.words, w.inside) in
      read_is (written_image a i e position small w) i w.inside
      ∙ ap done (ap (state_of (kind_at p.kinds i)) (get_or-set_same a.image.words i (word_of e) 0 long)
      ∙ state_again (kind_at p.kinds i) e w.kind)

  -- other objects stay
  pub write_other : {A B : List ℕ} (a : AcceptedImage p A) (i : ℕ) (e : Element) (position : ℕ) → position < 2 ^ 32
      → write_state_call T A i e position ≡ done B → (j : ℕ) → (j ≡ i → ⊥)
      → read_state_call T B j ≡ read_state_call T A j
  write_other a i e position small q j n =
      let w = wrote a i e position q in
      read_any (written_image a i e position small w) j
      ∙ ap (λ (w : ℕ). answered j (state_of (kind_at p.kinds j) w))
      (get_or-set_other a.image.words i j (word_of e) 0 n)
      ∙ sym (read_any a j)

  -- a state read from image a and written into image z puts a's word there
  write_word : {A Z : List ℕ} (a : AcceptedImage p A) (z : AcceptedImage p Z) (i position : ℕ) → i < length p.kinds
      → write_state_call T Z i (state_at p a.image i) position
      ≡ done (image_bytes p (placed z.image i (get_or a.image.words i 0) position))
  write_word a z i position l =
      let k : Kind = kind_at p.kinds i in
      let w : ℕ = get_or a.image.words i 0 in
      let good = every_at Kind.Signal 0 a.legal.words i l in
      let word : word_of (state_of k w) ≡ w = word_again k w good in
      write_is z i (state_of k w) position l (state_kind k w) (rw word (admits_accepted k w good))
      ∙ ap (λ (v : ℕ). done (image_bytes p (placed z.image i v position))) word

  -- .. written into a itself, at a's position, it gives the same bytes
  pub read_write : {A : List ℕ} (a : AcceptedImage p A) (i : ℕ) (e : Element)
      → read_state_call T A i ≡ done e → write_state_call T A i e a.image.position ≡ done A
  read_write {A} a i e q =
      let r = held (ltb i (length p.kinds)) _ _ (sym (read_any a i) ∙ q) in
      let l = ltb-true i (length p.kinds) r.0 in
      let e-is : e ≡ state_at p a.image i = cc (read_is a i l) in
      ap (λ (s : Element). write_state_call T A i s a.image.position) e-is
      ∙ write_word a a i a.image.position l
      ∙ ap done (ap (λ (ws : List ℕ). image_bytes p
      (record { version = a.image.version; position = a.image.position; words = ws }))
      (set-get_or a.image.words i 0)
      ∙ sym a.same)

  -- ---- all states of one image written into another: the words below i are there already, and the next is written

  module _ {A Z : List ℕ} (a : AcceptedImage p A) (z : AcceptedImage p Z) (i : ℕ) (inside : i < length p.kinds) where
    abbrev next_image : (position : ℕ) → position < 2 ^ 32
        → AcceptedImage p (image_bytes p (placed z.image i (get_or a.image.words i 0) position))
    next_image position small =
        legal_image T t
        (placed_legal z.legal i (get_or a.image.words i 0) position inside
        (every_at Kind.Signal 0 a.legal.words i inside) small) refl

    module _ (so : take i z.image.words ≡ take i a.image.words) where
      next_word : take (suc i) (set z.image.words i (get_or a.image.words i 0)) ≡ take (suc i) a.image.words
      next_word =
          let w : ℕ = get_or a.image.words i 0 in
          take-suc-set z.image.words i w (omega (arith, every_long z.legal.words))
          ∙ ap (λ (ws : List ℕ). ws ++ (w ∷ [])) so
          ∙ sym (take-suc a.image.words i 0 (omega (arith, every_long a.legal.words)))

      last_image : suc i ≡ length p.kinds
          → image_bytes p (placed z.image i (get_or a.image.words i 0) a.image.position) ≡ A
      last_image n =
          let w : ℕ = get_or a.image.words i 0 in
          let all-z =
          take_all (suc i) (set z.image.words i w)
          (omega (arith, length-set z.image.words i w, every_long z.legal.words)) in
          let all-a = take_all (suc i) a.image.words (omega (arith, every_long a.legal.words)) in
          let words : set z.image.words i w ≡ a.image.words = sym all-z ∙ next_word ∙ all-a in
          ap (image_bytes p)
          (λ j. record {
            version = one_version z.legal a.legal j;
            position = a.image.position;
            words = words j;
          })
          ∙ sym a.same

  pub all_into : {A Z : List ℕ} (a : AcceptedImage p A) (z : AcceptedImage p Z) (i : ℕ) (ps : List ℕ)
      → AllBelow (2 ^ 32) ps → i + suc (length ps) ≡ length p.kinds
      → take i z.image.words ≡ take i a.image.words
      → states_into T A i (ps ++ (a.image.position ∷ [])) Z ≡ done A
  all_into a z i [] h n so =
      let l : i < length p.kinds = omega arith in
      rw (read_is a i l, write_word a z i a.image.position l) (ap done (last_image a z i l so (omega arith)))
  all_into {A = A} {Z = Z} a z i (position ∷ ps) h n so =
      let l : i < length p.kinds = omega arith in
      let y = next_image a z i l position h.0 in
      rw (read_is a i l, write_word a z i position l)
      (all_into {Z = image_bytes p (placed z.image i (get_or a.image.words i 0) position)} a y (suc i) ps h.1
      (omega arith)
      (next_word a z i l so))

  -- the states of all objects, written as an image, give the image's bytes
  pub states_written : {A : List ℕ} (a : AcceptedImage p A)
      → image_bytes p
      (record {
        version = a.image.version;
        position = a.image.position;
        words = map word_of (zip_with state_of p.kinds a.image.words);
      }) ≡ A
  states_written a =
      ap (λ (ws : List ℕ). image_bytes p
      (record { version = a.image.version; position = a.image.position; words = ws }))
      (words_again a.legal.words)
      ∙ sym a.same

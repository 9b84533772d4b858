-- An image changed in place: with its elements and its position put, its bytes are those of the changed image;
-- and the same of a copy at the front of an output.
-- Assumes nothing.
use Prim.Native.Nat.{ℕ, ◌+◌, ◌-◌, ◌^◌, ◌≤◌, ◌<◌}
use native.Mathlib.Omega.{arith}
use mathlib.Core.Path.{◌≡◌, refl, sym, ap, ap₂, ◌∙◌}
use mathlib.Core.List.{List, ◌++◌, append-nil}
use lib.ListN.{length, take, drop, length-drop, take-append-drop}
use lib.Seq.{take_at, drop_at, drop-drop, drop-length, length-take-le}
use borrow.Rule.Slice.PartMut.{put_mid, mid_of, mid_len}
use Rattle.std.specs.Prelude.{Ok, Err}
use Rattle.octets.specs.Octets.{bytes}
use Rattle.octets.proofs.NumberLaws.{length_bytes}
use Rattle.kinds.specs.Kinds.{width_of}
use Rattle.kinds.specs.declared.Kind.{Kind}
use Rattle.history.specs.declared.Answer.{Answer}
use Rattle.history.specs.Verdict.{done, unnamed, Puts}
use Rattle.history.specs.Table.{kind_at}
use Rattle.history.specs.Image.{widths}
use Rattle.history.proofs.ImageLaws.{widths_few}
use Rattle.history.proofs.OutputLaws.{short_puts, written_puts}
use Rattle.heads.specs.Heads.{image_head, elements_in}
use Rattle.heads.specs.Written.{with_elements}
use Rattle.heads.proofs.Places.{head_few, elements_from_lem}
use Rattle.heads.proofs.WrittenLaws.{renewed_inside, renewed_with, with_long}
use Rattle.forms.specs.Places.{place_in, Sized, over}
use Rattle.forms.proofs.ElementPlaces.{over_past, over_long, place_within, own_width, element_inside}
use Rattle.walks.specs.Walks.{renewal}
use Rattle.walks.proofs.Application.{length_renewal}
use Rattle.outputs.specs.Outputs.{image_after, image_with}

-- ---- the parts

-- ys put over everything from n on
put_end : (n : ℕ) (l ys : List ℕ) → n ≤ length l → put_mid n (length l - n) l ys ≡ take n l ++ ys
put_end n l ys h =
    let m : n + (length l - n) ≡ length l = omega arith in
    ap (λ (r : List ℕ). take n l ++ (ys ++ r))
    (drop-drop (length l - n) n l ∙ ap (λ (k : ℕ). drop k l) m ∙ drop-length l)
    ∙ ap (λ (r : List ℕ). take n l ++ r) (append-nil ys)

-- a part lent from the middle and filled with a number
put_part : (l b : List ℕ) (from to v : ℕ) → from ≤ to → to ≤ length l → b ≡ bytes (length (mid_of from (to - from) l)) v
    → put_mid from (to - from) l b ≡ over from (bytes (to - from) v) l
put_part l b from to v s h q =
    let b-is : b ≡ bytes (to - from) v = q ∙ ap (λ (n : ℕ). bytes n v) (mid_len from to l h) in
    ap₂ (λ (b r : List ℕ). take from l ++ (b ++ r)) b-is
    (drop-drop (to - from) from l ∙ ap (λ (n : ℕ). drop (from + n) l) (sym (length_bytes (to - from) v)))

-- ---- an image of a table's elements, and where the code has them begin

module _ (ks : List Kind) (b : List ℕ) (h : length b ≡ image_head b + widths ks) where
  inside : image_head b ≤ length b
  inside = omega arith

  elements_long : length (elements_in b) ≡ widths ks
  unfolding elements_in
  elements_long = length-drop (image_head b) b ∙ omega arith

  -- the length of an image of at most 1,024 objects fits in 32 bits
  pub few_bytes : length ks ≤ 1024 → length b < 2 ^ 32
  few_bytes few = omega (arith, head_few b, widths_few ks)

  module _ (place : ℕ) (e : place ≡ image_head b) where
    begins_inside : place ≤ length b
    begins_inside = omega arith

    -- a list's entries are taken into the elements
    module _ (to : ℕ) (entries : List ℕ) {es : List ℕ}
        (q : es ≡ renewal 0 ks entries (mid_of place (length b - place) b)) where
      after : put_mid place (length b - place) b es
          ≡ take (image_head b) b ++ renewal 0 ks entries (elements_in b)
      after =
          put_end place b es begins_inside
          ∙ ap₂ (λ (n : ℕ) (r : List ℕ). take n b ++ r) e
          (q ∙ ap (renewal 0 ks entries) (elements_from_lem b place e))

      pub taken_inside : image_head (put_mid place (length b - place) b es)
          ≤ length (put_mid place (length b - place) b es)
      taken_inside = rw after (renewed_inside b (renewal 0 ks entries (elements_in b)) inside)

      pub taken : {r : List ℕ}
          → r ≡ with_elements (put_mid place (length b - place) b es) to
          (elements_in (put_mid place (length b - place) b es))
          → r ≡ image_after ks to entries b
      unfolding image_after
      taken f = f ∙ ap (λ (m : List ℕ). with_elements m to (elements_in m)) after ∙ renewed_with b _ inside to

    -- one object's element is put
    module _ {i : ℕ} (l : i < length ks) (few : length ks ≤ 1024) {o : ℕ} (o_is : o ≡ place_in ks i)
        {kind : Kind} (kind_is_lem : kind ≡ kind_at ks i) {w : ℕ} (w-is : w ≡ width_of kind) where
      own : Sized ks (elements_in b) i
      own = record { below = l; few = few; long = elements_long }

      pub put_inside : place + o + w ≤ length b
      put_inside = omega (arith, element_inside own o_is kind_is_lem w-is, elements_long)

      module _ (to word : ℕ) {ws : List ℕ}
          (q : ws ≡ bytes (length (mid_of (place + o) (place + o + w - (place + o)) b)) word) where
        abbrev renewed : List ℕ
        renewed = over (place_in ks i) (bytes (width_of (kind_at ks i)) word) (elements_in b)

        with_element : put_mid (place + o) (place + o + w - (place + o)) b ws ≡ take (image_head b) b ++ renewed
        unfolding elements_in
        with_element =
            let n : place + o + w - (place + o) ≡ width_of (kind_at ks i) =
            omega (arith, own_width own o_is kind_is_lem w-is) in
            let long : length (take (image_head b) b) ≡ image_head b = length-take-le (image_head b) b inside in
            put_part b ws (place + o) (place + o + w) word (omega arith) put_inside q
            ∙ ap₂ (λ (n : ℕ) (c : List ℕ). over (place + o) (bytes n word) c) n
            (sym (take-append-drop (image_head b) b))
            ∙ over_past (take (image_head b) b) (bytes (width_of (kind_at ks i)) word)
            (drop (image_head b) b)
            (place + o) (place_in ks i) (omega (arith, long))

        pub put_head : image_head (put_mid (place + o) (place + o + w - (place + o)) b ws)
            ≤ length (put_mid (place + o) (place + o + w - (place + o)) b ws)
        put_head = rw with_element (renewed_inside b renewed inside)

        pub put_done : {r : List ℕ}
            → r ≡ with_elements (put_mid (place + o) (place + o + w - (place + o)) b ws) to
            (elements_in (put_mid (place + o) (place + o + w - (place + o)) b ws))
            → r ≡ image_with ks to i word b
        unfolding image_with
        put_done f =
            f ∙ ap (λ (m : List ℕ). with_elements m to (elements_in m)) with_element ∙ renewed_with b _ inside to

  -- ---- how long the changed images are

  pub length_after : (to : ℕ) (entries : List ℕ) → length (image_after ks to entries b) ≡ length b
  unfolding image_after
  length_after to entries =
      with_long b _ to inside
      ∙ ap (λ (n : ℕ). image_head b + n) (length_renewal ks 0 entries (elements_in b) elements_long) ∙ sym h

  pub length_with : (to : ℕ) {i : ℕ} (word : ℕ) → i < length ks
      → length (image_with ks to i word b) ≡ length b
  unfolding image_with
  length_with to {i} word l =
      let w : ℕ = width_of (kind_at ks i) in
      let room : place_in ks i + w ≤ length (elements_in b) =
      omega (arith, place_within ks i l, elements_long) in
      with_long b _ to inside
      ∙ ap (λ (n : ℕ). image_head b + n)
      (over_long (place_in ks i) (bytes w word) (elements_in b) (rw (length_bytes w word) room)
      ∙ elements_long) ∙ sym h

-- ---- a copy at the front of the output, changed there

-- there was no room for it, and a changed image needs as much
pub not_copied : (b out : List ℕ) {n : ℕ} → length b ≡ n → {a : Answer} {m : List ℕ}
    → (a ≡ unnamed 21 n) × (length out < n) × (m ≡ out) → Puts (done b) out (Err a) m
not_copied b out l q = rw q.2 (short_puts b out l q.1 (ap Err q.0))

pub copied_puts : (A out : List ℕ) {n : ℕ} {m : List ℕ} → (n ≡ length A) × (n ≤ length out) × (m ≡ A ++ drop n out)
    → (f : List ℕ → List ℕ) → length (f A) ≡ length A → {bs : List ℕ} → bs ≡ f (take n m)
    → Puts (done (f A)) out (Ok n) (bs ++ drop n m)
copied_puts A out {n} {m} q f same p =
    let here : take n m ≡ A = ap (take n) q.2 ∙ take_at A (drop n out) n (sym q.0) in
    let rest : drop n m ≡ drop n out = ap (drop n) q.2 ∙ drop_at A (drop n out) n (sym q.0) in
    written_puts (f A) out (same ∙ sym q.0) q.1 refl (ap₂ ◌++◌ (p ∙ ap f here) rest)

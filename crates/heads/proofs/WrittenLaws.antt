-- What is written, part by part, and how long it is: a list's head; an image's position and its elements.
-- Assumes nothing.
use Prim.Native.Nat.{ℕ, ◌+◌, ◌≤◌}
use native.Mathlib.Omega.{arith}
use mathlib.Core.Path.{◌≡◌, refl, sym, ap, ap₂, ◌∙◌}
use mathlib.Core.List.{List, [], ◌∷◌, ◌++◌, append_assoc}
use lib.ListN.{length, take, drop, set, length-append, get_or-append}
use lib.Seq.{drop-drop, drop_at, take-append-le, take-take, get_or-take, length-take-le}
use borrow.Rule.Slice.PartMut.{put_mid, mid_of, mid_len}
use Rattle.octets.specs.Octets.{bytes}
use Rattle.octets.proofs.NumberLaws.{length_bytes}
use Rattle.octets.proofs.Writing.{start, append_at, append_put, append_store, filled}
use Rattle.kinds.specs.declared.Kind.{Kind}
use Rattle.history.specs.declared.Change.{Change}
use Rattle.history.specs.Form.{form_bytes}
use Rattle.history.specs.Table.{Plan}
use Rattle.history.specs.Image.{Image, widths, words_bytes, image_bytes, elements_from, AcceptedImage}
use Rattle.history.specs.Changes.{list_version, entries, entries_bytes, list_bytes}
use Rattle.history.proofs.ImageLaws.{length_words}
use Rattle.heads.specs.Heads.{elements_place, image_head, elements_in, entries_place}
use Rattle.heads.specs.Written.{opening, list_head, with_elements}
use Rattle.heads.proofs.Places.{head_place}

-- ---- a list

length_opening : (n x y : ℕ) → length (opening n x y) ≡ 7
unfolding opening
length_opening n x y = simp (length-append, length_bytes)

pub length_head : (x y from to count size : ℕ) → length (list_head x y from to count size) ≡ entries_place
unfolding list_head entries_place
length_head x y from to count size = simp (length-append, length_bytes, length_opening)

pub opening_put : (part : List ℕ) → length part ≡ 7 → (n x y : ℕ) {ns : List ℕ}
    → ns ≡ bytes (length (mid_of 0 4 part)) n
    → set (set (set (put_mid 0 4 part ns) 4 1) 5 x) 6 y ≡ opening n x y
unfolding opening list_version
opening_put part h n x y e =
    let w₁ = append_put (start part) n 4 e (omega arith) (omega arith) in
    let w₂ = append_store w₁ 1 (omega arith) in
    let w₃ = append_store w₂ x (omega arith) in
    let w₄ = append_store w₃ y (omega arith) in
    filled w₄ (omega arith) ∙ simp append_assoc

pub head_put : (part : List ℕ) → length part ≡ entries_place → (x y from to count size : ℕ) {os fs ts cs : List ℕ}
    → os ≡ opening (13 + size) x y → fs ≡ bytes (length (mid_of 7 4 (put_mid 0 7 part os))) from
    → ts ≡ bytes (length (mid_of 11 4 (put_mid 7 4 (put_mid 0 7 part os) fs))) to
    → cs ≡ bytes (length (mid_of 15 2 (put_mid 11 4 (put_mid 7 4 (put_mid 0 7 part os) fs) ts))) count
    → put_mid 15 2 (put_mid 11 4 (put_mid 7 4 (put_mid 0 7 part os) fs) ts) cs ≡ list_head x y from to count size
unfolding list_head entries_place
head_put part h x y from to count size eo ef et ec =
    let w₁ = append_at (start part) eo 7 (omega (arith, length_opening (13 + size) x y)) (omega arith) in
    let w₂ = append_put w₁ from 11 ef (omega arith) (omega arith) in
    let w₃ = append_put w₂ to 15 et (omega arith) (omega arith) in
    let w₄ = append_put w₃ count 17 ec (omega arith) (omega arith) in
    filled w₄ (omega arith) ∙ simp append_assoc

-- a list is its head and its entries
pub list_split : (x y : ℕ) (ks : List Kind) (from to : ℕ) (cs : List Change)
    → list_bytes (record { x = x; y = y; kinds = ks }) (record { from = from; to = to; each = cs })
    ≡ list_head x y from to (entries cs) (length (entries_bytes 0 ks cs)) ++ entries_bytes 0 ks cs
unfolding list_bytes form_bytes list_head opening
list_split x y ks from to cs =
    let long : 3 + length (bytes 4 from ++ (bytes 4 to ++ (bytes 2 (entries cs) ++ entries_bytes 0 ks cs)))
    ≡ 13 + length (entries_bytes 0 ks cs) =
    simp (length-append, length_bytes) (omega arith) in
    rw long (simp append_assoc)

-- ---- an image

-- writing the position through its part of the bytes
pub position_put : (b : List ℕ) → image_head b ≤ length b → (position : ℕ) {ps : List ℕ}
    → ps ≡ bytes (length (mid_of 7 4 b)) position
    → put_mid 7 4 b ps ≡ with_elements b position (elements_in b)
unfolding with_elements elements_in image_head elements_place elements_from
position_put b h position e =
    let four : length (mid_of 7 4 b) ≡ 4 = mid_len 7 11 b (omega arith) in
    ap₂ (λ (ps r : List ℕ). take 7 b ++ (ps ++ r)) (e ∙ ap (λ (n : ℕ). bytes n position) four) (drop-drop 4 7 b)

-- the image b with the elements es in place of its own
module _ (b es : List ℕ) (h : image_head b ≤ length b) where
  abbrev renewed : List ℕ
  renewed = take (image_head b) b ++ es

  front_long : length (take (image_head b) b) ≡ image_head b
  front_long = length-take-le (image_head b) b h

  renewed_head : image_head renewed ≡ image_head b
  unfolding image_head
  renewed_head =
      ap elements_place
      (get_or-append (take (image_head b) b) es 0 4 (omega (arith, front_long, head_place b))
      ∙ get_or-take (image_head b) b 4 0 (omega (arith, head_place b)))

  pub renewed_inside : image_head renewed ≤ length renewed
  renewed_inside = omega (arith, renewed_head, length-append (take (image_head b) b) es, front_long)

  -- .. and then a position written into it
  pub renewed_with : (position : ℕ) → with_elements renewed position (elements_in renewed) ≡ with_elements b position es
  unfolding with_elements elements_in
  renewed_with position =
      let front : take 7 renewed ≡ take 7 b =
      take-append-le 7 (take (image_head b) b) es (omega (arith, front_long, head_place b))
      ∙ take-take 7 (image_head b) b (omega (arith, head_place b)) in
      let behind : drop (image_head renewed) renewed ≡ es =
      drop_at (take (image_head b) b) es (image_head renewed) (front_long ∙ sym renewed_head) in
      ap₂ (λ (f e : List ℕ). f ++ (bytes 4 position ++ e)) front behind

pub with_long : (b es : List ℕ) (position : ℕ) → image_head b ≤ length b
    → length (with_elements b position es) ≡ image_head b + length es
unfolding with_elements image_head elements_place elements_from
with_long b es position h = simp (length-append, length_bytes, length-take-le 7 b (omega arith)) (omega arith)

front : (n v x y : ℕ) (r : List ℕ) → take 7 (bytes 4 n ++ (v ∷ x ∷ y ∷ r)) ≡ bytes 4 n ++ (v ∷ x ∷ y ∷ [])
unfolding bytes
front n v x y r = refl

image_front : (p : Plan) (a : Image)
    → take 7 (image_bytes p a)
    ≡ bytes 4 (7 + length (words_bytes p.kinds a.words)) ++ (a.version ∷ p.x ∷ p.y ∷ [])
unfolding image_bytes form_bytes
image_front p a =
    let n : ℕ = 7 + length (words_bytes p.kinds a.words) in
    let long : 3 + length (bytes 4 a.position ++ words_bytes p.kinds a.words) ≡ n =
    simp (length-append, length_bytes) (omega arith) in
    rw long (front n a.version p.x p.y (bytes 4 a.position ++ words_bytes p.kinds a.words))

-- putting another position and other words into an accepted image's bytes gives the new image, written
pub image_again : {p : Plan} {A : List ℕ} (a : AcceptedImage p A) (to : ℕ) (ws : List ℕ)
    → length (words_bytes p.kinds ws) ≡ widths p.kinds
    → with_elements A to (words_bytes p.kinds ws)
    ≡ image_bytes p (record { version = a.image.version; position = to; words = ws })
unfolding with_elements image_bytes form_bytes
image_again {p} a to ws h =
    let w : List ℕ = words_bytes p.kinds ws in
    let long : 3 + length (bytes 4 to ++ w) ≡ 7 + widths p.kinds =
    simp (length-append, length_bytes, h) (omega arith) in
    ap (λ (b : List ℕ). take 7 b ++ (bytes 4 to ++ w)) a.same
    ∙ rw (image_front p a.image, length_words a.legal.words, long)
    (append_assoc (bytes 4 (7 + widths p.kinds)) _ (bytes 4 to ++ w))

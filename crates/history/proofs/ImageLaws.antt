-- Bytes are accepted as an image exactly where they are a legal image, written; they are read as that image.
-- Assumes nothing.
use Prim.Native.Nat.{ℕ, suc, ◌+◌, ◌*◌, ◌≤◌}
use native.Mathlib.Omega.{arith}
use mathlib.Core.Path.{◌≡◌, refl, ap, ◌∙◌}
use mathlib.Core.Bool.{true, ◌&&◌}
use mathlib.Core.List.{List, [], ◌∷◌, ◌++◌}
use mathlib.Core.Logic.{◌↔◌}
use lib.Dec.{eqb}
use lib.ListN.{length, take, drop, length-append, length-drop}
use lib.Seq.{take-append-le, drop-append-le}
use borrow.Author.Tests.{eq-eqb, eqb-true, lt-ltb}
use Rattle.kinds.specs.Kinds.{width_of}
use Rattle.kinds.specs.declared.Kind.{Kind}
use Rattle.octets.specs.Octets.{bytes, number, Bytes}
use Rattle.history.specs.Verdict.{done}
use Rattle.history.specs.Form.{Form, form_bytes, read_form}
use Rattle.history.specs.Table.{Plan, same_catalogue}
use Rattle.history.specs.Image.{Image, image_version_good, element, widths, words_bytes, image_bytes, read_words}
use Rattle.history.specs.Image.{elements_from, read_image, admits, Every, nil, and, LegalImage}
use Rattle.octets.proofs.NumberLaws.{length_bytes, read_bytes, drop_bytes, drop_is, cut, below}
use Rattle.history.proofs.VerdictLaws.{all, left, right, held, used}
use Rattle.history.proofs.FormLaws.{Formed, form_is, form_reads}
use Rattle.history.proofs.ElementLaws.{was_accepted, is_accepted_lem, admits_fits, admits_accepted, width_few}

-- ---- all elements

words_are : (ks : List Kind) (i : ℕ) (b : List ℕ) {ws : List ℕ} → Bytes b → length b ≡ widths ks
    → read_words i ks b ≡ done ws
    → Every admits ks ws × (b ≡ words_bytes ks ws)
words_are [] i [] {ws} h s e =
    let ws-is : ws ≡ [] = cc in
    rw ws-is (nil, refl)
words_are [] i (x ∷ xs) h s e = absurd (omega arith)
words_are (k ∷ ks) i b {ws} h s e =
    let n : ℕ = width_of k in
    let w : ℕ = number (take n b) in
    let f = was_accepted (element k w) i _ e in
    let q = used (read_words (suc i) ks (drop n b)) _ f.1 in
    let room : n ≤ length b = omega arith in
    let r = words_are ks (suc i) (drop n b) (drop_is n b h) (simp length-drop (omega arith)) q.1 in
    let ws-is : ws ≡ w ∷ q.0 = cc q.2 in
    rw ws-is (
      and (all (lt-ltb _ _ (below n b room h)) f.0) r.0,
      cut n b room h ∙ ap (λ (c : List ℕ). bytes n w ++ c) r.1,
    )

words_read : (i : ℕ) {ks : List Kind} {ws : List ℕ} → Every admits ks ws → read_words i ks (words_bytes ks ws) ≡ done ws
words_read i nil = refl
words_read i (and {a = k} {b = w} {xs = ks} {ys = ws} h r) =
    rw (
      read_bytes (width_of k) w (words_bytes ks ws) (admits_fits k w h),
      drop_bytes (width_of k) w (words_bytes ks ws),
      words_read (suc i) r,
    )
    (is_accepted_lem (element k w) i _ (admits_accepted k w h))

-- the elements are read from their own bytes alone
pub words_alone : (i : ℕ) (ks : List Kind) (b rest : List ℕ) → widths ks ≤ length b
    → read_words i ks (b ++ rest) ≡ read_words i ks b
words_alone i [] b rest h = refl
words_alone i (k ∷ ks) b rest h =
    let w : ℕ = width_of k in
    let room : w ≤ length b = omega arith in
    rw (
      take-append-le w b rest room,
      drop-append-le w b rest room,
      words_alone (suc i) ks (drop w b) rest (simp length-drop (omega arith)),
    )

pub length_words : {ks : List Kind} {ws : List ℕ} → Every admits ks ws → length (words_bytes ks ws) ≡ widths ks
length_words nil = refl
length_words (and {a = k} {b = w} {xs = ks} {ys = ws} h r) =
    length-append (bytes (width_of k) w) _ ∙ rw (length_bytes, length_words r)

pub widths_few : (ks : List Kind) → widths ks ≤ 4 * length ks
widths_few [] = omega arith
widths_few (k ∷ ks) = omega (arith, width_few k, widths_few ks)

-- ---- the form

-- a form that passes has the plan's X and Y
pub same_catalogue_lem : (f : Form) (p : Plan) → same_catalogue f p ≡ true → (f.x ≡ p.x) × (f.y ≡ p.y)
same_catalogue_lem f p e = (eqb-true _ _ (left (eqb f.x p.x) _ e), eqb-true _ _ (right (eqb f.x p.x) _ e))

pub own_catalogue : (p : Plan) → (eqb p.x p.x && eqb p.y p.y) ≡ true
own_catalogue p = all (eq-eqb p.x p.x refl) (eq-eqb p.y p.y refl)

contents_are : (p : Plan) (f : Form) (b : List ℕ) → Formed 7 image_version_good b f → f.x ≡ p.x → f.y ≡ p.y
    → length f.contents ≡ 4 + widths p.kinds
    → (ws : List ℕ) → read_words 0 p.kinds (drop 4 f.contents) ≡ done ws
    → (a : Image) → a ≡ record { version = f.version; position = number (take 4 f.contents); words = ws }
    → LegalImage p a × (b ≡ image_bytes p a)
unfolding image_bytes
contents_are p f b o x y long ws e a a-is =
    let c : List ℕ = f.contents in
    let four : 4 ≤ length c = omega arith in
    let s = words_are p.kinds 0 (drop 4 c) (drop_is 4 c o.inside) (simp length-drop (omega arith)) e in
    let parts : c ≡ bytes 4 (number (take 4 c)) ++ words_bytes p.kinds ws =
    cut 4 c four o.inside ∙ ap (λ (r : List ℕ). bytes 4 (number (take 4 c)) ++ r) s.1 in
    rw a-is (
      record { version = o.version; position = below 4 c four o.inside; words = s.0 },
      o.whole ∙ ap form_bytes (λ i. record { version = f.version; x = x i; y = y i; contents = parts i }),
    )

pub image_is : (p : Plan) (b : List ℕ) {a : Image} → Bytes b → read_image p b ≡ done a
    → LegalImage p a × (b ≡ image_bytes p a)
unfolding read_image elements_from
image_is p b {a} h e =
    let q = used (read_form 7 image_version_good b) _ e in
    let f = q.0 in
    let q₁ = held (same_catalogue f p) _ _ q.2 in
    let q₂ = held (eqb (length f.contents) (4 + widths p.kinds)) _ _ q₁.1 in
    let q₃ = used (read_words 0 p.kinds (drop 4 f.contents)) _ q₂.1 in
    let x = same_catalogue_lem f p q₁.0 in
    contents_are p f b (form_is 7 image_version_good b (omega arith) h q.1) x.0 x.1 (eqb-true _ _ q₂.0)
    q₃.0 q₃.1 a (cc q₃.2)

-- at most 1,024 objects, so the length of every form fits its four bytes
pub record Fair (p : Plan) : Type 0 where
  pub count : length p.kinds ≤ 1024

pub image_reads : {p : Plan} {a : Image} → Fair p → LegalImage p a → read_image p (image_bytes p a) ≡ done a
unfolding read_image elements_from image_bytes
image_reads {p} {a} f h =
    let b : List ℕ = words_bytes p.kinds a.words in
    let c : List ℕ = bytes 4 a.position ++ b in
    let long : length c ≡ 4 + widths p.kinds =
    length-append (bytes 4 a.position) b ∙ rw (length_bytes 4 a.position, length_words h.words) in
    let less : widths p.kinds ≤ 4 * length p.kinds = widths_few p.kinds in
    rw (
      form_reads 7 image_version_good (record { version = a.version; x = p.x; y = p.y; contents = c }) h.version
          (omega arith) (omega (arith, f.count)),
      own_catalogue p,
      long,
      eq-eqb (4 + widths p.kinds) (4 + widths p.kinds) refl,
      drop_bytes 4 a.position b,
      words_read 0 h.words,
      read_bytes 4 a.position b h.position,
    )

-- accepted exactly where they are a legal image, written, which they are then read as
pub image_form : (p : Plan) → Fair p → (b : List ℕ) → Bytes b → (a : Image)
    → (read_image p b ≡ done a) ↔ (LegalImage p a × (b ≡ image_bytes p a))
image_form p f b h a = (image_is p b h, (λ w. ap (read_image p) w.1 ∙ image_reads f w.0))

-- ---- how long it is

pub image_long : {p : Plan} {a : Image} → LegalImage p a → length (image_bytes p a) ≡ 11 + widths p.kinds
unfolding image_bytes form_bytes
image_long h = simp (length-append, length_bytes, length_words h.words) (omega arith)

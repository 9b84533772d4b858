-- Bytes are read as a form exactly where they are that form, written.
-- Assumes nothing.
use Prim.Native.Nat.{ℕ, ◌+◌, ◌^◌, ◌≤◌, ◌<◌}
use native.Mathlib.Omega.{arith}
use mathlib.Core.Path.{◌≡◌, refl, ◌∙◌}
use mathlib.Core.Bool.{Bool, true}
use mathlib.Core.List.{List, ◌∷◌}
use lib.Dec.{eqb, leb}
use lib.ListN.{length, take, drop, get_or, length-append, length-drop}
use lib.Seq.{drop-cons}
use borrow.Author.Tests.{eq-eqb, le-leb, leb-true, eqb-true}
use Rattle.octets.specs.Octets.{bytes, number, Bytes}
use Rattle.history.specs.Verdict.{Refused, refused, done}
use Rattle.history.specs.Form.{Form, form_bytes, is_whole, read_form}
use Rattle.octets.proofs.NumberLaws.{length_bytes, read_bytes, drop_is, cut}
use Rattle.history.proofs.VerdictLaws.{left, right, held, past}

pub record Formed (least : ℕ) (good : ℕ → Bool) (b : List ℕ) (f : Form) : Type 0 where
  pub version : good f.version ≡ true
  pub enough : least ≤ 3 + length f.contents
  pub whole : b ≡ form_bytes f
  pub inside : Bytes f.contents
  pub small : (f.version < 256) × (f.x < 256) × (f.y < 256)

-- what `is_whole` tells
pub record Whole (least : ℕ) (b : List ℕ) : Type 0 where
  pub length_is : length b ≡ 4 + number (take 4 b)
  pub enough : least ≤ number (take 4 b)
  pub long : 4 + least ≤ length b

pub whole : (least : ℕ) (b : List ℕ) → is_whole least b ≡ true → Whole least b
unfolding is_whole
whole least b h =
    let r = right (leb 4 (length b)) _ h in
    let e : length b ≡ 4 + number (take 4 b) = eqb-true _ _ (left (eqb (length b) (4 + number (take 4 b))) _ r) in
    let l : least ≤ number (take 4 b) = leb-true _ _ (right (eqb (length b) (4 + number (take 4 b))) _ r) in
    record { length_is = e; enough = l; long = omega arith }

pub form_whole : (least : ℕ) (good : ℕ → Bool) (b : List ℕ) {f : Form} → read_form least good b ≡ done f → Whole least b
unfolding read_form
form_whole least good b e = whole least b (held (is_whole least b) _ _ e).0

three : (b : List ℕ) → 7 ≤ length b → drop 4 b ≡ get_or b 4 0 ∷ get_or b 5 0 ∷ get_or b 6 0 ∷ drop 7 b
three b h = drop-cons b 4 0 (omega arith) ∙ rw (drop-cons b 5 0 (omega arith), drop-cons b 6 0 (omega arith))

pub form_is : (least : ℕ) (good : ℕ → Bool) (b : List ℕ) {f : Form} → 3 ≤ least → Bytes b
    → read_form least good b ≡ done f → Formed least good b f
unfolding read_form form_bytes
form_is least good b {f} l h e =
    let p₁ = held (is_whole least b) _ _ e in
    let p₂ = held (good (get_or b 4 0)) _ _ p₁.1 in
    let f-is : f ≡ record { version = get_or b 4 0; x = get_or b 5 0; y = get_or b 6 0; contents = drop 7 b } =
    cc p₂.1 in
    let w = whole least b p₁.0 in
    let long : length b ≡ 4 + number (take 4 b) = w.length_is in
    let more : least ≤ number (take 4 b) = w.enough in
    let size : number (take 4 b) ≡ 3 + length (drop 7 b) = simp length-drop (omega arith) in
    rw f-is (record {
      version = p₂.0;
      enough = omega arith;
      whole = cut 4 b (omega arith) h ∙ rw (size, three b (omega arith));
      inside = drop_is 7 b h;
      small = (h 4, h 5, h 6);
    })

pub form_version : (least : ℕ) (good : ℕ → Bool) (b : List ℕ) {f : Form} → read_form least good b ≡ done f
    → good f.version ≡ true
unfolding read_form
form_version least good b {f} e =
    let p₁ = held (is_whole least b) _ _ e in
    let p₂ = held (good (get_or b 4 0)) _ _ p₁.1 in
    let v : f.version ≡ get_or b 4 0 = cc p₂.1 in
    rw v p₂.0

pub form_contents : (least : ℕ) (good : ℕ → Bool) (b : List ℕ) {f : Form} → read_form least good b ≡ done f
    → f.contents ≡ drop 7 b
unfolding read_form
form_contents least good b e = cc (held (good (get_or b 4 0)) _ _ (held (is_whole least b) _ _ e).1).1

-- reading a form gives no code above 2
pub form_other : (least : ℕ) (good : ℕ → Bool) (b : List ℕ) {r : Refused} → 2 < r.code
    → read_form least good b ≡ refused r → ⊥
unfolding read_form
form_other least good b l e =
    let p₁ = past (is_whole least b) _ _ (λ z. omega arith) e in
    let p₂ = past (good (get_or b 4 0)) _ _ (λ z. omega arith) p₁.1 in
    let z : ◌≡◌ {A = ℕ} 0 1 = cc p₂.1 in
    omega arith

form_parts : (f : Form)
    → (get_or (form_bytes f) 4 0 ≡ f.version) × (get_or (form_bytes f) 5 0 ≡ f.x) × (get_or (form_bytes f) 6 0 ≡ f.y)
    × (drop 7 (form_bytes f) ≡ f.contents)
unfolding form_bytes bytes
form_parts f = (refl, refl, refl, refl)

pub form_length : (f : Form) → length (form_bytes f) ≡ 4 + (3 + length f.contents)
unfolding form_bytes
form_length f = simp length-append (omega (arith, length_bytes 4 (3 + length f.contents)))

form_size : (f : Form) → 3 + length f.contents < 2 ^ 32 → number (take 4 (form_bytes f)) ≡ 3 + length f.contents
unfolding form_bytes
form_size f h = read_bytes 4 (3 + length f.contents) (f.version ∷ f.x ∷ f.y ∷ f.contents) h

pub form_reads : (least : ℕ) (good : ℕ → Bool) (f : Form) → good f.version ≡ true → least ≤ 3 + length f.contents
    → 3 + length f.contents < 2 ^ 32
    → read_form least good (form_bytes f) ≡ done f
unfolding read_form is_whole
form_reads least good f g l h =
    let n : ℕ = 3 + length f.contents in
    let p = form_parts f in
    rw (
      form_size f h,
      form_length f,
      le-leb 4 (4 + n) (omega arith),
      eq-eqb (4 + n) (4 + n) refl,
      le-leb least n l,
      p.0,
      g,
      p.1,
      p.2,
      p.3,
    )

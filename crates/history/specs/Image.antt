-- "Image: a 4-byte position, then each object's element in table order."
use Rattle.std.specs.Prelude.{ℕ, suc, ◌+◌, ◌^◌, ◌<◌, Bool, true, ◌&&◌, List, [], ◌∷◌, ◌++◌, ◌≡◌, eqb, ltb}
use Rattle.std.specs.Prelude.{length, take, drop, Ok, Err, is_ok}
use Rattle.rows.specs.Values.{Finding}
use Rattle.rows.specs.declared.Refusal.{Refusal}
use Rattle.kinds.specs.Kinds.{width_of}
use Rattle.elements.specs.Elements.{element_check}
use Rattle.kinds.specs.declared.Kind.{Kind}
use Rattle.octets.specs.Octets.{bytes, number}
use Rattle.history.specs.Verdict.{Refused, naming, Verdict, refused, done, then, refusal, ◌unless◌⨾◌}
use Rattle.history.specs.Form.{form_bytes, read_form}
use Rattle.history.specs.Table.{Plan, same_catalogue}

-- a word is an object's element as a number
pub record Image : Type 0 where
  pub version : ℕ
  pub position : ℕ
  pub words : List ℕ

unfoldable pub image_version_good : ℕ → Bool
image_version_good v = eqb v 1

-- ---- elements

-- the check of an element: its fields from bit 0 up (10, 11), then 12
unfoldable pub element : Kind → ℕ → Finding
element k w = element_check k w

-- an element's refusal, naming object i
abbrev pub found_in : Refusal → ℕ → Refused
found_in f i = naming f.code i f.bit

-- a refused element refuses, naming its object and bit; else the rest decides
infixr 5 ◌of◌⨾◌
abbrev pub ◌of◌⨾◌ : {A : Type 0} → Finding → ℕ → Verdict A → Verdict A
(Ok tt) of i ⨾ rest = rest
(Err f) of i ⨾ rest = refused (found_in f i)

-- how many bytes all elements take
abbrev pub widths : List Kind → ℕ
widths [] = 0
widths (k ∷ ks) = width_of k + widths ks

-- ---- writing

abbrev pub words_bytes : List Kind → List ℕ → List ℕ
words_bytes [] ws = []
words_bytes (k ∷ ks) [] = []
words_bytes (k ∷ ks) (w ∷ ws) = bytes (width_of k) w ++ words_bytes ks ws

unfoldable pub image_bytes : Plan → Image → List ℕ
image_bytes p a =
    form_bytes (record {
      version = a.version;
      x = p.x;
      y = p.y;
      contents = bytes 4 a.position ++ words_bytes p.kinds a.words;
    })

-- ---- reading

-- the elements of the objects from i on, as words
abbrev pub read_words : ℕ → List Kind → List ℕ → Verdict (List ℕ)
read_words i [] b = done []
read_words i (k ∷ ks) b =
    element k (number (take (width_of k) b)) of i ⨾
    then (read_words (suc i) ks (drop (width_of k) b)) λ ws.
    done (number (take (width_of k) b) ∷ ws)

-- where the elements begin in the contents, for a version byte: after the position
unfoldable pub elements_from : ℕ → ℕ
elements_from version = 4

-- 1, 2, 9, 8 (length), then the elements
unfoldable pub read_image : Plan → List ℕ → Verdict Image
read_image p b =
    then (read_form 7 image_version_good b) λ f.
    refusal 9 unless same_catalogue f p ⨾
    refusal 8 unless eqb (length f.contents) (elements_from f.version + widths p.kinds) ⨾
    then (read_words 0 p.kinds (drop (elements_from f.version) f.contents)) λ ws.
    done (record { version = f.version; position = number (take 4 f.contents); words = ws })

-- ---- what an image may hold: "any other value is refused"

-- the number fits the kind's bytes and is an element of it
abbrev pub admits : Kind → ℕ → Bool
admits k w = ltb w (256 ^ width_of k) && is_ok (element k w)

-- the lists are equally long, and the test holds at each place
pub data Every {A B : Type 0} (test : A → B → Bool) : List A → List B → Type 0 where
  nil : Every test [] []
  and : {a : A} {b : B} {xs : List A} {ys : List B} → test a b ≡ true → Every test xs ys → Every test (a ∷ xs) (b ∷ ys)

pub record LegalImage (p : Plan) (a : Image) : Type 0 where
  pub version : image_version_good a.version ≡ true
  pub position : a.position < 2 ^ 32
  pub words : Every admits p.kinds a.words

-- accepted bytes: what they are read as, and that writing it gives them back
pub record AcceptedImage (p : Plan) (A : List ℕ) : Type 0 where
  pub image : Image
  pub legal : LegalImage p image
  pub reads : read_image p A ≡ done image
  pub same : A ≡ image_bytes p image

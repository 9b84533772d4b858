-- "Table: after X, Y a 2-byte object count (0 to 1,024), then per object its type (1 byte),
-- label length (1 byte, 1 to 32) and label.
-- Objects are numbered from 0. By section 6, no two objects share both type and label."
use Rattle.std.specs.Prelude.{ℕ, zero, suc, ◌+◌, ◌≤◌, ◌<◌, Bool, true, false, cond, not, ◌&&◌, ◌||◌, List, [], ◌∷◌}
use Rattle.std.specs.Prelude.{◌++◌, map, ◌≡◌, eqb, leb, ltb, length, take, drop, get_or}
use Rattle.elements.specs.Elements.{carried, kind_of}
use Rattle.kinds.specs.declared.Kind.{Kind}
use Rattle.octets.specs.Octets.{bytes, number, same_bytes}
use Rattle.history.specs.Verdict.{Verdict, done, then, refusal, refusal_at, ◌unless◌⨾◌}
use Rattle.history.specs.Form.{Form, form_bytes, read_form}

pub record Object : Type 0 where
  pub type : ℕ
  pub label : List ℕ

pub record Table : Type 0 where
  pub version : ℕ
  pub x : ℕ
  pub y : ℕ
  pub objects : List Object

abbrev pub object : Table → ℕ → Object
object t i = get_or t.objects i (record { type = 0; label = [] })

-- ---- what a version or a catalogue sets: version byte 1; catalogue version 1.0 or 3.0; labels of at most 32 bytes

unfoldable pub version_good : ℕ → Bool
version_good v = eqb v 1

unfoldable pub catalogue_good : ℕ → ℕ → Bool
catalogue_good x y = (eqb x 1 || eqb x 3) && eqb y 0

unfoldable pub label_limit : ℕ → ℕ
label_limit v = 32

-- ---- "Label bytes are 33 to 126; some byte is a colon, and the first colon has a byte before and after it."

abbrev pub printable : List ℕ → Bool
printable [] = true
printable (b ∷ bs) = (leb 33 b && leb b 126) && printable bs

-- the place of the first colon (58); the length where there is none
abbrev pub first_colon : List ℕ → ℕ
first_colon [] = 0
first_colon (b ∷ bs) = cond (eqb b 58) 0 (suc (first_colon bs))

unfoldable pub label_good : List ℕ → Bool
label_good l = printable l && (leb 1 (first_colon l) && ltb (first_colon l + 1) (length l))

-- ---- writing

abbrev pub object_bytes : Object → List ℕ
object_bytes o = o.type ∷ length o.label ∷ o.label

abbrev pub objects_bytes : List Object → List ℕ
objects_bytes [] = []
objects_bytes (o ∷ os) = object_bytes o ++ objects_bytes os

unfoldable pub table_bytes : Table → List ℕ
table_bytes t =
    form_bytes (record {
      version = t.version;
      x = t.x;
      y = t.y;
      contents = bytes 2 (length t.objects) ++ objects_bytes t.objects;
    })

-- ---- reading

abbrev pub same_object : Object → Object → Bool
same_object o p = eqb o.type p.type && same_bytes o.label p.label

-- an earlier object has the same type and label
abbrev pub repeats : Object → List Object → Bool
repeats o [] = false
repeats o (p ∷ ps) = same_object p o || repeats o ps

-- an entry: its object, its label length, and the bytes after it
pub record ObjectEntry : Type 0 where
  pub object : Object
  pub size : ℕ
  pub rest : List ℕ

abbrev pub object_at : List ℕ → ObjectEntry
object_at b = record {
  object = record { type = get_or b 0 0; label = take (get_or b 1 0) (drop 2 b) };
  size = get_or b 1 0;
  rest = drop (get_or b 1 0) (drop 2 b);
}

-- the entry after the earlier objects: 8 (two bytes missing), 5, 6 (length), 8 (label cut), 6 (bytes), 7
unfoldable pub check_object : ℕ → ℕ → List Object → List ℕ → ObjectEntry → Verdict ObjectEntry
check_object version x earlier b e =
    refusal 8 unless leb 2 (length b) ⨾
    refusal_at 5 (length earlier) unless carried x e.object.type ⨾
    refusal_at 6 (length earlier) unless leb 1 e.size && leb e.size (label_limit version) ⨾
    refusal 8 unless leb (2 + e.size) (length b) ⨾
    refusal_at 6 (length earlier) unless label_good e.object.label ⨾
    refusal_at 7 (length earlier) unless not (repeats e.object earlier) ⨾
    done e

-- n entries after the earlier objects; at the end 8 (bytes left over)
abbrev pub read_objects : ℕ → ℕ → List Object → ℕ → List ℕ → Verdict (List Object)
read_objects version x earlier zero b = refusal 8 unless eqb (length b) 0 ⨾ done earlier
read_objects version x earlier (suc n) b =
    then (check_object version x earlier b (object_at b)) λ e.
    read_objects version x (earlier ++ (e.object ∷ [])) n e.rest

-- 1, 2, 3, 4, then the entries
unfoldable pub read_table : List ℕ → Verdict Table
read_table b =
    then (read_form 5 version_good b) λ f.
    refusal 3 unless catalogue_good f.x f.y ⨾
    refusal 4 unless leb (number (take 2 f.contents)) 1024 ⨾
    then (read_objects f.version f.x [] (number (take 2 f.contents)) (drop 2 f.contents)) λ os.
    done (record { version = f.version; x = f.x; y = f.y; objects = os })

-- ---- what a table may hold. Bytes are accepted exactly where they are such a table, written
-- (`table_exactly` of proofs/Demands)

pub record LegalObject (version x : ℕ) (o : Object) : Type 0 where
  pub type : carried x o.type ≡ true
  pub some : 1 ≤ length o.label
  pub few : length o.label ≤ label_limit version
  pub good : label_good o.label ≡ true

-- no two objects share both type and label
pub record LegalTable (t : Table) : Type 0 where
  pub version : version_good t.version ≡ true
  pub catalogue : catalogue_good t.x t.y ≡ true
  pub count : length t.objects ≤ 1024
  pub each : (i : ℕ) → i < length t.objects → LegalObject t.version t.x (object t i)
  pub distinct : (i j : ℕ) → i < j → j < length t.objects → object t i ≡ object t j → ⊥

-- ---- what the other forms are read by: X and Y, and each object's kind

pub record Plan : Type 0 where
  pub x : ℕ
  pub y : ℕ
  pub kinds : List Kind

unfoldable pub plan_of : Table → Plan
plan_of t = record { x = t.x; y = t.y; kinds = map (λ (o : Object). kind_of t.x o.type) t.objects }

-- object i's kind (an arbitrary one where there is no such object)
abbrev pub kind_at : List Kind → ℕ → Kind
kind_at ks i = get_or ks i Kind.Signal

-- the X.Y of an image or list is the table's
abbrev pub same_catalogue : Form → Plan → Bool
same_catalogue f p = eqb f.x p.x && eqb f.y p.y

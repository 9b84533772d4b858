-- "The listing program reads table then image from standard input, split by the table's length; input too short to
-- split, or above 65,536 bytes, is code 1. First line: catalogue version, position, count. Then per object: number,
-- type, label, element in upper-case hex. Numbers are decimal, highest digit first, without leading zeros. One space
-- between, one newline after each line. A refusal gives one line, "refused", code, object, bit."
use Rattle.std.specs.Prelude.{ℕ, suc, ◌+◌, List, [], ◌∷◌, ◌++◌, leb, length, take, drop}
use Rattle.octets.specs.Octets.{bytes, number}
use Rattle.kinds.specs.Kinds.{width_of}
use Rattle.kinds.specs.declared.Kind.{Kind}
use Rattle.history.specs.Verdict.{Verdict, refused, done, then, refusal, ◌unless◌⨾◌}
use Rattle.history.specs.Table.{Object, Table, read_table, plan_of}
use Rattle.history.specs.Image.{Image, read_image}
use Rattle.text.specs.Decimal.{decimal}
use Rattle.text.specs.Hex.{hexes}

-- ---- table then image

pub record Panel : Type 0 where
  pub table : Table
  pub image : Image

unfoldable pub read_both : List ℕ → List ℕ → Verdict Panel
read_both t a =
    then (read_table t) λ t.
    then (read_image (plan_of t) a) λ a.
    done (record { table = t; image = a })

-- how many bytes the table takes: four for its length, and that length
abbrev pub table_size : List ℕ → ℕ
table_size input = 4 + number (take 4 input)

-- 1 for more than 65,536 bytes and for input too short to split; then the table and the image
unfoldable pub read_panel : List ℕ → Verdict Panel
read_panel input =
    refusal 1 unless leb (length input) 65536 ⨾
    refusal 1 unless leb 4 (length input) ⨾
    refusal 1 unless leb (table_size input) (length input) ⨾
    read_both (take (table_size input) input) (drop (table_size input) input)

-- ---- lines

-- a space between; the dot of a catalogue version; a newline after
infixr 5 ◌␣◌
abbrev pub ◌␣◌ : List ℕ → List ℕ → List ℕ
xs ␣ ys = xs ++ (32 ∷ ys)

infixr 5 ◌dot◌
abbrev pub ◌dot◌ : List ℕ → List ℕ → List ℕ
xs dot ys = xs ++ (46 ∷ ys)

abbrev pub line : List ℕ → List ℕ
line xs = xs ++ (10 ∷ [])

-- catalogue version, position, count
unfoldable pub first_line : ℕ → ℕ → ℕ → ℕ → List ℕ
first_line x y position count = decimal x dot decimal y ␣ decimal position ␣ line (decimal count)

-- number, type, label, element in hex
unfoldable pub object_line : ℕ → ℕ → List ℕ → List ℕ → List ℕ
object_line i type label element = decimal i ␣ decimal type ␣ label ␣ line (hexes element)

-- the lines of the objects from i on
abbrev pub lines_of : ℕ → List Object → List Kind → List ℕ → List ℕ
lines_of i [] ks ws = []
lines_of i (o ∷ os) [] ws = []
lines_of i (o ∷ os) (k ∷ ks) [] = []
lines_of i (o ∷ os) (k ∷ ks) (w ∷ ws) =
    object_line i o.type o.label (bytes (width_of k) w) ++ lines_of (suc i) os ks ws

-- "refused" in ASCII
abbrev pub refused_word : List ℕ
refused_word = 114 ∷ 101 ∷ 102 ∷ 117 ∷ 115 ∷ 101 ∷ 100 ∷ []

-- "refused", code, object, bit
unfoldable pub refused_line : ℕ → ℕ → ℕ → List ℕ
refused_line code object bit = refused_word ␣ decimal code ␣ decimal object ␣ line (decimal bit)

-- ---- the text

abbrev pub panel_text : Table → Image → List ℕ
panel_text t a =
    first_line t.x t.y a.position (length t.objects) ++ lines_of 0 t.objects (plan_of t).kinds a.words

-- what is read, as text
abbrev pub text_of : Verdict Panel → Verdict (List ℕ)
text_of v = then v λ p. done (panel_text p.table p.image)

unfoldable pub listing_call : List ℕ → Verdict (List ℕ)
listing_call input = text_of (read_panel input)

-- ---- what the program prints: the text, or the line of its refusal

unfoldable pub printed : Verdict (List ℕ) → List ℕ
printed (refused r) = refused_line r.code r.object r.bit
printed (done text) = text

unfoldable pub listing_of : List ℕ → List ℕ
listing_of input = printed (listing_call input)

-- The calls, over raw bytes. "Order: table, then the other forms as given, then object number, 22, positions, values
-- (12 of a state handed in, 18, 20), 21 last." (21 is `settled`'s.) T, A, B, L, M are bytes; t, a, b, l, m what they
-- are read as.
use Rattle.std.specs.Prelude.{ℕ, ◌+◌, List, ltb, length, take, get_or, set}
use Rattle.kinds.specs.Kinds.{kind_in}
use Rattle.elements.specs.Elements.{same_kind, state_of, word_of}
use Rattle.kinds.specs.declared.Kind.{Kind}
use Rattle.kinds.specs.declared.Element.{Element}
use Rattle.history.specs.Verdict.{Verdict, done, then, refusal_at, ◌unless◌⨾◌}
use Rattle.history.specs.Table.{object, Table, objects_bytes, read_table, Plan, plan_of, kind_at}
use Rattle.history.specs.Image.{Image, element, ◌of◌⨾◌, read_image, image_bytes}
use Rattle.history.specs.Changes.{Changes, read_list, list_bytes, difference, applied, join, turned}

-- ---- checking the three forms

unfoldable pub table_call : List ℕ → Verdict Table
table_call T = read_table T

-- the plan of an accepted table, by which the other forms are read
unfoldable pub read_plan : List ℕ → Verdict Plan
read_plan T = then (read_table T) λ t. done (plan_of t)

unfoldable pub image_call : List ℕ → List ℕ → Verdict Image
image_call T A = then (read_plan T) λ p. read_image p A

unfoldable pub list_call : List ℕ → List ℕ → Verdict Changes
list_call T L = then (read_plan T) λ p. read_list p L

-- ---- change lists: `..Under` reads the other forms by a plan; `..Call` reads the table first

unfoldable pub difference_under : Plan → List ℕ → List ℕ → Verdict (List ℕ)
difference_under p A B =
    then (read_image p A) λ a.
    then (read_image p B) λ b.
    done (list_bytes p (difference a b))

unfoldable pub difference_call : List ℕ → List ℕ → List ℕ → Verdict (List ℕ)
difference_call T A B = then (read_plan T) λ p. difference_under p A B

unfoldable pub apply_under : Plan → List ℕ → List ℕ → Verdict (List ℕ)
apply_under p A L =
    then (read_image p A) λ a.
    then (read_list p L) λ l.
    then (applied l a) λ b.
    done (image_bytes p b)

unfoldable pub apply_call : List ℕ → List ℕ → List ℕ → Verdict (List ℕ)
apply_call T A L = then (read_plan T) λ p. apply_under p A L

unfoldable pub join_under : Plan → List ℕ → List ℕ → Verdict (List ℕ)
join_under p L M =
    then (read_list p L) λ l.
    then (read_list p M) λ m.
    then (join l m) λ k.
    done (list_bytes p k)

unfoldable pub join_call : List ℕ → List ℕ → List ℕ → Verdict (List ℕ)
join_call T L M = then (read_plan T) λ p. join_under p L M

unfoldable pub turn_under : Plan → List ℕ → Verdict (List ℕ)
turn_under p L = then (read_list p L) λ l. done (list_bytes p (turned l))

unfoldable pub turn_call : List ℕ → List ℕ → Verdict (List ℕ)
turn_call T L = then (read_plan T) λ p. turn_under p L

-- ---- states

-- 13; then object i's element as a state
unfoldable pub read_state_under : Plan → List ℕ → ℕ → Verdict Element
read_state_under p A i =
    then (read_image p A) λ a.
    refusal_at 13 i unless ltb i (length p.kinds) ⨾
    done (state_of (kind_at p.kinds i) (get_or a.words i 0))

unfoldable pub read_state_call : List ℕ → List ℕ → ℕ → Verdict Element
read_state_call T A i = then (read_plan T) λ p. read_state_under p A i

-- 13, 22; "a state handed in is checked as an element is" (12)
unfoldable pub check_state : List Kind → ℕ → Element → Verdict ℕ
check_state ks i state =
    refusal_at 13 i unless ltb i (length ks) ⨾
    refusal_at 22 i unless same_kind (kind_in state) (kind_at ks i) ⨾
    element (kind_at ks i) (word_of state) of i ⨾
    done (word_of state)

-- the image with a new word for object i and a new position
abbrev pub placed : Image → ℕ → ℕ → ℕ → Image
placed a i w position = record { version = a.version; position = position; words = set a.words i w }

unfoldable pub write_state_under : Plan → List ℕ → ℕ → Element → ℕ → Verdict (List ℕ)
write_state_under p A i state position =
    then (read_image p A) λ a.
    then (check_state p.kinds i state) λ w.
    done (image_bytes p (placed a i w position))

unfoldable pub write_state_call : List ℕ → List ℕ → ℕ → Element → ℕ → Verdict (List ℕ)
write_state_call T A i state position = then (read_plan T) λ p. write_state_under p A i state position

-- ---- "the label is handed back as the very bytes of the lent table": where it is in them

pub record Place : Type 0 where
  pub offset : ℕ
  pub size : ℕ

-- after nine bytes, the earlier entries, and the object's own type and label length
abbrev pub label_place : Table → ℕ → Place
label_place t i =
    record { offset = 9 + (length (objects_bytes (take i t.objects)) + 2); size = length (object t i).label }

-- 13; then the label's place
unfoldable pub label_call : List ℕ → ℕ → Verdict Place
label_call T i =
    then (read_table T) λ t.
    refusal_at 13 i unless ltb i (length t.objects) ⨾
    done (label_place t i)

-- "Change list: 4-byte from position, 4-byte to position, 2-byte entry count; per entry a 2-byte object number, the old
-- element, the new element. Numbers ascend strictly; old differs from new." Its bytes, what it may hold, and the four
-- operations.
use Rattle.std.specs.Prelude.{ℕ, zero, suc, ◌+◌, ◌-◌, ◌^◌, ◌<◌, not, Bool, true, cond, ◌&&◌, ◌≡◌, eqb, leb, ltb, length}
use Rattle.std.specs.Prelude.{take, drop, replicate}
use mathlib.Core.List.{List, [], ◌∷◌, ◌++◌, map, zip_with}
use Rattle.kinds.specs.Kinds.{width_of}
use Rattle.kinds.specs.declared.Kind.{Kind}
use Rattle.octets.specs.Octets.{bytes, number}
use Rattle.history.specs.declared.Change.{Change}
use Rattle.history.specs.declared.Change.TheVariants.{Keep as keep, Swap as swap}
use Rattle.history.specs.Verdict.{Verdict, done, then, refusal, refusal_at, ◌unless◌⨾◌}
use Rattle.history.specs.Form.{form_bytes, read_form}
use Rattle.history.specs.Table.{Plan, kind_at, same_catalogue}
use Rattle.history.specs.Image.{element, ◌of◌⨾◌, Image, admits, Every}

-- two positions, and what the list says of each object, in table order.
-- The entries are the swaps, each with its object's number
pub record Changes : Type 0 where
  pub from : ℕ
  pub to : ℕ
  pub each : List Change

-- lists have version byte 1
unfoldable pub list_version : ℕ
list_version = 1

-- ---- writing

-- the entries of the objects from i on
abbrev pub entries_bytes : ℕ → List Kind → List Change → List ℕ
entries_bytes i [] cs = []
entries_bytes i (k ∷ ks) [] = []
entries_bytes i (k ∷ ks) (keep ∷ cs) = entries_bytes (suc i) ks cs
entries_bytes i (k ∷ ks) (swap old new ∷ cs) =
    bytes 2 i ++ (bytes (width_of k) old ++ (bytes (width_of k) new ++ entries_bytes (suc i) ks cs))

-- how many entries
abbrev pub entries : List Change → ℕ
entries [] = 0
entries (keep ∷ cs) = entries cs
entries (swap old new ∷ cs) = suc (entries cs)

unfoldable pub list_bytes : Plan → Changes → List ℕ
list_bytes p l = form_bytes (record {
  version = list_version;
  x = p.x;
  y = p.y;
  contents =
      bytes 4 l.from ++ (bytes 4 l.to ++ (bytes 2 (entries l.each) ++ entries_bytes 0 p.kinds l.each));
})

-- ---- reading

-- an entry, its object's kind, and the bytes after it
pub record Entry : Type 0 where
  pub object : ℕ
  pub kind : Kind
  pub old : ℕ
  pub new : ℕ
  pub rest : List ℕ

-- the entry of object i, whose two elements are at the front of b
abbrev pub entry_of : ℕ → Kind → List ℕ → Entry
entry_of i k b = record {
  object = i;
  kind = k;
  old = number (take (width_of k) b);
  new = number (take (width_of k) (drop (width_of k) b));
  rest = drop (width_of k) (drop (width_of k) b);
}

-- an entry's object number: 8 (cut), 13
unfoldable pub read_number : List Kind → List ℕ → Verdict ℕ
read_number ks b =
    refusal 8 unless leb 2 (length b) ⨾
    refusal_at 13 (number (take 2 b)) unless ltb (number (take 2 b)) (length ks) ⨾
    done (number (take 2 b))

-- the elements of object i: 8 (cut), old element, new element
unfoldable pub read_elements : ℕ → Kind → List ℕ → Verdict Entry
read_elements i k b =
    refusal 8 unless leb (width_of k + width_of k) (length b) ⨾
    element k (entry_of i k b).old of i ⨾
    element k (entry_of i k b).new of i ⨾
    done (entry_of i k b)

-- an entry whose number must be at least low: number, 14, elements, 15
unfoldable pub check_entry : List Kind → ℕ → List ℕ → Verdict Entry
check_entry ks low b =
    then (read_number ks b) λ i.
    refusal_at 14 i unless leb low i ⨾
    then (read_elements i (kind_at ks i) (drop 2 b)) λ e.
    refusal_at 15 i unless not (eqb e.old e.new) ⨾
    done e

-- what n entries say of each object from low on; at the end 8 (bytes left over)
abbrev pub read_entries : List Kind → ℕ → ℕ → List ℕ → Verdict (List Change)
read_entries ks low zero b = refusal 8 unless eqb (length b) 0 ⨾ done (replicate (length ks - low) keep)
read_entries ks low (suc n) b =
    then (check_entry ks low b) λ e.
    then (read_entries ks (suc e.object) n e.rest) λ cs.
    done (replicate (e.object - low) keep ++ (swap e.old e.new ∷ cs))

-- 1, 2, 9, then the entries
unfoldable pub read_list : Plan → List ℕ → Verdict Changes
read_list p b =
    then (read_form 13 (eqb list_version) b) λ f.
    refusal 9 unless same_catalogue f p ⨾
    then (read_entries p.kinds 0 (number (take 2 (drop 8 f.contents))) (drop 10 f.contents)) λ cs.
    done (record { from = number (take 4 f.contents); to = number (take 4 (drop 4 f.contents)); each = cs })

-- ---- what a list may hold: "old differs from new"

-- old and new are elements of the kind, and differ
abbrev pub lawful : Kind → Change → Bool
lawful k keep = true
lawful k (swap old new) = admits k old && (admits k new && not (eqb old new))

pub record LegalList (p : Plan) (l : Changes) : Type 0 where
  pub from : l.from < 2 ^ 32
  pub to : l.to < 2 ^ 32
  pub each : Every lawful p.kinds l.each

-- accepted bytes: what they are read as, and that writing it gives them back
pub record AcceptedList (p : Plan) (L : List ℕ) : Type 0 where
  pub list : Changes
  pub legal : LegalList p list
  pub reads : read_list p L ≡ done list
  pub same : L ≡ list_bytes p list

-- "Meaning of a list: it applies to an image whose position is its from position and whose named elements are the old
-- ones. The result has the to position and the new elements, all else equal." (Joins and turning back are quoted at
-- their definitions.)

-- ---- one object

-- an entry if the two differ
abbrev pub differ : ℕ → ℕ → Change
differ a b = cond (eqb a b) keep (swap a b)

-- the named element is the old one
abbrev pub fits : Change → ℕ → Bool
fits keep a = true
fits (swap old new) a = eqb old a

-- the new element; all else equal
abbrev pub after : Change → ℕ → ℕ
after keep a = a
after (swap old new) a = new

-- of an object in both, the first's new is the second's old
abbrev pub meets : Change → Change → Bool
meets keep d = true
meets (swap old new) keep = true
meets (swap old new) (swap old' new') = eqb new old'

-- "an object in both has the first's old and the second's new and is dropped if these are equal;
-- an object in one is copied"
abbrev pub joined : Change → Change → Change
joined keep d = d
joined (swap old new) keep = swap old new
joined (swap old new) (swap old' new') = differ old new'

-- old and new exchanged
abbrev pub back : Change → Change
back keep = keep
back (swap old new) = swap new old

-- ---- all objects (the lists are equally long)

-- refused if the test fails at some object; names the lowest such, counted from i
abbrev pub lowest : {A B C : Type 0} → ℕ → (A → B → Bool) → ℕ → List A → List B → C → Verdict C
lowest code test i [] ys c = done c
lowest code test i (x ∷ xs) [] c = done c
lowest code test i (x ∷ xs) (y ∷ ys) c = refusal_at code i unless test x y ⨾ lowest code test (suc i) xs ys c

-- ---- the four operations

-- the list from one image to another
unfoldable pub difference : Image → Image → Changes
difference a b = record { from = a.position; to = b.position; each = zip_with differ a.words b.words }

-- the result has the to position and the new elements, all else equal
abbrev pub result_of : Changes → Image → Image
result_of l a = record { version = a.version; position = l.to; words = zip_with after l.each a.words }

-- 16 (late), 17 (gap), 18 (old element)
unfoldable pub applied : Changes → Image → Verdict Image
applied l a =
    refusal 16 unless leb a.position l.from ⨾
    refusal 17 unless leb l.from a.position ⨾
    lowest 18 fits 0 l.each a.words (result_of l a)

-- "the join of two lists goes from the first's start to the second's end"
abbrev pub joint_of : Changes → Changes → Changes
joint_of l m = record { from = l.from; to = m.to; each = zip_with joined l.each m.each }

-- 19 (positions don't meet), 20 (elements don't meet)
unfoldable pub join : Changes → Changes → Verdict Changes
join l m =
    refusal 19 unless eqb l.to m.from ⨾
    lowest 20 meets 0 l.each m.each (joint_of l m)

-- "turning back swaps positions, and old with new"
unfoldable pub turned : Changes → Changes
turned l = record { from = l.to; to = l.from; each = map back l.each }

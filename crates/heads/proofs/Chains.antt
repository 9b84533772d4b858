-- Each form's check in the code's order, from the bytes; and an accepted form has its head inside.
-- Assumes nothing.
use Prim.Native.Nat.{ℕ, ◌+◌, ◌≤◌}
use native.Mathlib.Omega.{arith}
use mathlib.Core.Path.{◌≡◌, refl, sym, ap, ap₂, ◌∙◌}
use mathlib.Core.Bool.{Bool, true, false}
use mathlib.Core.List.{List, []}
use lib.Dec.{eqb, leb}
use lib.ListN.{length, drop, get_or, length-drop}
use lib.Seq.{drop-drop}
use borrow.Author.Tests.{eq-eqb, ne_eqb, eqb-true, eqb-false}
use Rattle.history.specs.Verdict.{Verdict, done, then, refusal, ◌unless◌⨾◌}
use Rattle.history.specs.Form.{is_whole}
use Rattle.history.specs.Table.{Object, Table, Plan, version_good, catalogue_good, read_objects, read_table}
use Rattle.history.specs.Image.{Image, image_version_good, widths, read_words, elements_from, read_image}
use Rattle.history.specs.declared.Change.{Change}
use Rattle.history.specs.Changes.{Changes, list_version, read_entries, read_list}
use Rattle.history.proofs.VerdictLaws.{held}
use Rattle.history.proofs.FormLaws.{whole}
use Rattle.heads.specs.Heads.{is_under, count_in, objects_place, elements_place, image_head, position_in, elements_in}
use Rattle.heads.specs.Heads.{from_in, to_in, entry_count_in, entries_place, entries_in}
use Rattle.heads.proofs.Forms.{form_then, table_inside}

-- what follows may use that the test holds
unless_same : {A : Type 0} (t : Bool) (r : Verdict A) {u v : Verdict A} → (t ≡ true → u ≡ v)
    → (r unless t ⨾ u) ≡ (r unless t ⨾ v)
unless_same true r h = h refl
unless_same false r h = refl

-- a test on the length of what is left is a test on the length of the whole
eqb_left : (n m : ℕ) (b : List ℕ) → n ≤ length b → eqb (length (drop n b)) m ≡ eqb (length b) (n + m)
eqb_left n m b h = go (eqb (length b) (n + m)) refl
  where
    go : (u : Bool) → eqb (length b) (n + m) ≡ u → eqb (length (drop n b)) m ≡ u
    go true e =
        let l : length b ≡ n + m = eqb-true _ _ e in eq-eqb (length (drop n b)) m (length-drop n b ∙ omega arith)
    go false e = ne_eqb (length (drop n b)) m (λ z. eqb-false (length b) (n + m) e (omega (arith, length-drop n b)))

-- the table that the bytes hold, with these objects
abbrev pub table_with : List ℕ → List Object → Table
table_with b os = record { version = get_or b 4 0; x = get_or b 5 0; y = get_or b 6 0; objects = os }

-- 1, 2, 3, 4, then the objects
pub table_chain : (b : List ℕ) → read_table b
    ≡ (refusal 1 unless is_whole 5 b ⨾ refusal 2 unless version_good (get_or b 4 0) ⨾
    refusal 3 unless catalogue_good (get_or b 5 0) (get_or b 6 0) ⨾
    refusal 4 unless leb (count_in b) 1024 ⨾
    then (read_objects (get_or b 4 0) (get_or b 5 0) [] (count_in b) (drop objects_place b))
    (λ os. done (table_with b os)))
unfolding read_table count_in objects_place
table_chain b = form_then 5 version_good b _ ∙ rw (drop-drop 2 7 b)

pub table_held : (b : List ℕ) {t : Table} → read_table b ≡ done t → objects_place ≤ length b
table_held b e = table_inside b (held (is_whole 5 b) _ _ (sym (table_chain b) ∙ e)).0

-- the image that the bytes hold, with these words
abbrev pub image_with : List ℕ → List ℕ → Image
image_with b ws = record { version = get_or b 4 0; position = position_in b; words = ws }

-- 1, 2, 9, 8, then the elements
pub image_chain : (p : Plan) (b : List ℕ) → read_image p b
    ≡ (refusal 1 unless is_whole 7 b ⨾ refusal 2 unless image_version_good (get_or b 4 0) ⨾
    refusal 9 unless is_under p.x p.y b ⨾
    refusal 8 unless eqb (length b) (image_head b + widths p.kinds) ⨾
    then (read_words 0 p.kinds (elements_in b)) (λ ws. done (image_with b ws)))
unfolding read_image is_under elements_place image_head position_in elements_in
image_chain p b =
    let from : ℕ = elements_from (get_or b 4 0) in
    let w : ℕ = widths p.kinds in
    let last : Bool → List ℕ → Verdict Image = λ t c.
    refusal 9 unless is_under p.x p.y b ⨾ refusal 8 unless t ⨾
    then (read_words 0 p.kinds c) (λ ws. done (image_with b ws)) in
    form_then 7 image_version_good b _
    ∙ unless_same (is_whole 7 b) (refusal 1) λ h.
    let size : eqb (length (drop 7 b)) (from + w) ≡ eqb (length b) (7 + from + w) =
    eqb_left 7 (from + w) b (omega (arith, (whole 7 b h).long)) ∙ ap (eqb (length b)) (omega arith) in
    ap (λ (v : Verdict Image). refusal 2 unless image_version_good (get_or b 4 0) ⨾ v)
    (ap₂ last size (drop-drop from 7 b))

pub image_held : (p : Plan) (b : List ℕ) {a : Image} → read_image p b ≡ done a → image_head b ≤ length b
image_held p b e =
    let p₁ = held (is_whole 7 b) _ _ (sym (image_chain p b) ∙ e) in
    let p₂ = held (image_version_good (get_or b 4 0)) _ _ p₁.1 in
    let p₃ = held (is_under p.x p.y b) _ _ p₂.1 in
    let p₄ = held (eqb (length b) (image_head b + widths p.kinds)) _ _ p₃.1 in
    omega (arith, eqb-true (length b) (image_head b + widths p.kinds) p₄.0)

-- the list that the bytes hold, with these changes
abbrev pub list_with : List ℕ → List Change → Changes
list_with b cs = record { from = from_in b; to = to_in b; each = cs }

-- 1, 2, 9, then the entries
pub list_chain : (p : Plan) (b : List ℕ) → read_list p b
    ≡ (refusal 1 unless is_whole 13 b ⨾ refusal 2 unless eqb list_version (get_or b 4 0) ⨾
    refusal 9 unless is_under p.x p.y b ⨾
    then (read_entries p.kinds 0 (entry_count_in b) (entries_in b)) (λ cs. done (list_with b cs)))
unfolding read_list is_under from_in to_in entry_count_in entries_place entries_in
list_chain p b = form_then 13 (eqb list_version) b _ ∙ rw (drop-drop 8 7 b, drop-drop 10 7 b, drop-drop 4 7 b)

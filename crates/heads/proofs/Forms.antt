-- What the three forms share, from the tests that the code makes: it is whole, its version, its X and Y.
-- Assumes nothing.
use Prim.Native.Nat.{ℕ, ◌+◌, ◌-◌, ◌≤◌}
use native.Mathlib.Omega.{arith}
use mathlib.Core.Path.{◌≡◌, refl, sym, ◌∙◌}
use mathlib.Core.Bool.{Bool, true, false, not}
use mathlib.Core.List.{List}
use lib.Dec.{eqb}
use lib.ListN.{length, take, drop, get_or, length-drop}
use lib.Seq.{take_all}
use borrow.Author.Tests.{eq-eqb, ne_eqb, not-false}
use Rattle.history.specs.Verdict.{Verdict, done, then, refusal, ◌unless◌⨾◌}
use Rattle.history.specs.Form.{Form, is_whole, read_form}
use Rattle.history.proofs.FormLaws.{whole}
use Rattle.heads.specs.Heads.{is_under, objects_place, entries_place}

pub table_inside : (b : List ℕ) → is_whole 5 b ≡ true → objects_place ≤ length b
unfolding objects_place
table_inside b h = (whole 5 b h).long

-- how long a form is that passed the test of code 1
module _ {t : Bool} where
  pub long_enough : (least : ℕ) (b : List ℕ) → t ≡ is_whole least b → not t ≡ false → (n : ℕ) → n ≤ 4 + least
      → n ≤ length b
  long_enough least b e h n l = omega (arith, (whole least b (sym e ∙ not-false t h)).long)

  -- the head of a whole table is inside, and so is the head of a whole list
  pub table_room : (b : List ℕ) → t ≡ is_whole 5 b → not t ≡ false → objects_place ≤ length b
  table_room b e h = table_inside b (sym e ∙ not-false t h)

  pub list_room : (b : List ℕ) → t ≡ is_whole 13 b → not t ≡ false → entries_place ≤ length b
  unfolding entries_place
  list_room b e h = long_enough 13 b e h 17 (omega arith)

module _ (x y : ℕ) (b : List ℕ) where
  pub other_x : (get_or b 5 0 ≡ x → ⊥) → is_under x y b ≡ false
  unfolding is_under
  other_x h = rw (ne_eqb (get_or b 5 0) x h)

  pub own_x : get_or b 5 0 ≡ x → is_under x y b ≡ eqb (get_or b 6 0) y
  unfolding is_under
  own_x h = rw (eq-eqb (get_or b 5 0) x h)

-- the part from a place to the end
pub to_end : (k : ℕ) (b : List ℕ) → take (length b - k) (drop k b) ≡ drop k b
to_end k b = take_all (length b - k) (drop k b) (omega (arith, length-drop k b))

-- ---- the form by its tests

-- the form that the bytes hold
abbrev pub form_in : List ℕ → Form
form_in b = record { version = get_or b 4 0; x = get_or b 5 0; y = get_or b 6 0; contents = drop 7 b }

then_tests : {A B : Type 0} (s t : Bool) (a : A) (next : A → Verdict B)
    → then (refusal 1 unless s ⨾ refusal 2 unless t ⨾ done a) next ≡ (refusal 1 unless s ⨾ refusal 2 unless t ⨾ next a)
then_tests true true a next = refl
then_tests true false a next = refl
then_tests false t a next = refl

pub form_then : {A : Type 0} (least : ℕ) (good : ℕ → Bool) (b : List ℕ) (next : Form → Verdict A)
    → then (read_form least good b) next
    ≡ (refusal 1 unless is_whole least b ⨾ refusal 2 unless good (get_or b 4 0) ⨾ next (form_in b))
unfolding read_form
form_then least good b next = then_tests (is_whole least b) (good (get_or b 4 0)) (form_in b) next

-- The listing in terms of the other calls: an accepted table and image are printed, and a refusal is printed with the
-- numbers that the image's check gives.
-- Assumes nothing.
use Prim.Native.Nat.{ℕ, ◌+◌, ◌≤◌}
use native.Mathlib.Omega.{arith}
use mathlib.Core.Path.{◌≡◌, refl, sym, ap, ◌∙◌}
use mathlib.Core.List.{List, ◌++◌}
use lib.ListN.{length, take, length-append}
use lib.Seq.{take-append-le, take_at, drop_at}
use borrow.Author.Tests.{le-leb}
use Rattle.octets.specs.Octets.{number}
use Rattle.history.specs.declared.Answer.{Answer}
use Rattle.history.specs.Verdict.{Verdict, refused, done, told}
use Rattle.history.specs.Form.{read_form}
use Rattle.history.specs.Table.{Table, version_good, read_table}
use Rattle.history.specs.Image.{Image}
use Rattle.history.specs.Calls.{table_call, read_plan, image_call}
use Rattle.history.proofs.FormLaws.{form_whole}
use Rattle.history.proofs.VerdictLaws.{used}
use Rattle.listing.specs.Listing.{read_both, table_size, read_panel, refused_line, panel_text, text_of, listing_call}
use Rattle.listing.specs.Listing.{printed, listing_of}
use Rattle.listing.proofs.PanelLaws.{both_told}

-- ---- a table followed by its image

table_fills : (t : List ℕ) {table : Table} → table_call t ≡ done table
    → (4 ≤ length t) × (length t ≡ 4 + number (take 4 t))
unfolding table_call read_table
table_fills t e =
    let w = form_whole 5 version_good t (used (read_form 5 version_good t) _ e).1 in
    (omega (arith, w.long), w.length_is)

module _ (t a : List ℕ) (four : 4 ≤ length t) (fills : length t ≡ 4 + number (take 4 t))
    (few : length t + length a ≤ 65536) where
  size : table_size (t ++ a) ≡ length t
  size = ap (λ (b : List ℕ). 4 + number b) (take-append-le 4 t a four) ∙ sym fills

  -- it is split where the table ends
  parted : listing_call (t ++ a) ≡ text_of (read_both t a)
  unfolding listing_call read_panel
  parted =
      let all = length-append t a in
      rw (
        le-leb (length (t ++ a)) 65536 (omega arith),
        le-leb 4 (length (t ++ a)) (omega arith),
        size,
        le-leb (length t) (length (t ++ a)) (omega arith),
        take_at t a (length t) refl,
        drop_at t a (length t) refl,
      )

  listed_is : listing_of (t ++ a) ≡ printed (text_of (read_both t a))
  unfolding listing_of
  listed_is = ap printed parted

  -- but for the length, a listing answers as the image's check does
  pub listing_told : told (listing_call (t ++ a)) ≡ told (image_call t a)
  listing_told = ap told parted ∙ sym (both_told t a)

-- ---- in terms of the other calls

pub line_is : (v : Verdict (List ℕ)) → ((told v).code ≡ 0 → ⊥)
    → printed v ≡ refused_line (told v).code (told v).object (told v).bit
unfolding told printed
line_is (refused r) n = refl
line_is (done text) n = absurd (n refl)

both_read : (t a : List ℕ) {table : Table} {image : Image} → table_call t ≡ done table → image_call t a ≡ done image
    → printed (text_of (read_both t a)) ≡ panel_text table image
unfolding table_call image_call read_plan read_both printed
both_read t a e f = let g = rw e at f in rw (e, g)

-- an accepted table followed by an accepted image
pub panel_printed : (t a : List ℕ) {table : Table} {image : Image} → length t + length a ≤ 65536
    → table_call t ≡ done table → image_call t a ≡ done image
    → listing_of (t ++ a) ≡ panel_text table image
panel_printed t a few e f = let w = table_fills t e in listed_is t a w.0 w.1 few ∙ both_read t a e f

-- a refusal, of either: the numbers are those of the image's check
pub refusal_printed : (t a : List ℕ) → 4 ≤ length t → length t ≡ 4 + number (take 4 t) → length t + length a ≤ 65536
    → {c : Answer} → c ≡ told (image_call t a) → (c.code ≡ 0 → ⊥)
    → listing_of (t ++ a) ≡ refused_line c.code c.object c.bit
refusal_printed t a four fills few e n =
    let same = e ∙ both_told t a in
    listed_is t a four fills few ∙ line_is (text_of (read_both t a)) (λ z. n (ap (λ (c : Answer). c.code) same ∙ z))
    ∙ ap (λ (c : Answer). refused_line c.code c.object c.bit) (sym same)

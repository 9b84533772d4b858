-- Where the parts of a table, an image and a list are in their bytes.
-- Assumes nothing.
use Prim.Native.Nat.{ℕ, ◌+◌, ◌≤◌}
use native.Mathlib.Omega.{arith}
use mathlib.Core.Path.{◌≡◌, refl, ap, ◌∙◌}
use mathlib.Core.List.{List, ◌++◌}
use lib.ListN.{length, take, drop, length-append, length-drop}
use Rattle.octets.specs.Octets.{bytes, number}
use Rattle.octets.proofs.NumberLaws.{length_bytes, read_bytes}
use Rattle.history.specs.Form.{form_bytes}
use Rattle.history.specs.Table.{Table, objects_bytes, table_bytes, Plan}
use Rattle.history.specs.Image.{Image, widths, words_bytes, image_bytes, elements_from, LegalImage, AcceptedImage}
use Rattle.history.specs.Changes.{Changes, entries, entries_bytes, list_bytes, AcceptedList}
use Rattle.history.proofs.ImageLaws.{length_words}
use Rattle.heads.specs.Heads.{objects_place, elements_place, image_head, position_in, elements_in, from_in, to_in}
use Rattle.heads.specs.Heads.{entry_count_in, entries_place, entries_in}

-- ---- a table and an image as they are written

pub written_objects : (t : Table) → drop objects_place (table_bytes t) ≡ objects_bytes t.objects
unfolding objects_place table_bytes form_bytes bytes
written_objects t = refl

pub written_elements : (p : Plan) (a : Image) → elements_in (image_bytes p a) ≡ words_bytes p.kinds a.words
unfolding elements_in image_head elements_place elements_from image_bytes form_bytes bytes
written_elements p a = refl

image_tail : (p : Plan) (a : Image)
    → position_in (image_bytes p a) ≡ number (take 4 (bytes 4 a.position ++ words_bytes p.kinds a.words))
unfolding position_in image_bytes form_bytes bytes
image_tail p a = refl

module _ {p : Plan} {a : Image} (h : LegalImage p a) where
  pub written_position : position_in (image_bytes p a) ≡ a.position
  written_position = image_tail p a ∙ read_bytes 4 a.position _ h.position

  pub written_length : length (image_bytes p a) ≡ image_head (image_bytes p a) + widths p.kinds
  unfolding image_head elements_place elements_from image_bytes form_bytes
  written_length = simp (length-append, length_bytes, length_words h.words) (omega arith)

-- ---- an accepted image

module _ {p : Plan} {A : List ℕ} (a : AcceptedImage p A) where
  pub position_in_lem : position_in A ≡ a.image.position
  position_in_lem = ap position_in a.same ∙ written_position a.legal

  pub elements_in_lem : elements_in A ≡ words_bytes p.kinds a.image.words
  elements_in_lem = ap elements_in a.same ∙ written_elements p a.image

  pub image_length : length A ≡ image_head A + widths p.kinds
  image_length = rw a.same (written_length a.legal)

  -- the head is inside
  pub image_inside : image_head A ≤ length A
  image_inside = omega (arith, image_length)

  pub elements_length : {s : List ℕ} → s ≡ elements_in A → length s ≡ widths p.kinds
  unfolding elements_in
  elements_length e = ap length e ∙ length-drop (image_head A) A ∙ omega (arith, image_length)

-- ---- an accepted list

module _ (p : Plan) (l : Changes) where
  abbrev counted : List ℕ
  counted = bytes 2 (entries l.each) ++ entries_bytes 0 p.kinds l.each

  list_from : from_in (list_bytes p l) ≡ number (take 4 (bytes 4 l.from ++ (bytes 4 l.to ++ counted)))
  unfolding from_in list_bytes form_bytes bytes
  list_from = refl

  list_to : to_in (list_bytes p l) ≡ number (take 4 (bytes 4 l.to ++ counted))
  unfolding to_in list_bytes form_bytes bytes
  list_to = refl

  list_count : entry_count_in (list_bytes p l) ≡ number (take 2 counted)
  unfolding entry_count_in list_bytes form_bytes bytes
  list_count = refl

  list_entries : entries_in (list_bytes p l) ≡ entries_bytes 0 p.kinds l.each
  unfolding entries_in entries_place list_bytes form_bytes bytes
  list_entries = refl

  list_long : entries_place ≤ length (list_bytes p l)
  unfolding entries_place list_bytes form_bytes
  list_long = simp (length-append, length_bytes) (omega arith)

module _ {p : Plan} {L : List ℕ} (l : AcceptedList p L) where
  pub from_in_lem : from_in L ≡ l.list.from
  from_in_lem = ap from_in l.same ∙ list_from p l.list ∙ read_bytes 4 l.list.from _ l.legal.from

  pub to_in_lem : to_in L ≡ l.list.to
  to_in_lem = ap to_in l.same ∙ list_to p l.list ∙ read_bytes 4 l.list.to _ l.legal.to

  pub count_in_lem : entries l.list.each ≤ 1024 → entry_count_in L ≡ entries l.list.each
  count_in_lem h =
      ap entry_count_in l.same ∙ list_count p l.list ∙ read_bytes 2 (entries l.list.each) _ (omega arith)

  pub entries_in_lem : entries_in L ≡ entries_bytes 0 p.kinds l.list.each
  entries_in_lem = ap entries_in l.same ∙ list_entries p l.list

  -- the head is inside
  pub list_inside : entries_place ≤ length L
  list_inside = rw l.same (list_long p l.list)

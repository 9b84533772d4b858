-- Every listing fits in 65,536 bytes, and nothing printed is empty. The objects' numbers take at most 2,986 digits, the
-- rest of a line at most 61 bytes even if its label had 48, and the first line at most 44.
-- Assumes nothing.
use Prim.Native.Nat.{ℕ, suc, ◌+◌, ◌*◌, ◌-◌, ◌≤◌, ◌<◌}
use native.Mathlib.Omega.{arith}
use mathlib.Core.Path.{◌≡◌, refl, ap}
use mathlib.Core.Bool.{Bool, true, false}
use mathlib.Core.List.{List, [], ◌∷◌, map}
use lib.Dec.{leb, ltb, leb→le}
use lib.ListN.{length, get_or, take, drop, length-append}
use borrow.Author.Tests.{ltb-true, ltb-false}
use Rattle.octets.specs.Octets.{bytes}
use Rattle.octets.proofs.NumberLaws.{length_bytes}
use Rattle.rows.specs.Rows.{layouts}
use Rattle.kinds.specs.Kinds.{width_of}
use Rattle.kinds.specs.declared.Kind.{Kind}
use Rattle.elements.specs.Elements.{carried, kind_of}
use Rattle.elements.proofs.TypeLaws.{every_carried}
use Rattle.history.specs.Verdict.{Verdict, refused, done}
use Rattle.history.specs.Table.{Object, Table, label_limit, plan_of, read_table, LegalTable}
use Rattle.history.specs.Image.{Image, read_image}
use Rattle.history.proofs.TableLaws.{nobody, table_is}
use Rattle.history.proofs.VerdictLaws.{used, held}
use Rattle.text.specs.Decimal.{decimal_in, decimal}
use Rattle.text.specs.Grew.{Grew}
use Rattle.text.specs.declared.Page.{Page}
use Rattle.text.proofs.Laws.{decimal_fits}
use Rattle.listing.specs.Listing.{Panel, read_both, table_size, read_panel, first_line, object_line, lines_of}
use Rattle.listing.specs.Listing.{refused_line, panel_text, text_of, listing_call, printed, listing_of}
use Rattle.listing.specs.Walk.{lines_in}
use Rattle.listing.proofs.LineLaws.{first_length, refused_length, object_length}

-- ---- numbers: of n objects, the last below 1,024, each number has a digit, at most 1,014 a
-- second, 924 a third, 24 a fourth

-- n, but no more than c
abbrev up_to : ℕ → ℕ → ℕ
up_to c n = n - (n - c)

up_more : (c n : ℕ) → up_to c n ≤ up_to c (suc n)
up_more c n = omega arith

up_one : (c n : ℕ) → n < c → up_to c (suc n) ≡ suc (up_to c n)
up_one c n h = omega arith

digits_of : ℕ → ℕ
digits_of n = n + (up_to 1014 n + (up_to 924 n + up_to 24 n))

-- by whether the number is below each power of ten
digits_at : (s t u : Bool) (i n : ℕ) → ltb i 10 ≡ s → ltb i 100 ≡ t → ltb i 1000 ≡ u → i + suc n ≤ 1024
    → length (decimal i) + digits_of n ≤ digits_of (suc n)
unfolding digits_of
digits_at true t u i n e f g h =
    let l : i < 10 = ltb-true i 10 e in
    omega (arith, decimal_fits 0 i (omega arith) (omega arith), up_more 1014 n, up_more 924 n, up_more 24 n)
digits_at false true u i n e f g h =
    let m : 10 ≤ i = ltb-false i 10 e in
    let l : i < 100 = ltb-true i 100 f in
    omega (
      arith,
      decimal_fits 1 i (omega arith) (omega arith),
      up_one 1014 n (omega arith),
      up_more 924 n,
      up_more 24 n,
    )
digits_at false false true i n e f g h =
    let m : 100 ≤ i = ltb-false i 100 f in
    let l : i < 1000 = ltb-true i 1000 g in
    omega (
      arith,
      decimal_fits 2 i (omega arith) (omega arith),
      up_one 1014 n (omega arith),
      up_one 924 n (omega arith),
      up_more 24 n,
    )
digits_at false false false i n e f g h =
    let m : 1000 ≤ i = ltb-false i 1000 g in
    omega (
      arith,
      decimal_fits 3 i (omega arith) (omega arith),
      up_one 1014 n (omega arith),
      up_one 924 n (omega arith),
      up_one 24 n (omega arith),
    )

digits_next : (i n : ℕ) → i + suc n ≤ 1024 → length (decimal i) + digits_of n ≤ digits_of (suc n)
digits_next i n h = digits_at (ltb i 10) (ltb i 100) (ltb i 1000) i n refl refl refl h

-- ---- a type and its element: at most nine digits together, since only types of one digit have four bytes

abbrev few : ℕ → ℕ → Kind → Bool
few x type k = leb (length (decimal type) + 2 * width_of k) 9

type_few : (x type : ℕ) → carried x type ≡ true → length (decimal type) + 2 * width_of (kind_of x type) ≤ 9
unfolding layouts decimal decimal_in
type_few x type e = leb→le _ _ (every_carried few tt x type e)

-- ---- lines

-- what is known of each object
record Few (x : ℕ) (o : Object) : Type 0 where
  type : carried x o.type ≡ true
  label : length o.label ≤ 48

line_few : (x i : ℕ) (o : Object) (w : ℕ) → Few x o
    → length (object_line i o.type o.label (bytes (width_of (kind_of x o.type)) w)) ≤ length (decimal i) + 61
line_few x i o w h =
    let k = kind_of x o.type in
    omega (
      arith,
      object_length i o.type o.label (bytes (width_of k) w),
      type_few x o.type h.type,
      length_bytes (width_of k) w,
      h.label,
    )

lines_few : (x i : ℕ) (os : List Object) (ws : List ℕ) → i + length os ≤ 1024
    → ((j : ℕ) → j < length os → Few x (get_or os j nobody))
    → length (lines_of i os (map (λ (o : Object). kind_of x o.type) os) ws) ≤ digits_of (length os) + 61 * length os
lines_few x i [] ws h l = omega arith
lines_few x i (o ∷ os) [] h l = omega arith
lines_few x i (o ∷ os) (w ∷ ws) h l =
    let ks : List Kind = map (λ (o : Object). kind_of x o.type) os in
    omega (
      arith,
      length-append (object_line i o.type o.label (bytes (width_of (kind_of x o.type)) w))
          (lines_of (suc i) os ks ws),
      line_few x i o w (l 0 (omega arith)),
      digits_next i (length os) (omega arith),
      lines_few x (suc i) os ws (omega arith) (λ j m. l (suc j) (omega arith)),
    )

digits_all : (n : ℕ) → n ≤ 1024 → digits_of n ≤ 2986
unfolding digits_of
digits_all n h = omega arith

-- of each object of a table that is read
each_few : {t : Table} → LegalTable t → (j : ℕ) → j < length t.objects → Few t.x (get_or t.objects j nobody)
unfolding label_limit
each_few h j m = record { type = (h.each j m).type; label = omega (arith, (h.each j m).few) }

table_few : {t : Table} (a : Image) → LegalTable t
    → length (lines_of 0 t.objects (plan_of t).kinds a.words) ≤ 65450
unfolding plan_of
table_few {t} a h =
    omega (
      arith,
      lines_few t.x 0 t.objects a.words (omega (arith, h.count)) (each_few h),
      digits_all (length t.objects) h.count,
      h.count,
    )

panel_few : {t : Table} (a : Image) → LegalTable t → length (panel_text t a) ≤ 65494
panel_few {t} a h =
    omega (
      arith,
      length-append (first_line t.x t.y a.position (length t.objects))
          (lines_of 0 t.objects (plan_of t).kinds a.words),
      first_length t.x t.y a.position (length t.objects),
      table_few a h,
    )

both_legal : (b a : List ℕ) {p : Panel} → read_both b a ≡ done p → LegalTable p.table
unfolding read_both
both_legal b a {p} e =
    let t = used (read_table b) _ e in
    let i = used (read_image (plan_of t.0) a) _ t.2 in
    let same : record { table = t.0; image = i.0 } ≡ p = cc i.2 in
    rw (ap (λ (v : Panel). v.table) same) at (table_is b t.1).legal

text_few : (v : Verdict Panel) → ((p : Panel) → v ≡ done p → LegalTable p.table)
    → length (printed (text_of v)) ≤ 65536
unfolding printed
text_few (refused r) h = omega (arith, refused_length r.code r.object r.bit)
text_few (done p) h = omega (arith, panel_few p.image (h p refl))

below_few : (v : Verdict Panel) → ((p : Panel) → v ≡ done p → LegalTable p.table) → length (lines_in v) ≤ 65450
unfolding lines_in
below_few (refused r) h = omega arith
below_few (done p) h = table_few p.image (h p refl)

-- once the first line is written: the room for the lines below, and where they end
module _ (b a : List ℕ) (x y position count : ℕ) {p q : Page} (begins : p.at ≡ 0)
    (w : Grew p (first_line x y position count) q) where
  pub lines_room : 65536 ≤ length p.out.now → q.at + length (lines_in (read_both b a)) ≤ length q.out.now
  lines_room h =
      omega (
        arith,
        w.wrote.next,
        w.size,
        first_length x y position count,
        below_few (read_both b a) (λ p e. both_legal b a e),
      )

  module _ {r : Page} (v : Grew q (lines_in (read_both b a)) r) where
    pub lines_end : r.at ≤ 65536
    lines_end =
        omega (
          arith,
          w.wrote.next,
          v.wrote.next,
          first_length x y position count,
          below_few (read_both b a) (λ p e. both_legal b a e),
        )

panel_legal : (input : List ℕ) {p : Panel} → read_panel input ≡ done p → LegalTable p.table
unfolding read_panel
panel_legal input e =
    let h₁ = held (leb (length input) 65536) _ _ e in
    let h₂ = held (leb 4 (length input)) _ _ h₁.1 in
    let h₃ = held (leb (table_size input) (length input)) _ _ h₂.1 in
    both_legal (take (table_size input) input) (drop (table_size input) input) h₃.1

-- ---- every listing

pub listing_fits : (input : List ℕ) → length (listing_of input) ≤ 65536
unfolding listing_of listing_call
listing_fits input = text_few (read_panel input) (λ p e. panel_legal input e)

pub text_fits : (input : List ℕ) {text : List ℕ} → listing_call input ≡ done text → length text ≤ 65536
unfolding listing_of printed
text_fits input e = omega (arith, listing_fits input, ap (λ (v : Verdict (List ℕ)). length (printed v)) e)

some : (v : Verdict Panel) → 1 ≤ length (printed (text_of v))
unfolding printed first_line refused_line
some (refused r) = omega arith
some (done p) = simp length-append (omega arith)

pub listing_some : (input : List ℕ) → 1 ≤ length (listing_of input)
unfolding listing_of listing_call
listing_some input = some (read_panel input)

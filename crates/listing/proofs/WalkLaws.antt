-- The walk over an accepted table and image, a turn at a time:
-- the whole text is what is written, followed by the lines of the objects left.
-- Assumes nothing.
use Prim.Native.Nat.{ℕ, suc, ◌+◌, ◌-◌, ◌*◌, ◌≤◌, ◌<◌}
use native.Mathlib.Omega.{arith}
use native.Mathlib.Nat.{add-zero}
use native.Mathlib.Numerals.{add-one}
use mathlib.Core.Path.{◌≡◌, refl, sym, ap, ap₂, ◌∙◌, subst⁻¹}
use mathlib.Core.List.{List, [], ◌∷◌, ◌++◌, append_assoc}
use lib.ListN.{length, take, drop, get_or, length-append, length-drop}
use lib.Seq.{drop-drop, get_or-drop, take-append_seam, drop-append_seam}
use Rattle.octets.specs.Octets.{bytes}
use Rattle.octets.proofs.NumberLaws.{length_bytes, take_bytes, drop_bytes}
use Rattle.kinds.specs.Kinds.{width_of}
use Rattle.kinds.specs.declared.Kind.{Kind}
use Rattle.history.specs.Table.{Object, Plan, objects_bytes, kind_at}
use Rattle.history.specs.Image.{words_bytes, Every, and, admits}
use Rattle.heads.specs.Heads.{objects_place, elements_in}
use Rattle.forms.proofs.KindLaws.{kinds_next}
use Rattle.text.specs.Grew.{Grew}
use Rattle.text.specs.declared.Page.{Page}
use Rattle.text.proofs.Laws.{grew_then}
use Rattle.listing.specs.Listing.{read_both, object_line, lines_of}
use Rattle.listing.specs.Walk.{line_size, Ready, lines_in}
use Rattle.listing.proofs.LineLaws.{object_length}
use Rattle.listing.proofs.PanelLaws.{Held, Read, read_as}

-- the objects left: their entries are in the table from one place on, their elements among the image's from another
pub record Ahead (b a : List ℕ) (ks : List Kind) (os : List Object) (ws : List ℕ) (entry place : ℕ) : Type 0 where
  pub entries : drop entry b ≡ objects_bytes os
  pub elements : drop place a ≡ words_bytes ks ws
  pub each : Every admits ks ws
  pub count : length os ≡ length ks
  pub inside : place ≤ length a

-- the next object: where its entry and its element end, its line before those of the others, and the objects after it
pub record Next (b a : List ℕ) (k : Kind) (ks : List Kind) (i entry place : ℕ) (lines : List ℕ) : Type 0 where
  pub objects : List Object
  pub words : List ℕ
  pub entry_inside : entry + 2 + get_or b (entry + 1) 0 ≤ length b
  pub element_inside : place + width_of k ≤ length a
  pub first : lines
      ≡ object_line i (get_or b entry 0) (take (get_or b (entry + 1) 0) (drop (entry + 2) b))
      (take (width_of k) (drop place a))
      ++ lines_of (suc i) objects ks words
  pub rest : Ahead b a ks objects words (entry + 2 + get_or b (entry + 1) 0) (place + width_of k)

module _ (b a : List ℕ) (entry place : ℕ) {k : Kind} {ks : List Kind} (i : ℕ) where
  next_of : (os : List Object) {ws : List ℕ} → drop entry b ≡ objects_bytes os → drop place a ≡ words_bytes (k ∷ ks) ws
      → Every admits (k ∷ ks) ws → length os ≡ length (k ∷ ks) → place ≤ length a
      → Next b a k ks i entry place (lines_of i os (k ∷ ks) ws)
  next_of [] e f h c l = absurd (omega arith)
  next_of (o ∷ os) e f (and {b = w} {ys = ws} p ps) c l =
      let n : ℕ = length o.label in
      let type : get_or b entry 0 ≡ o.type =
      ap (λ (m : ℕ). get_or b m 0) (sym (add-zero entry)) ∙ sym (get_or-drop entry b 0 0)
      ∙ ap (λ (c : List ℕ). get_or c 0 0) e in
      let size : get_or b (entry + 1) 0 ≡ n = sym (get_or-drop entry b 1 0) ∙ ap (λ (c : List ℕ). get_or c 1 0) e in
      let after : drop (entry + 2) b ≡ o.label ++ objects_bytes os = sym (drop-drop 2 entry b) ∙ ap (drop 2) e in
      let label : take (get_or b (entry + 1) 0) (drop (entry + 2) b) ≡ o.label =
      ap₂ take size after ∙ take-append_seam o.label (objects_bytes os) in
      let entries : drop (entry + 2 + get_or b (entry + 1) 0) b ≡ objects_bytes os =
      sym (drop-drop (get_or b (entry + 1) 0) (entry + 2) b) ∙ ap₂ drop size after
      ∙ drop-append_seam o.label (objects_bytes os) in
      let element : take (width_of k) (drop place a) ≡ bytes (width_of k) w =
      ap (take (width_of k)) f ∙ take_bytes (width_of k) w (words_bytes ks ws) in
      let elements : drop (place + width_of k) a ≡ words_bytes ks ws =
      sym (drop-drop (width_of k) place a) ∙ ap (drop (width_of k)) f ∙ drop_bytes (width_of k) w (words_bytes ks ws) in
      let wide : place + width_of k ≤ length a =
      omega (
        arith,
        length-drop place a,
        ap length f,
        length-append (bytes (width_of k) w) (words_bytes ks ws),
        length_bytes (width_of k) w,
      ) in
      record {
        objects = os;
        words = ws;
        entry_inside = omega (arith, length-drop entry b, ap length e, length-append o.label (objects_bytes os));
        element_inside = wide;
        first = λ j. object_line i (sym type j) (sym label j) (sym element j) ++ lines_of (suc i) os ks ws;
        rest = record { entries = entries; elements = elements; each = ps; count = omega arith; inside = wide };
      }

  next : {js : List Kind} {os : List Object} {ws : List ℕ} → js ≡ k ∷ ks → Ahead b a js os ws entry place
      → Next b a k ks i entry place (lines_of i os js ws)
  next {os = os} {ws = ws} e =
      subst⁻¹ (λ (js : List Kind). Ahead b a js os ws entry place → Next b a k ks i entry place (lines_of i os js ws)) e
      (λ h. next_of os h.entries h.elements h.each h.count h.inside)

two_each : (os : List Object) → 2 * length os ≤ length (objects_bytes os)
two_each [] = omega arith
two_each (o ∷ os) = omega (arith, two_each os, length-append o.label (objects_bytes os))

-- ---- the loop

lines_in_lem : {b a : List ℕ} {p : Plan} (r : Read b a p)
    → lines_in (read_both b a) ≡ lines_of 0 r.table.objects p.kinds r.image.words
unfolding lines_in
lines_in_lem r =
    ap lines_in r.reads ∙ ap (λ (p : Plan). lines_of 0 r.table.objects p.kinds r.image.words) r.plan

-- the lines so far are written, and the objects from i on are ahead
pub record Walked (b a : List ℕ) (ns : List Kind) (elements : List ℕ) (page₀ page : Page)
    (entry place i : ℕ) : Type 0 where
  pub written : List ℕ
  pub objects : List Object
  pub words : List ℕ
  pub bound : i ≤ length ns
  pub space : page₀.at + length (lines_in (read_both b a)) ≤ length page₀.out.now
  pub so_far : Grew page₀ written page
  pub whole : lines_in (read_both b a) ≡ written ++ lines_of i objects (drop i ns) words
  pub ahead : Ahead b elements (drop i ns) objects words entry place

pub begin : {b a : List ℕ} {p : Plan} → Ready b a p → Held b → Held a → (elements : List ℕ) → elements ≡ elements_in a
    → (entry : ℕ) → entry ≡ objects_place
    → (page : Page) → page.at + length (lines_in (read_both b a)) ≤ length page.out.now
    → Walked b a p.kinds elements page page entry 0 0
begin {b} {a} {p} ready hb ha elements e entry f page h =
    let r = read_as ready hb ha in
    record {
      written = [];
      objects = r.table.objects;
      words = r.image.words;
      bound = omega arith;
      space = h;
      so_far = record { same = refl; size = refl; wrote = record { next = omega arith; text = refl } };
      whole = lines_in_lem r;
      ahead =
          record {
            entries = ap (λ (n : ℕ). drop n b) f ∙ r.entries;
            elements = e ∙ r.elements;
            each = r.each;
            count = r.count;
            inside = omega arith;
          };
    }

module _ {b a : List ℕ} {ns : List Kind} {elements : List ℕ} {page₀ page : Page} {entry place i : ℕ}
    (l : Walked b a ns elements page₀ page entry place i) where
  -- an entry has at least two bytes
  pub entries_left : 2 * (length ns - i) ≤ length b - entry
  entries_left =
      omega (
        arith,
        l.bound,
        two_each l.objects,
        ap length l.ahead.entries,
        length-drop entry b,
        l.ahead.count,
        length-drop i ns,
      )

  module _ (h : i < length ns) where
    -- the next object
    here : Next b elements (kind_at ns i) (drop (i + 1) ns) i entry place
        (lines_of i l.objects (drop i ns) l.words)
    here = next b elements entry place i (kinds_next ns i h) l.ahead

    -- in terms of what the code has: where the label ends
    pub label_inside : {end : ℕ} → end ≡ entry + 2 + get_or b (entry + 1) 0 → end ≤ length b
    label_inside e = omega (arith, here.entry_inside)

    -- the width of the object's element
    module _ {w : ℕ} (width_is : w ≡ width_of (kind_at ns i)) where
      pub element_inside : place + w ≤ length elements
      element_inside = omega (arith, here.element_inside, width_is)

      module _ {end : ℕ} (end_is : end ≡ entry + 2 + get_or b (entry + 1) 0) where
        abbrev label : List ℕ
        label = take (end - (entry + 2)) (drop (entry + 2) b)

        abbrev element : List ℕ
        element = take (place + w - place) (drop place elements)

        abbrev later : List ℕ
        later = lines_of (i + 1) here.objects (drop (i + 1) ns) here.words

        lines_are : lines_in (read_both b a) ≡ l.written ++ (object_line i (get_or b entry 0) label element ++ later)
        lines_are =
            let size : end - (entry + 2) ≡ get_or b (entry + 1) 0 = omega arith in
            let wide : place + w - place ≡ width_of (kind_at ns i) = omega (arith, width_is) in
            l.whole ∙ ap (λ (r : List ℕ). l.written ++ r)
            (here.first
            ∙ (λ j. object_line i (get_or b entry 0) (take (sym size j) (drop (entry + 2) b))
            (take (sym wide j) (drop place elements))
            ++ lines_of (sym (add-one i) j) here.objects (drop (i + 1) ns) here.words))

        pub has_room : page.at + line_size i (get_or b entry 0) label element ≤ length page.out.now
        has_room =
            omega (
              arith,
              l.space,
              l.so_far.size,
              l.so_far.wrote.next,
              ap length lines_are,
              length-append l.written (object_line i (get_or b entry 0) label element ++ later),
              length-append (object_line i (get_or b entry 0) label element) later,
              object_length i (get_or b entry 0) label element,
            )

        pub goes_on : {page' : Page} → Grew page (object_line i (get_or b entry 0) label element) page'
            → Walked b a ns elements page₀ page' end (place + w) (i + 1)
        goes_on v = record {
          written = l.written ++ object_line i (get_or b entry 0) label element;
          objects = here.objects;
          words = here.words;
          bound = omega arith;
          space = l.space;
          so_far = grew_then l.so_far v;
          whole = lines_are ∙ sym (append_assoc l.written (object_line i (get_or b entry 0) label element) later);
          ahead = rw (end_is, width_is) here.rest;
        }

-- The kinds of an accepted table's objects, put in turn by turn; what is read of a table;
-- and kinds from layout numbers.
-- Assumes nothing.
use Prim.Native.Nat.{ℕ, ◌+◌, ◌-◌, ◌≤◌, ◌<◌}
use native.Mathlib.Omega.{arith}
use native.Mathlib.Numerals.{add-one}
use mathlib.Core.Path.{◌≡◌, refl, sym, ap, ap₂, ◌∙◌}
use mathlib.Core.List.{List, [], ◌∷◌, ◌++◌, map, map-append}
use Rattle.std.specs.Prelude.{Ok, Err}
use lib.ListN.{length, get_or, take, drop, set, replicate, length-set, length-replicate}
use lib.Seq.{take_all}
use Rattle.std.proofs.lemmas.List.{take_more, take_more_set, drop-drop, drop-replicate, drop-set-lt}
use Rattle.kinds.specs.declared.Kind.{Kind}
use Rattle.elements.specs.Elements.{kind_of, kind_numbered}
use Rattle.history.specs.declared.Answer.{Answer}
use Rattle.history.specs.Verdict.{done, checked, given}
use Rattle.history.specs.Table.{Object, Table, Plan, plan_of}
use Rattle.history.specs.Calls.{table_call, read_plan}
use Rattle.history.proofs.OutputLaws.{first_given}
use Rattle.heads.specs.Heads.{count_in, objects_place}
use Rattle.heads.proofs.Places.{objects_place_lem}
use Rattle.tables.specs.Outlines.{kinds_of, plan_as}
use Rattle.tables.proofs.PlaceLaws.{object_of, objects_below}
use Rattle.tables.proofs.TableLaws.{accepted, table_of, CursorAt, cursor_first, cursor_next}

-- ---- kinds from layout numbers

-- the first kinds are those of the numbers passed
pub record Turned (ns : List ℕ) (ks : List Kind) (i : ℕ) : Type 0 where
  pub room : length ks ≡ 1024
  pub so_far : take i ks ≡ kinds_of (take i ns)

pub turned_none : (ns : List ℕ) (k : Kind) → Turned ns (replicate 1024 k) 0
unfolding kinds_of
turned_none ns k = record { room = length-replicate {A = Kind} 1024 k; so_far = refl }

pub turned_more : {ns : List ℕ} {ks : List Kind} {i : ℕ} → Turned ns ks i → length ns ≤ 1024 → i < length ns
    → (k : Kind) → k ≡ kind_numbered (get_or ns i 0)
    → Turned ns (set ks i k) (i + 1)
unfolding kinds_of
turned_more {ns} {ks} {i} t few h k k-is =
    record {
      room = length-set ks i k ∙ t.room;
      so_far =
          take_more_set ks i k (omega (arith, t.room))
          ∙ ap₂ (λ (p : List Kind) (q : Kind). p ++ (q ∷ [])) t.so_far k-is
          ∙ sym (ap (map kind_numbered) (take_more ns i 0 h)
          ∙ map-append kind_numbered (take i ns) (get_or ns i 0 ∷ []));
    }

pub turned_all : (x y : ℕ) {ns : List ℕ} {ks : List Kind} {i : ℕ} → Turned ns ks i → length ns ≤ i → i ≤ length ns
    → record { x = x; y = y; kinds = take (length ns) ks } ≡ plan_as x y ns
turned_all x y {ns} {ks} {i} t h l =
    let e : i ≡ length ns = omega arith in
    ap (λ (ks : List Kind). record { x = x; y = y; kinds = ks })
    (ap (λ (n : ℕ). take n ks) (sym e) ∙ t.so_far ∙ ap kinds_of (take_all i ns h))

-- ---- the kinds of a table's objects

module _ (b : List ℕ) where
  abbrev kind : Object → Kind
  kind o = kind_of (get_or b 5 0) o.type

  abbrev kinds_below : ℕ → List Kind
  kinds_below k = map kind (objects_below b k)

-- what the loop keeps: the cursor's place, and the kinds so far
pub record Filling (b : List ℕ) (count : ℕ) (kinds : List Kind) (i at : ℕ) : Type 0 where
  pub long : 5 < length b
  pub few : count ≤ 1024
  pub cursor : CursorAt b count i at
  pub room : length kinds ≡ 1024
  pub so_far : take i kinds ≡ kinds_below b i
  pub rest : drop i kinds ≡ replicate (1024 - i) Kind.Signal

-- what is left to fill is alike, one place less after a turn
rest_next : (kinds : List Kind) (i : ℕ) (k : Kind) → drop i kinds ≡ replicate (1024 - i) Kind.Signal
    → drop (i + 1) (set kinds i k) ≡ replicate (1024 - (i + 1)) Kind.Signal
rest_next kinds i k e =
    drop-set-lt (i + 1) kinds i k (omega arith) ∙ sym (drop-drop 1 i kinds) ∙ ap (drop 1) e
    ∙ drop-replicate 1 (1024 - i) Kind.Signal ∙ ap (λ (n : ℕ). replicate n Kind.Signal) (omega arith)

pub begin : (b : List ℕ) (count : ℕ) (kinds : List Kind) (at : ℕ) → Ok tt ≡ checked (table_call b) → count ≡ count_in b
    → at ≡ objects_place → length kinds ≡ 1024 → kinds ≡ replicate 1024 Kind.Signal → Filling b count kinds 0 at
begin b count kinds at z e e' room alike =
    let a = accepted b (table_of b z).1 in
    record {
      long = omega (arith, objects_place_lem, a.long);
      few = omega (arith, a.few);
      cursor = cursor_first b count at z (omega arith) e';
      room = room;
      so_far = refl;
      rest = alike;
    }

pub turn : {b : List ℕ} {count : ℕ} {kinds : List Kind} {i at : ℕ} → Filling b count kinds i at → i < count
    → (k : Kind) → k ≡ kind_of (get_or b 5 0) (get_or b at 0)
    → (size : ℕ) → size ≡ 2 + get_or b (at + 1) 0 → Filling b count (set kinds i k) (i + 1) (at + size)
turn {b} {count} {kinds} {i} {at} f h k e size e' =
    record {
      long = f.long;
      few = f.few;
      cursor = cursor_next f.cursor h size e';
      room = length-set kinds i k ∙ f.room;
      so_far =
          take_more_set kinds i k (omega (arith, f.room, f.few))
          ∙ ap₂ (λ (p : List Kind) (q : Kind). p ++ (q ∷ [])) f.so_far
          (e ∙ ap (λ (p : ℕ). kind_of (get_or b 5 0) (get_or b p 0)) f.cursor.place)
          ∙ sym (ap (kinds_below b) (add-one i) ∙ map-append (kind b) (objects_below b i) (object_of b i ∷ []));
      rest = rest_next kinds i k f.rest;
    }

-- the places after the objects' kinds are alike
pub left_alike : {b : List ℕ} {count : ℕ} {kinds : List Kind} {i at : ℕ} → Filling b count kinds i at → count ≤ i
    → drop count kinds ≡ replicate (1024 - count) Kind.Signal
left_alike {count = count} {kinds = kinds} {i = i} f h =
    let e : i ≡ count = omega (arith, f.cursor.bound) in
    ap (λ (n : ℕ). drop n kinds) (sym e) ∙ f.rest ∙ ap (λ (n : ℕ). replicate (1024 - n) Kind.Signal) e

-- ---- what is read of a table

plan_is : (b : List ℕ) {t : Table} → table_call b ≡ done t → read_plan b ≡ done (plan_of t)
unfolding table_call read_plan
plan_is b e = rw e

pub all_filled : {b : List ℕ} {count : ℕ} {kinds : List Kind} {i at : ℕ} → Filling b count kinds i at → count ≤ i
    → count ≡ count_in b → Ok tt ≡ checked (table_call b)
    → read_plan b ≡ done (record { x = get_or b 5 0; y = get_or b 6 0; kinds = take count kinds })
unfolding plan_of
all_filled {b} {count} {kinds} {i} {at} f h e z =
    let t = table_of b z in
    let acc = accepted b t.1 in
    let i-is : i ≡ count = omega (arith, f.cursor.bound) in
    let front : take count kinds ≡ map (λ (o : Object). kind_of t.0.x o.type) t.0.objects =
    ap (λ (n : ℕ). take n kinds) (sym i-is) ∙ f.so_far
    ∙ ap₂ (λ (n x : ℕ). map (λ (o : Object). kind_of x o.type) (objects_below b n)) (i-is ∙ e) (sym acc.x)
    ∙ ap (map (λ (o : Object). kind_of t.0.x o.type)) (sym acc.objects) in
    plan_is b t.1 ∙ ap done (λ j. record { x = acc.x j; y = acc.y j; kinds = sym front j })

pub plan_refused : (b : List ℕ) {a : Answer} → Err a ≡ checked (table_call b)
    → Err a ≡ given (λ (p : Plan). p) (read_plan b)
unfolding table_call read_plan
plan_refused b = first_given (table_call b) (λ (t : Table). tt) _ (λ (p : Plan). p)

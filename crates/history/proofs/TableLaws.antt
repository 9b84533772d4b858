-- Bytes are accepted as a table exactly where they are a legal table, written; they are read as that table.
-- Assumes nothing.
use Prim.Native.Nat.{ℕ, zero, suc, ◌+◌, ◌*◌, ◌≤◌, ◌<◌}
use native.Mathlib.Omega.{arith}
use native.Mathlib.Nat.{add-zero, zero-add, suc-add}
use mathlib.Core.Path.{◌≡◌, refl, sym, ap, ap₂, ◌∙◌}
use mathlib.Core.Bool.{Bool, true, false, not, ◌&&◌, ◌||◌, not-eq-not, or-true}
use mathlib.Core.List.{List, [], ◌∷◌, ◌++◌, append_assoc, append-nil}
use mathlib.Core.Logic.{◌↔◌}
use lib.Dec.{eqb, leb}
use lib.ListN.{length, take, drop, get_or, length-append, length-drop, length-map, take-append-drop, get_or-append}
use lib.Seq.{drop-cons, length-take-le, take-append_seam, drop-append_seam, get_or-append_seam}
use borrow.Author.Tests.{eq-eqb, eqb-true, le-leb, leb-true, not-true}
use Rattle.octets.specs.Octets.{bytes, number, Bytes}
use Rattle.history.specs.Verdict.{Refused, naming, Verdict, refused, done, refusal_at, ◌unless◌⨾◌}
use Rattle.history.specs.Form.{Form, form_bytes, read_form}
use Rattle.history.specs.Table.{Object, Table, version_good, catalogue_good, label_limit, label_good, object_bytes}
use Rattle.history.specs.Table.{objects_bytes, table_bytes, same_object, repeats, ObjectEntry, object_at, check_object}
use Rattle.history.specs.Table.{read_objects, read_table, Plan, plan_of, LegalObject, LegalTable}
use Rattle.elements.specs.Elements.{carried}
use Rattle.octets.specs.Octets.{same_bytes}
use Rattle.history.specs.Calls.{read_plan}
use Rattle.octets.proofs.NumberLaws.{length_bytes, read_bytes, drop_bytes, cut}
use Rattle.history.proofs.VerdictLaws.{all, left, right, one_refusal, kept, held, used, past, stopped}
use Rattle.history.proofs.FormLaws.{form_version, form_contents, form_is, form_reads}
use Rattle.history.proofs.ImageLaws.{Fair}

abbrev pub nobody : Object
nobody = record { type = 0; label = [] }

-- ---- equal objects

same_refl : (l : List ℕ) → same_bytes l l ≡ true
same_refl [] = refl
same_refl (x ∷ xs) = all (eq-eqb x x refl) (same_refl xs)

same_eq : (l m : List ℕ) → same_bytes l m ≡ true → l ≡ m
same_eq [] [] e = refl
same_eq [] (y ∷ ys) e = absurd (let z : ◌≡◌ {A = ℕ} 0 1 = cc in omega arith)
same_eq (x ∷ xs) [] e = absurd (let z : ◌≡◌ {A = ℕ} 0 1 = cc in omega arith)
same_eq (x ∷ xs) (y ∷ ys) e = ap₂ ◌∷◌ (eqb-true x y (left (eqb x y) _ e)) (same_eq xs ys (right (eqb x y) _ e))

pub object_refl : (o : Object) → same_object o o ≡ true
object_refl o = all (eq-eqb o.type o.type refl) (same_refl o.label)

pub object_eq : (o p : Object) → same_object o p ≡ true → o ≡ p
object_eq o p e =
    let t = eqb-true o.type p.type (left (eqb o.type p.type) _ e) in
    let l = same_eq o.label p.label (right (eqb o.type p.type) _ e) in
    λ i. record { type = t i; label = l i }

neither : (a b : Bool) → (a || b) ≡ false → (a ≡ false) × (b ≡ false)
neither true b e = absurd (let z : ◌≡◌ {A = ℕ} 0 1 = cc in omega arith)
neither false b e = (refl, e)

-- what repeats none of a list repeats none of its parts
fresh_before : (o : Object) (os ps : List Object) → repeats o (os ++ ps) ≡ false
    → (repeats o os ≡ false) × (repeats o ps ≡ false)
fresh_before o [] ps e = (refl, e)
fresh_before o (p ∷ os) ps e =
    let h = neither (same_object p o) _ e in
    let r = fresh_before o os ps h.1 in
    (rw h.0 r.0, r.1)

-- what repeats is equal to one of them, and each of them repeats
pub repeats_one : (o : Object) (os : List Object) → repeats o os ≡ true
    → (i : ℕ) × (i < length os) × (get_or os i nobody ≡ o)
repeats_one o [] e = absurd (let z : ◌≡◌ {A = ℕ} 0 1 = cc in omega arith)
repeats_one o (p ∷ os) e = go (same_object p o) refl e (repeats_one o os)
  where
    go : (u : Bool) → same_object p o ≡ u → (u || repeats o os) ≡ true
        → (repeats o os ≡ true → (i : ℕ) × (i < length os) × (get_or os i nobody ≡ o))
        → (i : ℕ) × (i < suc (length os)) × (get_or (p ∷ os) i nobody ≡ o)
    go true t e later = (0, omega arith, object_eq p o t)
    go false t e later = let r = later e in (suc r.0, omega (arith, r.1), r.2)

pub repeats_each : (os : List Object) (i : ℕ) → i < length os → repeats (get_or os i nobody) os ≡ true
repeats_each [] i l = absurd (omega arith)
repeats_each (p ∷ os) zero l = rw (object_refl p)
repeats_each (p ∷ os) (suc i) l = rw (repeats_each os i (omega arith), or-true)

fresh_from : (o : Object) (os : List Object) → ((i : ℕ) → i < length os → get_or os i nobody ≡ o → ⊥)
    → repeats o os ≡ false
fresh_from o os h = (not-eq-not {b = false}).0 (λ e. let r = repeats_one o os e in h r.0 r.1 r.2)

-- ---- the objects after the earlier ones: each is legal and repeats none before it

module _ (version x : ℕ) where
  abbrev pub LegalFrom : List Object → List Object → Type 0
  LegalFrom earlier [] = Unit {0}
  LegalFrom earlier (o ∷ os) =
      LegalObject version x o × (repeats o earlier ≡ false) × LegalFrom (earlier ++ (o ∷ [])) os

  pub legal_each : (earlier os : List Object) → LegalFrom earlier os → (i : ℕ) → i < length os
      → LegalObject version x (get_or os i nobody)
  legal_each earlier [] h i l = absurd (omega arith)
  legal_each earlier (o ∷ os) h zero l = h.0
  legal_each earlier (o ∷ os) h (suc i) l = legal_each (earlier ++ (o ∷ [])) os h.2 i (omega arith)

  legal_fresh : (earlier os : List Object) → LegalFrom earlier os → (i : ℕ) → i < length os
      → repeats (get_or os i nobody) earlier ≡ false
  legal_fresh earlier [] h i l = absurd (omega arith)
  legal_fresh earlier (o ∷ os) h zero l = h.1
  legal_fresh earlier (o ∷ os) h (suc i) l =
      (fresh_before (get_or os i nobody) earlier (o ∷ []) (legal_fresh (earlier ++ (o ∷ [])) os h.2 i (omega arith))).0

  pub legal_distinct : (earlier os : List Object) → LegalFrom earlier os → (i j : ℕ) → i < j → j < length os
      → get_or os i nobody ≡ get_or os j nobody → ⊥
  legal_distinct earlier [] h i j l m e = absurd (omega arith)
  legal_distinct earlier (o ∷ os) h i zero l m e = absurd (omega arith)
  legal_distinct earlier (o ∷ os) h zero (suc j) l m e =
      let f =
      (fresh_before (get_or os j nobody) earlier (o ∷ [])
      (legal_fresh (earlier ++ (o ∷ [])) os h.2 j (omega arith))).1 in
      let n = (neither (same_object o (get_or os j nobody)) _ f).0 in
      let y : same_object o (get_or os j nobody) ≡ true = rw (← e) (object_refl o) in
      let z : ◌≡◌ {A = ℕ} 0 1 = cc in
      absurd (omega arith)
  legal_distinct earlier (o ∷ os) h (suc i) (suc j) l m e =
      legal_distinct (earlier ++ (o ∷ [])) os h.2 i j (omega arith) (omega arith) e

  -- legal and distinct place by place in the whole list, so from any place on
  pub legal_from : (earlier os all : List Object) → earlier ++ os ≡ all
      → ((i : ℕ) → i < length all → LegalObject version x (get_or all i nobody))
      → ((i j : ℕ) → i < j → j < length all → get_or all i nobody ≡ get_or all j nobody → ⊥) → LegalFrom earlier os
  legal_from earlier [] all e each distinct = tt
  legal_from earlier (o ∷ os) all e each distinct =
      let size : length all ≡ length earlier + suc (length os) = ap length (sym e) ∙ length-append earlier (o ∷ os) in
      let here : get_or all (length earlier) nobody ≡ o = rw (← e) (get_or-append_seam earlier o os nobody) in
      let old : (i : ℕ) → i < length earlier → get_or all i nobody ≡ get_or earlier i nobody =
      λ i l. rw (← e) (get_or-append earlier (o ∷ os) nobody i l) in (
        rw here at (each (length earlier) (omega arith)),
        fresh_from o earlier (λ i l q. distinct i (length earlier) l (omega arith) (old i l ∙ q ∙ sym here)),
        legal_from (earlier ++ (o ∷ [])) os all (append_assoc earlier (o ∷ []) os ∙ e) each distinct,
      )

  -- ---- an entry

  -- an entry that passed every test but that of 7: its object is legal, and is written in its bytes
  pub record Tested (earlier : List Object) (b : List ℕ) (v : Verdict ObjectEntry) : Type 0 where
    pub legal : LegalObject version x (object_at b).object
    pub whole : b ≡ object_bytes (object_at b).object ++ (object_at b).rest
    pub last : (refusal_at 7 (length earlier) unless not (repeats (object_at b).object earlier) ⨾
        done (object_at b)) ≡ v

  pub tested : (earlier : List Object) (b : List ℕ) {v : Verdict ObjectEntry}
      → ((r : Refused) → (r.code ≡ 7 → ⊥) → refused r ≡ v → ⊥)
      → check_object version x earlier b (object_at b) ≡ v → Tested earlier b v
  unfolding check_object
  tested earlier b other q =
      let n : ℕ = get_or b 1 0 in
      let p₁ = kept (leb 2 (length b)) _ _ (other _ (λ e. omega arith)) q in
      let p₂ = kept (carried x (get_or b 0 0)) _ _ (other _ (λ e. omega arith)) p₁.1 in
      let p₃ = kept (leb 1 n && leb n (label_limit version)) _ _ (other _ (λ e. omega arith)) p₂.1 in
      let p₄ = kept (leb (2 + n) (length b)) _ _ (other _ (λ e. omega arith)) p₃.1 in
      let p₅ = kept (label_good (object_at b).object.label) _ _ (other _ (λ e. omega arith)) p₄.1 in
      let two : 2 ≤ length b = leb-true _ _ p₁.0 in
      let room : 2 + n ≤ length b = leb-true _ _ p₄.0 in
      let size : length (take n (drop 2 b)) ≡ n = length-take-le n (drop 2 b) (simp length-drop (omega arith)) in
      let some : 1 ≤ n = leb-true _ _ (left (leb 1 n) _ p₃.0) in
      let few : n ≤ label_limit version = leb-true _ _ (right (leb 1 n) _ p₃.0) in
      record {
        legal = record { type = p₂.0; some = rw size some; few = rw size few; good = p₅.0 };
        whole = drop-cons b 0 0 (omega arith) ∙ ap (λ (r : List ℕ). get_or b 0 0 ∷ r)
            (drop-cons b 1 0 (omega arith)
            ∙ ap₂ (λ (m : ℕ) (r : List ℕ). m ∷ r) (sym size) (sym (take-append-drop n (drop 2 b))));
        last = p₅.1;
      }

  -- what an accepted entry is
  pub record ObjectIs (earlier : List Object) (b : List ℕ) (e : ObjectEntry) : Type 0 where
    pub legal : LegalObject version x e.object
    pub fresh : repeats e.object earlier ≡ false
    pub whole : b ≡ object_bytes e.object ++ e.rest

  pub object_is : (earlier : List Object) (b : List ℕ) {e : ObjectEntry}
      → check_object version x earlier b (object_at b) ≡ done e → ObjectIs earlier b e
  object_is earlier b {e} q =
      let i = tested earlier b (λ r n z. let y : ◌≡◌ {A = ℕ} 0 1 = cc in omega arith) q in
      let p = held (not (repeats (object_at b).object earlier)) _ _ i.last in
      let e-is : e ≡ object_at b = cc p.1 in
      rw e-is (record {
        legal = i.legal;
        fresh = not-true (repeats (object_at b).object earlier) p.0;
        whole = i.whole;
      })

  -- a legal object's entry is refused with 7 or not at all
  pub object_checked : (earlier : List Object) (o : Object) (rest : List ℕ) → LegalObject version x o
      → check_object version x earlier (object_bytes o ++ rest) (object_at (object_bytes o ++ rest))
      ≡ (refusal_at 7 (length earlier) unless not (repeats o earlier) ⨾
      done (record { object = o; size = length o.label; rest = rest }))
  unfolding check_object
  object_checked earlier o rest h =
      let l : List ℕ = o.label in
      let long = length-append l rest in
      rw (
        le-leb 2 (suc (suc (length (l ++ rest)))) (omega arith),
        h.type,
        le-leb 1 (length l) h.some,
        le-leb (length l) (label_limit version) h.few,
        le-leb (2 + length l) (suc (suc (length (l ++ rest)))) (omega arith),
        take-append_seam l rest,
        drop-append_seam l rest,
        h.good,
      )

  -- an entry is refused with 5 exactly where its first two bytes are there and its type is not carried; it is named
  pub object_other : (earlier : List Object) (b : List ℕ) (k bit : ℕ)
      → (check_object version x earlier b (object_at b) ≡ refused (naming 5 k bit)) ↔
      ((2 ≤ length b) × (carried x (get_or b 0 0) ≡ false) × (length earlier ≡ k) × (bit ≡ 255))
  unfolding check_object
  object_other earlier b k bit = (
    (λ q.
        let n : ℕ = get_or b 1 0 in
        let p = past (leb 2 (length b)) _ _ (λ z. omega arith) q in
        let other = stopped (carried x (get_or b 0 0)) _ _ (λ e.
        let p₁ = past (leb 1 n && leb n (label_limit version)) _ _ (λ z. omega arith) e in
        let p₂ = past (leb (2 + n) (length b)) _ _ (λ z. omega arith) p₁.1 in
        let p₃ = past (label_good (object_at b).object.label) _ _ (λ z. omega arith) p₂.1 in
        let p₄ = past (not (repeats (object_at b).object earlier)) _ _ (λ z. omega arith) p₃.1 in
        let z : ◌≡◌ {A = ℕ} 0 1 = cc p₄.1 in
        omega arith) p.1 in
        let is = one_refusal (rw other at p.1) in
        (leb-true _ _ p.0, other, ap (λ (r : Refused). r.object) is, sym (ap (λ (r : Refused). r.bit) is))),
    (λ w. rw (le-leb 2 (length b) w.0, w.1, w.2, w.3)),
  )

  object_reads : (earlier : List Object) (o : Object) (rest : List ℕ) → LegalObject version x o
      → repeats o earlier ≡ false
      → check_object version x earlier (object_bytes o ++ rest) (object_at (object_bytes o ++ rest))
      ≡ done (record { object = o; size = length o.label; rest = rest })
  object_reads earlier o rest h f = object_checked earlier o rest h ∙ rw f

  -- an entry is read from its own bytes alone
  pub object_alone : (earlier : List Object) (b rest : List ℕ) {e : ObjectEntry}
      → check_object version x earlier b (object_at b) ≡ done e
      → check_object version x earlier (b ++ rest) (object_at (b ++ rest))
      ≡ done (record { object = e.object; size = e.size; rest = e.rest ++ rest })
  object_alone earlier b rest {e} q =
      let i = object_is earlier b q in
      let o : Object = e.object in
      let check : List ℕ → Verdict ObjectEntry = λ c. check_object version x earlier c (object_at c) in
      let again : check b ≡ done (record { object = o; size = length o.label; rest = e.rest }) =
      ap check i.whole ∙ object_reads earlier o e.rest i.legal i.fresh in
      let e-is : e ≡ record { object = o; size = length o.label; rest = e.rest } = cc in
      let more : b ++ rest ≡ object_bytes o ++ (e.rest ++ rest) =
      ap (λ (c : List ℕ). c ++ rest) i.whole ∙ append_assoc (object_bytes o) e.rest rest in
      ap check more ∙ object_reads earlier o (e.rest ++ rest) i.legal i.fresh
      ∙ ap (λ (n : ℕ). done (record { object = o; size = n; rest = e.rest ++ rest }))
      (sym (ap (λ (e : ObjectEntry). e.size) e-is))

  -- ---- all entries

  record ObjectsAre (earlier : List Object) (n : ℕ) (b : List ℕ) (os : List Object) : Type 0 where
    more : List Object
    whole : os ≡ earlier ++ more
    count : length more ≡ n
    legal : LegalFrom earlier more
    same : b ≡ objects_bytes more

  objects_are : (earlier : List Object) (n : ℕ) (b : List ℕ) {os : List Object}
      → read_objects version x earlier n b ≡ done os → ObjectsAre earlier n b os
  objects_are earlier zero b {os} e =
      let h = held (eqb (length b) 0) _ _ e in
      let os-is : os ≡ earlier = cc h.1 in
      record {
        more = [];
        whole = os-is ∙ sym (append-nil earlier);
        count = refl;
        legal = tt;
        same = no_bytes b (eqb-true _ _ h.0);
      }
    where
      no_bytes : (b : List ℕ) → length b ≡ 0 → b ≡ []
      no_bytes [] e = refl
      no_bytes (y ∷ ys) e = absurd (omega arith)
  objects_are earlier (suc n) b e =
      let p = used (check_object version x earlier b (object_at b)) _ e in
      let o = p.0.object in
      let q = object_is earlier b p.1 in
      let r = objects_are (earlier ++ (o ∷ [])) n p.0.rest p.2 in
      record {
        more = o ∷ r.more;
        whole = r.whole ∙ append_assoc earlier (o ∷ []) r.more;
        count = ap suc r.count;
        legal = (q.legal, q.fresh, r.legal);
        same = q.whole ∙ ap (λ (c : List ℕ). object_bytes o ++ c) r.same;
      }

  -- legal objects are accepted, and what follows them decides
  pub objects_pass : (earlier os : List Object) → LegalFrom earlier os → (n : ℕ) (rest : List ℕ)
      → read_objects version x earlier (length os + n) (objects_bytes os ++ rest)
      ≡ read_objects version x (earlier ++ os) n rest
  objects_pass earlier [] h n rest = rw (zero-add n, append-nil earlier)
  objects_pass earlier (o ∷ os) h n rest =
      rw (
        suc-add (length os) n,
        append_assoc o.label (objects_bytes os) rest,
        object_reads earlier o (objects_bytes os ++ rest) h.0 h.1,
      )
      (objects_pass (earlier ++ (o ∷ [])) os h.2 n rest
      ∙ ap (λ (e : List Object). read_objects version x e n rest) (append_assoc earlier (o ∷ []) os))

  objects_read : (earlier os : List Object) → LegalFrom earlier os
      → read_objects version x earlier (length os) (objects_bytes os) ≡ done (earlier ++ os)
  objects_read earlier os h =
      rw (add-zero (length os), append-nil (objects_bytes os)) at (objects_pass earlier os h 0 [])

-- no label is longer than 253 bytes, so an entry takes at most 255, and a table's length fits four bytes
limit_253 : (v : ℕ) → label_limit v ≤ 253
unfolding label_limit
limit_253 v = omega arith

length_objects : (version x : ℕ) (earlier os : List Object) → LegalFrom version x earlier os
    → length (objects_bytes os) ≤ 255 * length os
length_objects version x earlier [] h = omega arith
length_objects version x earlier (o ∷ os) h =
    omega (
      arith,
      h.0.few,
      limit_253 version,
      length-append o.label (objects_bytes os),
      length_objects version x (earlier ++ (o ∷ [])) os h.2,
    )

-- ---- the form

-- what an accepted table is; the numbers read need be bytes only for `same`
pub record TableIs (b : List ℕ) (t : Table) : Type 0 where
  pub legal : LegalTable t
  pub count : length t.objects ≡ number (take 2 (drop 7 b))
  pub same : Bytes b → b ≡ table_bytes t

contents_are : (b : List ℕ) (f : Form) (t : Table) → read_form 5 version_good b ≡ done f
    → catalogue_good f.x f.y ≡ true → number (take 2 f.contents) ≤ 1024
    → ObjectsAre f.version f.x [] (number (take 2 f.contents)) (drop 2 f.contents) t.objects
    → t.version ≡ f.version → t.x ≡ f.x → t.y ≡ f.y → version_good f.version ≡ true → TableIs b t
unfolding table_bytes
contents_are b f t e c few r v x y g =
    let objects : t.objects ≡ r.more = r.whole in
    let legal = r.legal in
    record {
      legal = record {
        version = rw v g;
        catalogue = rw (x, y) c;
        count = omega (arith, ap length objects, r.count);
        each = rw (objects, v, x) (legal_each f.version f.x [] r.more legal);
        distinct = rw objects (legal_distinct f.version f.x [] r.more legal);
      };
      count = ap length objects ∙ r.count ∙ ap (λ (c : List ℕ). number (take 2 c)) (form_contents 5 version_good b e);
      same = λ h.
          let o = form_is 5 version_good b (omega arith) h e in
          let two : 2 ≤ length f.contents = omega (arith, o.enough) in
          let parts : f.contents ≡ bytes 2 (length t.objects) ++ objects_bytes t.objects =
          cut 2 f.contents two o.inside
          ∙ ap₂ (λ (m : ℕ) (s : List ℕ). bytes 2 m ++ s) (sym (ap length objects ∙ r.count))
          (r.same ∙ ap objects_bytes (sym objects)) in
          o.whole ∙ ap form_bytes (λ i. record { version = sym v i; x = sym x i; y = sym y i; contents = parts i });
    }

pub table_is : (b : List ℕ) {t : Table} → read_table b ≡ done t → TableIs b t
unfolding read_table
table_is b {t} e =
    let p = used (read_form 5 version_good b) _ e in
    let f = p.0 in
    let n : ℕ = number (take 2 f.contents) in
    let p₁ = held (catalogue_good f.x f.y) _ _ p.2 in
    let p₂ = held (leb n 1024) _ _ p₁.1 in
    let p₃ = used (read_objects f.version f.x [] n (drop 2 f.contents)) _ p₂.1 in
    let t-is : t ≡ record { version = f.version; x = f.x; y = f.y; objects = p₃.0 } = cc p₃.2 in
    let r = objects_are f.version f.x [] n (drop 2 f.contents) p₃.1 in
    rw t-is (contents_are b f (record { version = f.version; x = f.x; y = f.y; objects = p₃.0 }) p.1 p₁.0
    (leb-true _ _ p₂.0) r refl refl refl (form_version 5 version_good b p.1))

pub table_reads : (t : Table) → LegalTable t → read_table (table_bytes t) ≡ done t
unfolding read_table table_bytes
table_reads t h =
    let os : List Object = t.objects in
    let n : ℕ = length os in
    let b : List ℕ = objects_bytes os in
    let c : List ℕ = bytes 2 n ++ b in
    let legal = legal_from t.version t.x [] os os refl h.each h.distinct in
    let long : length c ≡ 2 + length b = simp (length-append, length_bytes) in
    let less = length_objects t.version t.x [] os legal in
    rw (
      form_reads 5 version_good (record { version = t.version; x = t.x; y = t.y; contents = c }) h.version
          (omega arith) (omega (arith, h.count)),
      h.catalogue,
      read_bytes 2 n b (omega (arith, h.count)),
      drop_bytes 2 n b,
      le-leb n 1024 h.count,
      objects_read t.version t.x [] os legal,
    )

-- accepted exactly where they are a legal table, written, which they are then read as
pub table_form : (b : List ℕ) → Bytes b → (t : Table) → (read_table b ≡ done t) ↔ (LegalTable t × (b ≡ table_bytes t))
table_form b h t = (
  (λ e. let i = table_is b e in (i.legal, i.same h)),
  (λ w. ap read_table w.1 ∙ table_reads t w.0),
)

pub plan_fair : (b : List ℕ) {p : Plan} → read_plan b ≡ done p → Fair p
unfolding read_plan plan_of
plan_fair b {p} e =
    let q = used (read_table b) _ e in
    let t = q.0 in
    let few = (table_is b q.1).legal.count in
    let p-is : p ≡ plan_of t = cc q.2 in
    let count : length p.kinds ≡ length t.objects =
    ap (λ (p : Plan). length p.kinds) p-is ∙ length-map t.objects _ in
    record { count = omega (arith, count) }

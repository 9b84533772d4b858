-- A table whose entry k is refused with 5, 6 or 7 begins with k legal objects, no two of them the same. 5 is given
-- exactly where an entry follows whose type its catalogue doesn't carry, 7 exactly where one of these objects follows
-- again.
-- Assumes nothing.
use Prim.Native.Nat.{ℕ, zero, suc, ◌+◌, ◌-◌, ◌^◌, ◌≤◌, ◌<◌}
use native.Mathlib.Omega.{arith}
use mathlib.Core.Path.{◌≡◌, refl, sym, ap, ◌∙◌}
use mathlib.Core.Bool.{true, false, not}
use mathlib.Core.List.{List, [], ◌∷◌, ◌++◌, append_assoc, append-nil}
use mathlib.Core.Logic.{◌↔◌, ⊎_elim}
use lib.Dec.{eqb, leb}
use lib.ListN.{length, take, drop, get_or, length-append}
use borrow.Author.Tests.{le-leb, leb-true, not-false}
use Rattle.elements.specs.Elements.{carried}
use Rattle.octets.specs.Octets.{bytes, number, Bytes}
use Rattle.octets.proofs.NumberLaws.{length_bytes, read_bytes, drop_bytes, below, cut}
use Rattle.history.specs.Verdict.{Refused, naming, refused, done, refusal_at}
use Rattle.history.specs.Form.{Form, form_bytes, read_form}
use Rattle.history.specs.Table.{Object, Table, object, version_good, catalogue_good, object_bytes, objects_bytes}
use Rattle.history.specs.Table.{repeats, ObjectEntry, object_at, check_object, read_objects, read_table, LegalTable}
use Rattle.history.proofs.VerdictLaws.{one_refusal, either_refused, passed_up, past, stopped}
use Rattle.history.proofs.FormLaws.{form_whole, form_version, form_other, form_is, form_length, form_reads}
use Rattle.history.proofs.TableLaws.{repeats_one, repeats_each, LegalFrom, legal_each, legal_distinct}
use Rattle.history.proofs.TableLaws.{legal_from, tested, object_is, object_checked, object_other, objects_pass}

module _ (version x : ℕ) where
  -- the first entry that is refused; those before it are legal
  record Stops (earlier : List Object) (n : ℕ) (b : List ℕ) (r : Refused) : Type 0 where
    more : List Object
    legal : LegalFrom version x earlier more
    count : length more < n
    rest : List ℕ
    same : b ≡ objects_bytes more ++ rest
    here : check_object version x (earlier ++ more) rest (object_at rest) ≡ refused r

  stops_here : (earlier : List Object) (n : ℕ) (b : List ℕ) {r : Refused}
      → check_object version x earlier b (object_at b) ≡ refused r → Stops earlier (suc n) b r
  stops_here earlier n b q =
      record { more = []; legal = tt; count = omega arith; rest = b; same = refl; here = rw (append-nil earlier) q }

  stops_later : (earlier : List Object) (n : ℕ) (b : List ℕ) {f : ObjectEntry} {r : Refused}
      → check_object version x earlier b (object_at b) ≡ done f
      → Stops (earlier ++ (f.object ∷ [])) n f.rest r → Stops earlier (suc n) b r
  stops_later earlier n b {f} q r =
      let i = object_is version x earlier b q in
      let o : Object = f.object in
      record {
        more = o ∷ r.more;
        legal = (i.legal, i.fresh, r.legal);
        count = omega (arith, r.count);
        rest = r.rest;
        same =
            i.whole ∙ ap (λ (c : List ℕ). object_bytes o ++ c) r.same
            ∙ sym (append_assoc (object_bytes o) (objects_bytes r.more) r.rest);
        here = rw (append_assoc earlier (o ∷ []) r.more) at r.here;
      }

  -- for codes below 8: 8 is also given where bytes are left over and no entry is refused
  stops : (earlier : List Object) (n : ℕ) (b : List ℕ) {r : Refused} → r.code < 8
      → read_objects version x earlier n b ≡ refused r → Stops earlier n b r
  stops earlier zero b l e =
      absurd (let p = past (eqb (length b) 0) _ _ (λ z. omega arith) e in let z : ◌≡◌ {A = ℕ} 0 1 = cc p.1 in
      omega arith)
  stops earlier (suc n) b l e =
      ⊎_elim (stops_here earlier n b)
      (λ p. stops_later earlier n b p.1 (stops (earlier ++ (p.0.object ∷ [])) n p.0.rest l p.2))
      (either_refused (check_object version x earlier b (object_at b)) _ e)

-- a table that says it has more than k objects, begins with the k objects of a legal table, and
-- goes on as `GoesOn` says
pub record FirstAt (GoesOn : Table → List ℕ → Type 0) (b : List ℕ) (k : ℕ) : Type 0 where
  pub before : Table
  pub legal : LegalTable before
  pub place : length before.objects ≡ k
  pub count : ℕ
  pub more : k < count
  pub few : count ≤ 1024
  pub rest : List ℕ
  pub next : GoesOn before rest
  pub short : length b < 4 + 2 ^ 32
  pub whole : b ≡ form_bytes (record {
    version = before.version;
    x = before.x;
    y = before.y;
    contents = bytes 2 count ++ (objects_bytes before.objects ++ rest);
  })

-- the entry after a legal table's objects is refused with the code exactly where the bytes go on this way;
-- it is named, and no bit
abbrev RefusedWith : ℕ → (Table → List ℕ → Type 0) → Type 0
RefusedWith code GoesOn = (t : Table) → LegalTable t → (rest : List ℕ) (k bit : ℕ)
    → (check_object t.version t.x t.objects rest (object_at rest) ≡ refused (naming code k bit)) ↔
    (GoesOn t rest × (length t.objects ≡ k) × (bit ≡ 255))

-- then so is the table, if only entries give the code: 5, 6, 7
module _ (code : ℕ) (GoesOn : Table → List ℕ → Type 0) (late : 4 < code) (early : code < 8)
    (exactly : RefusedWith code GoesOn) where
  first_contents : (b : List ℕ) (f : Form) {k bit : ℕ} → Bytes b → read_form 5 version_good b ≡ done f
      → catalogue_good f.x f.y ≡ true → number (take 2 f.contents) ≤ 1024
      → Stops f.version f.x [] (number (take 2 f.contents)) (drop 2 f.contents) (naming code k bit)
      → FirstAt GoesOn b k × (bit ≡ 255)
  first_contents b f {k} {bit} h e c few r =
      let n : ℕ = number (take 2 f.contents) in
      let o = form_is 5 version_good b (omega arith) h e in
      let size = form_whole 5 version_good b e in
      let t : Table = record { version = f.version; x = f.x; y = f.y; objects = r.more } in
      let legal : LegalTable t = record {
        version = form_version 5 version_good b e;
        catalogue = c;
        count = omega (arith, r.count);
        each = legal_each f.version f.x [] r.more r.legal;
        distinct = legal_distinct f.version f.x [] r.more r.legal;
      } in
      let x = (exactly t legal r.rest k bit).0 r.here in (
        record {
          before = t;
          legal = legal;
          place = x.1;
          count = n;
          more = omega (arith, r.count, x.1);
          few = few;
          rest = r.rest;
          next = x.0;
          short = omega (arith, size.length_is, below 4 b (omega (arith, size.long)) h);
          whole =
              o.whole ∙ ap (λ (c : List ℕ). form_bytes
              (record { version = f.version; x = f.x; y = f.y; contents = c }))
              (cut 2 f.contents (omega (arith, o.enough)) o.inside
              ∙ ap (λ (c : List ℕ). bytes 2 n ++ c) r.same);
        },
        x.2,
      )

  first_found : (b : List ℕ) → Bytes b → {k bit : ℕ} → read_table b ≡ refused (naming code k bit)
      → FirstAt GoesOn b k × (bit ≡ 255)
  unfolding read_table
  first_found b h e =
      ⊎_elim (λ r. absurd (form_other 5 version_good b (omega arith) r))
      (λ p.
      let f = p.0 in
      let n : ℕ = number (take 2 f.contents) in
      let p₁ = past (catalogue_good f.x f.y) _ _ (λ z. omega arith) p.2 in
      let p₂ = past (leb n 1024) _ _ (λ z. omega arith) p₁.1 in
      let p₃ = passed_up (read_objects f.version f.x [] n (drop 2 f.contents)) _ p₂.1 in
      first_contents b f h p.1 p₁.0 (leb-true _ _ p₂.0)
      (stops f.version f.x [] n (drop 2 f.contents) early p₃))
      (either_refused (read_form 5 version_good b) _ e)

  first_reads : (b : List ℕ) (k : ℕ) → FirstAt GoesOn b k → read_table b ≡ refusal_at code k
  unfolding read_table
  first_reads b k w =
      let t = w.before in
      let os : List Object = t.objects in
      let c : List ℕ = objects_bytes os ++ w.rest in
      let legal = legal_from t.version t.x [] os os refl w.legal.each w.legal.distinct in
      let split : w.count ≡ length os + suc (w.count - suc k) = omega (arith, w.place, w.more) in
      let read : read_objects t.version t.x [] w.count c ≡ refusal_at code k =
      ap (λ (m : ℕ). read_objects t.version t.x [] m c) split
      ∙ objects_pass t.version t.x [] os legal (suc (w.count - suc k)) w.rest
      ∙ rw ((exactly t w.legal w.rest k 255).1 (w.next, w.place, refl)) in
      let form : Form = record { version = t.version; x = t.x; y = t.y; contents = bytes 2 w.count ++ c } in
      let two : length (bytes 2 w.count ++ c) ≡ 2 + length c = simp (length-append, length_bytes) in
      ap read_table w.whole
      ∙ rw (
        form_reads 5 version_good form w.legal.version (omega arith)
            (omega (arith, w.short, ap length w.whole, form_length form)),
        w.legal.catalogue,
        read_bytes 2 w.count c (omega (arith, w.few)),
        drop_bytes 2 w.count c,
        le-leb w.count 1024 w.few,
        read,
      )

  first_exactly : (b : List ℕ) → Bytes b → (k bit : ℕ)
      → (read_table b ≡ refused (naming code k bit)) ↔ (FirstAt GoesOn b k × (bit ≡ 255))
  first_exactly b h k bit =
      (first_found b h, (λ w. first_reads b k w.0 ∙ ap (λ (bit : ℕ). refused (naming code k bit)) (sym w.1)))

-- ---- 5

-- the first two bytes of an entry are there, and its type is not carried under the table's X
pub record NotCarried (t : Table) (rest : List ℕ) : Type 0 where
  pub two : 2 ≤ length rest
  pub type : carried t.x (get_or rest 0 0) ≡ false

other_exactly : RefusedWith 5 NotCarried
other_exactly t legal rest k bit =
    let e = object_other t.version t.x t.objects rest k bit in (
      (λ q. let w = e.0 q in (record { two = w.0; type = w.1 }, w.2, w.3)),
      (λ w. e.1 (w.0.two, w.0.type, w.1, w.2)),
    )

-- a table that begins with the objects of a legal one, followed by an entry whose type its
-- catalogue doesn't carry, and by anything
abbrev pub FirstNotCarried : List ℕ → ℕ → Type 0
FirstNotCarried = FirstAt NotCarried

-- 5 exactly where a table begins in this way
pub table_others : (b : List ℕ) → Bytes b → (k bit : ℕ)
    → (read_table b ≡ refused (naming 5 k bit)) ↔ (FirstNotCarried b k × (bit ≡ 255))
table_others = first_exactly 5 NotCarried (omega arith) (omega arith) other_exactly

-- ---- 7

-- the bytes of one of the table's objects follow again
pub record Again (t : Table) (rest : List ℕ) : Type 0 where
  pub again : ℕ
  pub earlier : again < length t.objects
  pub after : List ℕ
  pub same : rest ≡ object_bytes (object t again) ++ after

again_exactly : RefusedWith 7 Again
again_exactly t legal rest k bit = (
  (λ q.
      let o : Object = (object_at rest).object in
      let i = tested t.version t.x t.objects rest (λ r m z. m cc) q in
      let old =
      stopped (not (repeats o t.objects)) _ _ (λ z. let y : ◌≡◌ {A = ℕ} 0 1 = cc in omega arith) i.last in
      let r = repeats_one o t.objects (not-false (repeats o t.objects) old) in
      let is = one_refusal (rw old at i.last) in (
        record { again = r.0; earlier = r.1; after = (object_at rest).rest; same = rw r.2 i.whole },
        ap (λ (r : Refused). r.object) is,
        sym (ap (λ (r : Refused). r.bit) is),
      )),
  (λ w.
      let a = w.0 in
      let legal-again = legal.each a.again a.earlier in
      rw (
        a.same,
        object_checked t.version t.x t.objects (object t a.again) a.after legal-again,
        repeats_each t.objects a.again a.earlier,
        w.1,
        w.2,
      )),
)

-- a table that begins with the objects of a legal one, no two the same, followed by one of them again, and by anything
abbrev pub FirstRepeat : List ℕ → ℕ → Type 0
FirstRepeat = FirstAt Again

-- 7 exactly where a table begins in this way
pub table_repeats : (b : List ℕ) → Bytes b → (k bit : ℕ)
    → (read_table b ≡ refused (naming 7 k bit)) ↔ (FirstRepeat b k × (bit ≡ 255))
table_repeats = first_exactly 7 Again (omega arith) (omega arith) again_exactly

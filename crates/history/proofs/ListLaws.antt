-- Bytes are accepted as a change list exactly where they are a legal list, written; they are read as that list.
-- Assumes nothing.
use Prim.Native.Nat.{ℕ, zero, suc, ◌+◌, ◌-◌, ◌*◌, ◌^◌, ◌≤◌, ◌<◌}
use native.Mathlib.Omega.{arith}
use native.Mathlib.Nat.{le_refl, add-zero, suc-add, add-suc, add-sub_of_le}
use mathlib.Core.Path.{◌≡◌, refl, sym, ap, ap₂, ◌∙◌, subst⁻¹}
use mathlib.Core.Bool.{true, not}
use mathlib.Core.List.{List, [], ◌∷◌, ◌++◌, append-nil}
use mathlib.Core.Logic.{◌↔◌}
use lib.Dec.{eqb, leb, ltb}
use lib.ListN.{length, take, drop, replicate, length-append, length-drop}
use lib.Seq.{drop-drop, drop-cons, drop-length, take-append-le, drop-append-le}
use borrow.Author.Tests.{eq-eqb, ne_eqb, eqb-true, lt-ltb, ltb-true, le-leb, leb-true}
use Rattle.kinds.specs.Kinds.{width_of}
use Rattle.kinds.specs.declared.Kind.{Kind}
use Rattle.octets.specs.Octets.{bytes, number, Bytes}
use Rattle.history.specs.Verdict.{done}
use Rattle.history.specs.Form.{Form, form_bytes, read_form}
use Rattle.history.specs.Table.{Plan, kind_at, same_catalogue}
use Rattle.std.proofs.Common.{is_ok}
use Rattle.history.specs.Image.{element, Every, nil, and}
use Rattle.history.specs.declared.Change.{Change}
use Rattle.history.specs.declared.Change.TheVariants.{Keep as keep, Swap as swap}
use Rattle.history.specs.Changes.{Changes, list_version, entries_bytes, entries, list_bytes, Entry, entry_of}
use Rattle.history.specs.Changes.{read_number, read_elements, check_entry, read_entries, read_list, lawful, LegalList}
use Rattle.octets.proofs.NumberLaws.{length_bytes, read_bytes, drop_bytes, drop_is, cut, below}
use Rattle.history.proofs.VerdictLaws.{all, held, used}
use Rattle.history.proofs.ChangeLaws.{lawful_swap}
use Rattle.history.proofs.FormLaws.{Formed, form_is, form_reads}
use Rattle.history.proofs.ElementLaws.{was_accepted, is_accepted_lem, admits_fits, admits_accepted, width_few}
use Rattle.history.proofs.ImageLaws.{same_catalogue_lem, own_catalogue, Fair}

-- ---- an entry

-- the entry at the front of the bytes
abbrev pub entry_at : List Kind → List ℕ → Entry
entry_at ks b = entry_of (number (take 2 b)) (kind_at ks (number (take 2 b))) (drop 2 b)

-- the same entry, with more bytes after it
abbrev pub behind : Entry → List ℕ → Entry
behind e rest = record { object = e.object; kind = e.kind; old = e.old; new = e.new; rest = e.rest ++ rest }

-- what an accepted entry is
record EntryIs (ks : List Kind) (low : ℕ) (b : List ℕ) (e : Entry) : Type 0 where
  pub up : low ≤ e.object
  pub inside : e.object < length ks
  kind : e.kind ≡ kind_at ks e.object
  law : lawful e.kind (swap e.old e.new) ≡ true
  whole : b ≡ bytes 2 e.object
      ++ (bytes (width_of e.kind) e.old ++ (bytes (width_of e.kind) e.new ++ e.rest))
  after : Bytes e.rest

-- the bytes of an entry's two elements, and that each fits its width
record EntryBytes (i : ℕ) (k : Kind) (b : List ℕ) : Type 0 where
  old : (entry_of i k b).old < 256 ^ width_of k
  new : (entry_of i k b).new < 256 ^ width_of k
  whole : b ≡ bytes (width_of k) (entry_of i k b).old
      ++ (bytes (width_of k) (entry_of i k b).new ++ (entry_of i k b).rest)
  after : Bytes (entry_of i k b).rest

entry_bytes_lem : (i : ℕ) (k : Kind) (b : List ℕ) → Bytes b → width_of k + width_of k ≤ length b → EntryBytes i k b
entry_bytes_lem i k b h room =
    let w : ℕ = width_of k in
    let so : w ≤ length b = omega arith in
    let ho : Bytes (drop w b) = drop_is w b h in
    let sn : w ≤ length (drop w b) = simp length-drop (omega arith) in
    record {
      old = below w b so h;
      new = below w (drop w b) sn ho;
      whole = cut w b so h ∙ ap (λ (r : List ℕ). bytes w (number (take w b)) ++ r) (cut w (drop w b) sn ho);
      after = drop_is w (drop w b) ho;
    }

-- what an accepted object number tells ..
pub record Numbered (ks : List Kind) (b : List ℕ) (i : ℕ) : Type 0 where
  pub two : 2 ≤ length b
  pub number_is : number (take 2 b) ≡ i
  pub inside : i < length ks

pub was_numbered : (ks : List Kind) (b : List ℕ) {i : ℕ} → read_number ks b ≡ done i → Numbered ks b i
unfolding read_number
was_numbered ks b {i} q =
    let q₁ = held (leb 2 (length b)) _ _ q in
    let q₂ = held (ltb (number (take 2 b)) (length ks)) _ _ q₁.1 in
    let i-is : number (take 2 b) ≡ i = cc q₂.1 in
    record { two = leb-true _ _ q₁.0; number_is = i-is; inside = rw (← i-is) (ltb-true _ _ q₂.0) }

-- .. and accepted elements
pub record Fine (e : Entry) : Type 0 where
  pub old : is_ok (element e.kind e.old) ≡ true
  pub new : is_ok (element e.kind e.new) ≡ true

pub were_elements : (i : ℕ) (k : Kind) (b : List ℕ) {e : Entry} → read_elements i k b ≡ done e
    → (entry_of i k b ≡ e) × (width_of k + width_of k ≤ length b) × Fine (entry_of i k b)
unfolding read_elements
were_elements i k b {e} q =
    let q₁ = held (leb (width_of k + width_of k) (length b)) _ _ q in
    let q₂ = was_accepted (element k (entry_of i k b).old) _ _ q₁.1 in
    let q₃ = was_accepted (element k (entry_of i k b).new) _ _ q₂.1 in
    (cc q₃.1, leb-true _ _ q₁.0, record { old = q₂.0; new = q₃.0 })

are_elements : (i : ℕ) (k : Kind) (b : List ℕ) → width_of k + width_of k ≤ length b → Fine (entry_of i k b)
    → read_elements i k b ≡ done (entry_of i k b)
unfolding read_elements
are_elements i k b room f =
    rw (le-leb (width_of k + width_of k) (length b) room)
    (is_accepted_lem (element k (entry_of i k b).old) _ _ f.old
    ∙ is_accepted_lem (element k (entry_of i k b).new) _ _ f.new)

-- what an entry's checks tell together
pub record Checked (ks : List Kind) (low : ℕ) (b : List ℕ) (e : Entry) : Type 0 where
  pub two : 2 ≤ length b
  pub inside : e.object < length ks
  pub up : low ≤ e.object
  pub room : 2 + (width_of e.kind + width_of e.kind) ≤ length b
  pub fine : Fine e
  pub other : not (eqb e.old e.new) ≡ true

pub was_checked : (ks : List Kind) (low : ℕ) (b : List ℕ) {e : Entry} → check_entry ks low b ≡ done e
    → (entry_at ks b ≡ e) × Checked ks low b (entry_at ks b)
unfolding check_entry
was_checked ks low b {e} q =
    let q₁ = used (read_number ks b) _ q in
    let n = was_numbered ks b q₁.1 in
    let i : ℕ = number (take 2 b) in
    let E : Entry = entry_at ks b in
    let q₂ = held (leb low i) _ _ (rw (← n.number_is) at q₁.2) in
    let q₃ = used (read_elements i E.kind (drop 2 b)) _ q₂.1 in
    let m = were_elements i E.kind (drop 2 b) q₃.1 in
    let q₄ = held (not (eqb E.old E.new)) _ _ (rw (← m.0) at q₃.2) in (
      cc q₄.1,
      record {
        two = n.two;
        inside = rw n.number_is n.inside;
        up = leb-true _ _ q₂.0;
        room = omega (arith, n.two, m.1, length-drop 2 b);
        fine = m.2;
        other = q₄.0;
      },
    )

is_checked : (ks : List Kind) (low : ℕ) (b : List ℕ) → Checked ks low b (entry_at ks b)
    → check_entry ks low b ≡ done (entry_at ks b)
unfolding check_entry read_number
is_checked ks low b c =
    let i : ℕ = number (take 2 b) in
    let k : Kind = kind_at ks i in
    let room : width_of k + width_of k ≤ length (drop 2 b) = simp length-drop (omega (arith, c.room)) in
    rw (
      le-leb 2 (length b) c.two,
      lt-ltb i (length ks) c.inside,
      le-leb low i c.up,
      are_elements i k (drop 2 b) room c.fine,
      c.other,
    )

entry_is : (ks : List Kind) (low : ℕ) (b : List ℕ) {e : Entry} → Bytes b → check_entry ks low b ≡ done e
    → EntryIs ks low b e
entry_is ks low b {e} h q =
    let c = was_checked ks low b q in
    let i : ℕ = number (take 2 b) in
    let k : Kind = kind_at ks i in
    let room : width_of k + width_of k ≤ length (drop 2 b) = simp length-drop (omega (arith, c.1.room)) in
    let y = entry_bytes_lem i k (drop 2 b) (drop_is 2 b h) room in
    rw (← c.0) (record {
      up = c.1.up;
      inside = c.1.inside;
      kind = refl;
      law =
          all (all (lt-ltb _ _ y.old) c.1.fine.old)
          (all (all (lt-ltb _ _ y.new) c.1.fine.new) c.1.other);
      whole = cut 2 b c.1.two h ∙ ap (λ (r : List ℕ). bytes 2 i ++ r) y.whole;
      after = y.after;
    })

-- for an entry known by an equation
checked_as : (ks : List Kind) (low : ℕ) (b : List ℕ) {e : Entry} → entry_at ks b ≡ e → Checked ks low b e
    → check_entry ks low b ≡ done e
checked_as ks low b same c = is_checked ks low b (rw same c) ∙ ap done same

-- ---- an entry is read from its own bytes alone

entry_front : (ks : List Kind) (b rest : List ℕ)
    → 2 + (width_of (entry_at ks b).kind + width_of (entry_at ks b).kind) ≤ length b
    → entry_at ks (b ++ rest) ≡ behind (entry_at ks b) rest
entry_front ks b rest h =
    let c : List ℕ = drop 2 b in
    let w : ℕ = width_of (entry_at ks b).kind in
    let long : length c ≡ length b - 2 = length-drop 2 b in
    let old : w ≤ length c = omega arith in
    let new : w ≤ length (drop w c) = simp length-drop (omega arith) in
    rw (
      take-append-le 2 b rest (omega arith),
      drop-append-le 2 b rest (omega arith),
      take-append-le w c rest old,
      drop-append-le w c rest old,
      take-append-le w (drop w c) rest new,
      drop-append-le w (drop w c) rest new,
    )

pub entry_alone : (ks : List Kind) (low : ℕ) (b rest : List ℕ) {e : Entry} → check_entry ks low b ≡ done e
    → check_entry ks low (b ++ rest) ≡ done (behind e rest)
entry_alone ks low b rest {e} q =
    let c = was_checked ks low b q in
    let k = c.1 in
    let long = length-append b rest in
    checked_as ks low (b ++ rest) (entry_front ks b rest k.room)
    (record {
      two = omega (arith, k.two);
      inside = k.inside;
      up = k.up;
      room = omega (arith, k.room);
      fine = record { old = k.fine.old; new = k.fine.new };
      other = k.other;
    })
    ∙ ap (λ (e : Entry). done (behind e rest)) c.0

-- ---- what is read

-- b is the n entries of the changes cs of the objects from low on
record Listed (ks : List Kind) (low n : ℕ) (b : List ℕ) (cs : List Change) : Type 0 where
  good : Every lawful (drop low ks) cs
  count : entries cs ≡ n
  same : b ≡ entries_bytes low (drop low ks) cs

listed_keep : (ks : List Kind) (low n : ℕ) (b : List ℕ) (cs : List Change) → low < length ks
    → Listed ks (suc low) n b cs → Listed ks low n b (keep ∷ cs)
listed_keep ks low n b cs h r = record {
  good = rw (drop-cons ks low Kind.Signal h) (and refl r.good);
  count = r.count;
  same = rw (drop-cons ks low Kind.Signal h) r.same;
}

listed_skip : (ks : List Kind) (g low n : ℕ) (b : List ℕ) (cs : List Change) → low + g ≤ length ks
    → Listed ks (low + g) n b cs → Listed ks low n b (replicate g keep ++ cs)
listed_skip ks zero low n b cs h r = rw (← add-zero low) r
listed_skip ks (suc g) low n b cs h r =
    listed_keep ks low n b (replicate g keep ++ cs) (omega arith)
    (listed_skip ks g (suc low) n b cs (omega arith) (rw (suc-add, ← add-suc low g) r))

listed_end : (ks : List Kind) (low : ℕ) (b : List ℕ) → low ≤ length ks → length b ≡ 0
    → Listed ks low 0 b (replicate (length ks - low) keep)
listed_end ks low [] h e =
    let here : Listed ks (length ks) 0 [] [] =
    record { good = rw (drop-length ks) nil; count = refl; same = rw (drop-length ks) } in
    rw (append-nil (replicate (length ks - low) keep)) at
    (listed_skip ks (length ks - low) low 0 [] [] (omega arith) (rw (add-sub_of_le h) here))
listed_end ks low (x ∷ xs) h e = absurd (omega arith)

listed_swap : (ks : List Kind) (i n x y : ℕ) (rest : List ℕ) (cs : List Change) → i < length ks
    → lawful (kind_at ks i) (swap x y) ≡ true → Listed ks (suc i) n rest cs
    → Listed ks i (suc n)
    (bytes 2 i ++ (bytes (width_of (kind_at ks i)) x ++ (bytes (width_of (kind_at ks i)) y ++ rest)))
    (swap x y ∷ cs)
listed_swap ks i n x y rest cs h l r = record {
  good = rw (drop-cons ks i Kind.Signal h) (and l r.good);
  count = ap suc r.count;
  same = rw (drop-cons ks i Kind.Signal h, ← r.same);
}

entries_are : (ks : List Kind) (n low : ℕ) (b : List ℕ) {cs : List Change} → Bytes b → low ≤ length ks
    → read_entries ks low n b ≡ done cs → Listed ks low n b cs
entries_are ks zero low b {cs} h s q =
    let p = held (eqb (length b) 0) _ _ q in
    let cs-is : cs ≡ replicate (length ks - low) keep = cc p.1 in
    rw cs-is (listed_end ks low b s (eqb-true _ _ p.0))
entries_are ks (suc n) low b {cs} h s q =
    let p = used (check_entry ks low b) _ q in
    let e : Entry = p.0 in
    let i : ℕ = e.object in
    let c = entry_is ks low b h p.1 in
    let r = used (read_entries ks (suc i) n e.rest) _ p.2 in
    let rest = entries_are ks n (suc i) e.rest c.after c.inside r.1 in
    let here : Listed ks i (suc n) b (swap e.old e.new ∷ r.0) =
    subst⁻¹ (λ (x : List ℕ). Listed ks i (suc n) x (swap e.old e.new ∷ r.0)) (rw c.kind at c.whole)
    (listed_swap ks i n e.old e.new e.rest r.0 c.inside (rw c.kind at c.law) rest) in
    let cs-is : cs ≡ replicate (i - low) keep ++ (swap e.old e.new ∷ r.0) = cc r.2 in
    rw cs-is (listed_skip ks (i - low) low (suc n) b (swap e.old e.new ∷ r.0) (omega (arith, c.up, c.inside))
    (rw (add-sub_of_le c.up) here))

-- ---- what is written is accepted

entry_reads : (ks : List Kind) (i x y : ℕ) (rest : List ℕ) → length ks ≤ 1024 → i < length ks
    → lawful (kind_at ks i) (swap x y) ≡ true
    → (b : List ℕ) → b ≡ bytes 2 i ++ (bytes (width_of (kind_at ks i)) x ++ (bytes (width_of (kind_at ks i)) y ++ rest))
    → entry_at ks b ≡ record { object = i; kind = kind_at ks i; old = x; new = y; rest = rest }
entry_reads ks i x y rest s h l b b-is =
    let w : ℕ = width_of (kind_at ks i) in
    let c : List ℕ = bytes w y ++ rest in
    let d : List ℕ = bytes w x ++ c in
    let hx = admits_fits (kind_at ks i) x (lawful_swap (kind_at ks i) x y l).old in
    let hy = admits_fits (kind_at ks i) y (lawful_swap (kind_at ks i) x y l).new in
    rw (
      b-is,
      read_bytes 2 i d (omega arith),
      drop_bytes 2 i d,
      read_bytes w x c hx,
      drop_bytes w x c,
      read_bytes w y rest hy,
      drop_bytes w y rest,
    )

entry_checked : (ks : List Kind) (low i x y : ℕ) (rest : List ℕ) → low ≤ i → i < length ks
    → lawful (kind_at ks i) (swap x y) ≡ true
    → Checked ks low (bytes 2 i ++ (bytes (width_of (kind_at ks i)) x ++ (bytes (width_of (kind_at ks i)) y ++ rest)))
    (record { object = i; kind = kind_at ks i; old = x; new = y; rest = rest })
entry_checked ks low i x y rest u h l =
    let w : ℕ = width_of (kind_at ks i) in
    let long : length (bytes 2 i ++ (bytes w x ++ (bytes w y ++ rest))) ≡ 2 + (w + (w + length rest)) =
    simp (length-append, length_bytes) in
    let s = lawful_swap (kind_at ks i) x y l in
    record {
      two = omega arith;
      inside = h;
      up = u;
      room = omega arith;
      fine = record { old = admits_accepted (kind_at ks i) x s.old; new = admits_accepted (kind_at ks i) y s.new };
      other = rw (ne_eqb x y s.other);
    }

entry_accepted : (ks : List Kind) (i x y : ℕ) (rest : List ℕ) → length ks ≤ 1024 → i < length ks
    → lawful (kind_at ks i) (swap x y) ≡ true
    → (b : List ℕ) → b ≡ bytes 2 i ++ (bytes (width_of (kind_at ks i)) x ++ (bytes (width_of (kind_at ks i)) y ++ rest))
    → check_entry ks i b ≡ done (record { object = i; kind = kind_at ks i; old = x; new = y; rest = rest })
entry_accepted ks i x y rest s h l b b-is =
    checked_as ks i b (entry_reads ks i x y rest s h l b b-is) (rw b-is (entry_checked ks i i x y rest (le_refl i) h l))

entries_step : (ks : List Kind) (n low : ℕ) (b : List ℕ) (e : Entry) (cs : List Change) → check_entry ks low b ≡ done e
    → read_entries ks (suc e.object) n e.rest ≡ done cs
    → read_entries ks low (suc n) b ≡ done (replicate (e.object - low) keep ++ (swap e.old e.new ∷ cs))
entries_step ks n low b e cs p q = rw (p, q)

-- read from one object lower, there is one more keep in front
entries_lower : (ks : List Kind) (n low : ℕ) (b : List ℕ) (cs : List Change) → low < length ks
    → read_entries ks (suc low) n b ≡ done cs → read_entries ks low n b ≡ done (keep ∷ cs)
entries_lower ks zero low b cs h q =
    let p = held (eqb (length b) 0) _ _ q in
    let cs-is : cs ≡ replicate (length ks - suc low) keep = cc p.1 in
    let g : length ks - low ≡ suc (length ks - suc low) = omega arith in
    rw (p.0, g, cs-is)
entries_lower ks (suc n) low b cs h q =
    let p = used (check_entry ks (suc low) b) _ q in
    let c = was_checked ks (suc low) b p.1 in
    let e : Entry = p.0 in
    let k : Checked ks low b (entry_at ks b) =
    record {
      two = c.1.two;
      inside = c.1.inside;
      up = omega (arith, c.1.up);
      room = c.1.room;
      fine = c.1.fine;
      other = c.1.other;
    } in
    let here : check_entry ks low b ≡ done e = is_checked ks low b k ∙ ap done c.0 in
    let r = used (read_entries ks (suc e.object) n e.rest) _ p.2 in
    let cs-is : cs ≡ replicate (e.object - suc low) keep ++ (swap e.old e.new ∷ r.0) = cc r.2 in
    let up : suc low ≤ e.object = rw (← c.0) c.1.up in
    let g : e.object - low ≡ suc (e.object - suc low) = omega arith in
    entries_step ks n low b e r.0 here r.1
    ∙ ap (λ (m : ℕ). done (replicate m keep ++ (swap e.old e.new ∷ r.0))) g
    ∙ ap (λ (ds : List Change). done (keep ∷ ds)) (sym cs-is)

-- ks from low on is k and then r
pub head_at : (ks : List Kind) (low : ℕ) (k : Kind) (r : List Kind) → drop low ks ≡ k ∷ r
    → (low < length ks) × (kind_at ks low ≡ k) × (drop (suc low) ks ≡ r)
head_at [] zero k r e = absurd (let z : ◌≡◌ {A = ℕ} 0 1 = cc in omega arith)
head_at [] (suc low) k r e = absurd (let z : ◌≡◌ {A = ℕ} 0 1 = cc in omega arith)
head_at (x ∷ xs) zero k r e = (omega arith, cc, cc)
head_at (x ∷ xs) (suc low) k r e = let h = head_at xs low k r e in (omega (arith, h.0), h.1, h.2)

none_from : (ks : List Kind) (low : ℕ) → drop low ks ≡ [] → length ks - low ≡ 0
none_from ks low e = sym (length-drop low ks) ∙ ap length e

entries_read : (ks : List Kind) → length ks ≤ 1024 → (low : ℕ) {r : List Kind} {cs : List Change} → drop low ks ≡ r
    → Every lawful r cs
    → read_entries ks low (entries cs) (entries_bytes low r cs) ≡ done cs
entries_read ks s low e nil = rw (none_from ks low e)
entries_read ks s low e (and {a = k} {b = keep} {xs = r} {ys = cs} l ls) =
    let h = head_at ks low k r e in
    entries_lower ks (entries cs) low _ cs h.0 (entries_read ks s (suc low) h.2 ls)
entries_read ks s low e (and {a = k} {b = swap x y} {xs = r} {ys = cs} l ls) =
    let h = head_at ks low k r e in
    let k-is : k ≡ kind_at ks low = sym h.1 in
    let none : low - low ≡ 0 = omega arith in
    let e : Entry =
    record { object = low; kind = kind_at ks low; old = x; new = y; rest = entries_bytes (suc low) r cs } in
    rw k-is (entries_step ks (entries cs) low _ e cs
    (entry_accepted ks low x y (entries_bytes (suc low) r cs) s h.0 (rw k-is at l) _ refl)
    (entries_read ks s (suc low) h.2 ls))
    ∙ ap (λ (m : ℕ). done (replicate m keep ++ (swap x y ∷ cs))) none

pub length_entries : {ks : List Kind} {cs : List Change} (i : ℕ) → Every lawful ks cs
    → length (entries_bytes i ks cs) ≤ 10 * length ks
length_entries i nil = omega arith
length_entries i (and {b = keep} l ls) = omega (arith, length_entries (suc i) ls)
length_entries i (and {a = k} {b = swap x y} l ls) =
    simp (length-append, length_bytes) (omega (arith, width_few k, length_entries (suc i) ls))

pub entries_few : {ks : List Kind} {cs : List Change} → Every lawful ks cs → entries cs ≤ length ks
entries_few nil = omega arith
entries_few (and {b = keep} l ls) = omega (arith, entries_few ls)
entries_few (and {b = swap x y} l ls) = omega (arith, entries_few ls)

-- ---- the form

contents_are : (p : Plan) (f : Form) (b : List ℕ) → Formed 13 (eqb list_version) b f → f.x ≡ p.x → f.y ≡ p.y
    → (cs : List Change) → Listed p.kinds 0 (number (take 2 (drop 8 f.contents))) (drop 10 f.contents) cs
    → (l : Changes)
    → l ≡ record { from = number (take 4 f.contents); to = number (take 4 (drop 4 f.contents)); each = cs }
    → LegalList p l × (b ≡ list_bytes p l)
unfolding list_bytes
contents_are p f b o x y cs r l l-is =
    let c : List ℕ = f.contents in
    let ks : List Kind = p.kinds in
    let h : Bytes c = o.inside in
    let ten : 10 ≤ length c = omega (arith, o.enough) in
    let four : 4 ≤ length c = omega arith in
    let next : 4 ≤ length (drop 4 c) = simp length-drop (omega arith) in
    let last : 2 ≤ length (drop 8 c) = simp length-drop (omega arith) in
    let end : drop 8 c ≡ bytes 2 (entries cs) ++ entries_bytes 0 ks cs =
    cut 2 (drop 8 c) last (drop_is 8 c h)
    ∙ ap₂ (λ (m : ℕ) (x : List ℕ). bytes 2 m ++ x) (sym r.count) (drop-drop 2 8 c ∙ r.same) in
    let parts : c
    ≡ bytes 4 (number (take 4 c))
    ++ (bytes 4 (number (take 4 (drop 4 c))) ++ (bytes 2 (entries cs) ++ entries_bytes 0 ks cs)) =
    cut 4 c four h ∙ ap (λ (x : List ℕ). bytes 4 (number (take 4 c)) ++ x)
    (cut 4 (drop 4 c) next (drop_is 4 c h)
    ∙ ap (λ (x : List ℕ). bytes 4 (number (take 4 (drop 4 c))) ++ x) (drop-drop 4 4 c ∙ end)) in
    let v : f.version ≡ list_version = sym (eqb-true _ _ o.version) in
    rw l-is (
      record { from = below 4 c four h; to = below 4 (drop 4 c) next (drop_is 4 c h); each = r.good },
      o.whole ∙ ap form_bytes (λ i. record { version = v i; x = x i; y = y i; contents = parts i }),
    )

pub list_is : (p : Plan) (b : List ℕ) {l : Changes} → Bytes b → read_list p b ≡ done l
    → LegalList p l × (b ≡ list_bytes p l)
unfolding read_list
list_is p b {l} h e =
    let q = used (read_form 13 (eqb list_version) b) _ e in
    let f = q.0 in
    let q₁ = held (same_catalogue f p) _ _ q.2 in
    let q₂ =
    used (read_entries p.kinds 0 (number (take 2 (drop 8 f.contents))) (drop 10 f.contents)) _ q₁.1 in
    let o = form_is 13 (eqb list_version) b (omega arith) h q.1 in
    let x = same_catalogue_lem f p q₁.0 in
    let r =
    entries_are p.kinds _ 0 (drop 10 f.contents) (drop_is 10 f.contents o.inside)
    (omega arith) q₂.1 in
    contents_are p f b o x.0 x.1 q₂.0 r l (cc q₂.2)

list_parts : (f g : ℕ) (d : List ℕ)
    → (drop 8 (bytes 4 f ++ (bytes 4 g ++ d)) ≡ d) × (drop 10 (bytes 4 f ++ (bytes 4 g ++ d)) ≡ drop 2 d)
unfolding bytes
list_parts f g d = (refl, refl)

pub list_reads : {p : Plan} {l : Changes} → Fair p → LegalList p l → read_list p (list_bytes p l) ≡ done l
unfolding read_list list_bytes
list_reads {p} {l} s h =
    let ks : List Kind = p.kinds in
    let n : ℕ = entries l.each in
    let b : List ℕ = entries_bytes 0 ks l.each in
    let d : List ℕ = bytes 2 n ++ b in
    let e : List ℕ = bytes 4 l.to ++ d in
    let c : List ℕ = bytes 4 l.from ++ e in
    let long : length c ≡ 10 + length b = simp (length-append, length_bytes) (omega arith) in
    let less = length_entries 0 h.each in
    let few = entries_few h.each in
    let q = list_parts l.from l.to d in
    rw (
      form_reads 13 (eqb list_version) (record { version = list_version; x = p.x; y = p.y; contents = c })
          (eq-eqb list_version list_version refl) (omega arith) (omega (arith, s.count)),
      own_catalogue p,
      q.0,
      q.1,
      read_bytes 2 n b (omega (arith, s.count)),
      drop_bytes 2 n b,
      entries_read ks s.count 0 refl h.each,
      read_bytes 4 l.from e h.from,
      drop_bytes 4 l.from e,
      read_bytes 4 l.to d h.to,
    )

-- accepted exactly where they are a legal list, written, which they are then read as
pub list_form : (p : Plan) → Fair p → (b : List ℕ) → Bytes b → (l : Changes)
    → (read_list p b ≡ done l) ↔ (LegalList p l × (b ≡ list_bytes p l))
list_form p f b h l = (list_is p b h, (λ w. ap (read_list p) w.1 ∙ list_reads f w.0))

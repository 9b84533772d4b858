-- The turns of the walk's loops: at object i, with the cursors p and q, what is done and what
-- the walk still gives make up the whole.
-- Assumes nothing.
use Prim.Native.Nat.{ℕ, suc, ◌+◌, ◌-◌, ◌*◌, ◌≤◌, ◌<◌}
use native.Mathlib.Omega.{arith}
use native.Mathlib.Nat.{add-zero, zero-add}
use native.Mathlib.Numerals.{add-one}
use mathlib.Core.Path.{◌≡◌, refl, sym, ap, ◌∙◌}
use mathlib.Core.Bool.{Bool, true, false, cond}
use mathlib.Core.List.{List, [], ◌∷◌, ◌++◌}
use lib.ListN.{length, drop, length-append}
use lib.Seq.{drop-drop}
use borrow.Rule.Slice.PartMut.{put_mid}
use Rattle.kinds.specs.Kinds.{width_of}
use Rattle.kinds.specs.declared.Kind.{Kind}
use Rattle.history.specs.declared.Change.{Change}
use Rattle.history.specs.declared.Change.TheVariants.{Keep as keep, Swap as swap}
use Rattle.history.specs.Table.{kind_at}
use Rattle.history.specs.Changes.{entries_bytes, entries}
use Rattle.octets.proofs.Writing.{Filling, along, keeps, has_room, write}
use Rattle.steps.specs.declared.Walk.{Walk}
use Rattle.steps.specs.Steps.{span, entry_bytes, count_if, size_if, is_swap, Step, Stepped, idle, AllIdle}
use Rattle.steps.proofs.StepLaws.{count_swap, size_swap}
use Rattle.walks.specs.Walks.{walked, Measured, misfit}
use Rattle.walks.proofs.Bridges.{entries_cons, length_entry}
use Rattle.walks.proofs.Runs.{run}
use Rattle.forms.proofs.KindLaws.{kinds_next, kinds_end}

-- ---- one turn of the walk

entries_more : (c : Change) (cs : List Change) → entries (c ∷ cs) ≡ entries (c ∷ []) + entries cs
entries_more keep cs = omega arith
entries_more (swap old new) cs = omega arith

bytes_cons : (i j : ℕ) (k : Kind) (c : Change) {ks ks' : List Kind} {cs cs' : List Change} {w : ℕ} → ks ≡ k ∷ ks'
    → cs ≡ c ∷ cs' → w ≡ width_of k → j ≡ suc i
    → entries_bytes i ks cs ≡ entry_bytes i w c ++ entries_bytes j ks' cs'
bytes_cons i j k c {ks' = ks'} {cs' = cs'} e f g h = rw (e, f, g, h) (entries_cons i k ks' c cs')

module _ (walk : Walk) (ks : List Kind) (f s : List ℕ) where
  -- what the walk still gives
  abbrev pub left : ℕ → ℕ → ℕ → List Change
  left i p q = walked walk i (drop i ks) (drop p f) (drop q s)

  abbrev pub left_bytes : ℕ → ℕ → ℕ → List ℕ
  left_bytes i p q = entries_bytes i (drop i ks) (left i p q)

  module _ (i p q : ℕ) where
    module _ (h : i < length ks) {w : ℕ} (e : w ≡ width_of (kind_at ks i)) {r : Step}
        (t : Stepped walk i w f p s q r) where
      left_next : left i p q ≡ r.change ∷ left (i + 1) (p + r.first) (q + r.second)
      unfolding walked
      left_next =
          rw (kinds_next ks i h, ← e, ← t.is, add-one i, drop-drop r.first p f, drop-drop r.second q s)

      bytes_next : left_bytes i p q ≡ entry_bytes i w r.change ++ left_bytes (i + 1) (p + r.first) (q + r.second)
      bytes_next = bytes_cons i (i + 1) (kind_at ks i) r.change (kinds_next ks i h) left_next e (add-one i)

      count_next : entries (left i p q)
          ≡ entries (r.change ∷ []) + entries (left (i + 1) (p + r.first) (q + r.second))
      count_next = ap entries left_next ∙ entries_more r.change (left (i + 1) (p + r.first) (q + r.second))

      misfit_next : misfit walk i (drop i ks) (drop p f) (drop q s)
          ≡ cond r.agrees
          (misfit walk (i + 1) (drop (i + 1) ks) (drop (p + r.first) f) (drop (q + r.second) s)) i
      unfolding misfit
      misfit_next =
          rw (kinds_next ks i h, ← e, ← t.is, add-one i, drop-drop r.first p f, drop-drop r.second q s)

    module _ (h : length ks ≤ i) where
      left_end : left i p q ≡ []
      unfolding walked
      left_end = rw (kinds_end ks i h)

      bytes_end : left_bytes i p q ≡ []
      bytes_end = rw (kinds_end ks i h)

      misfit_end : misfit walk i (drop i ks) (drop p f) (drop q s) ≡ i
      unfolding misfit
      misfit_end = rw (kinds_end ks i h)

  -- ---- a run of objects at which there is nothing to do

  module _ {i p q j n : ℕ} (near : p ≤ length f) (far : q ≤ length s) (d : AllIdle walk i j n (drop p f) (drop q s))
      (h : n ≤ length ks) where
    still : (k : ℕ) → i ≤ k → k < j → Stepped walk k (width_of (kind_at ks k)) f p s q idle
    still k a b =
        record { is = sym (d.is k (width_of (kind_at ks k)) a b); near = omega arith; far = omega arith }

    bytes_run : left_bytes i p q ≡ left_bytes j p q
    bytes_run =
        run (λ k. left_bytes k p q) d.on
        (λ k a b. rw (add-zero p, add-zero q) at (bytes_next k p q (omega (arith, d.within)) refl (still k a b)))

    count_run : entries (left i p q) ≡ entries (left j p q)
    count_run =
        run (λ k. entries (left k p q)) d.on
        (λ k a b. rw (add-zero p, add-zero q, zero-add) at
        (count_next k p q (omega (arith, d.within)) refl (still k a b)))

    misfit_run : misfit walk i (drop i ks) (drop p f) (drop q s)
        ≡ misfit walk j (drop j ks) (drop p f) (drop q s)
    misfit_run =
        run (λ k. misfit walk k (drop k ks) (drop p f) (drop q s)) d.on
        (λ k a b. rw (add-zero p, add-zero q) at (misfit_next k p q (omega (arith, d.within)) refl (still k a b)))

-- ---- the lowest object on which the forms do not agree

-- the forms agree on every object passed
pub record Seeking (walk : Walk) (ks : List Kind) (f s : List ℕ) (p q i : ℕ) : Type 0 where
  pub inside : i ≤ length ks
  pub near : p ≤ length f
  pub far : q ≤ length s
  pub same : misfit walk 0 ks f s ≡ misfit walk i (drop i ks) (drop p f) (drop q s)

module _ {walk : Walk} {ks : List Kind} {f s : List ℕ} {p q i : ℕ} (z : Seeking walk ks f s p q i) where
  module _ (h : i < length ks) {w : ℕ} {r : Step} (e : w ≡ width_of (kind_at ks i))
      (t : Stepped walk i w f p s q r) where
    pub misfit_here : r.agrees ≡ false → i ≡ misfit walk 0 ks f s
    misfit_here b = sym (z.same ∙ misfit_next walk ks f s i p q h e t ∙ rw b)

    step_sought : r.agrees ≡ true → Seeking walk ks f s (p + r.first) (q + r.second) (i + 1)
    step_sought b =
        record {
          inside = omega arith;
          near = t.near;
          far = t.far;
          same = z.same ∙ misfit_next walk ks f s i p q h e t ∙ rw b;
        }

  all_sought : length ks ≤ i → i ≡ misfit walk 0 ks f s
  all_sought h = sym (z.same ∙ misfit_end walk ks f s i p q h)

-- on to the next object at which there is something to do
run_sought : {walk : Walk} {ks : List Kind} {f s : List ℕ} {p q i j : ℕ} → Seeking walk ks f s p q i
    → AllIdle walk i j (length ks) (drop p f) (drop q s) → Seeking walk ks f s p q j
run_sought {walk} {ks} {f} {s} z d = record {
  inside = d.within;
  near = z.near;
  far = z.far;
  same = z.same ∙ misfit_run walk ks f s z.near z.far d (omega arith);
}

-- ---- measuring

-- the entries counted, and those that are left
pub record Sizing (walk : Walk) (ks : List Kind) (f s : List ℕ) (count size p q i : ℕ) : Type 0 where
  pub seek : Seeking walk ks f s p q i
  pub few : count ≤ i
  pub short : size ≤ 10 * i
  pub entries : count + entries (left walk ks f s i p q) ≡ entries (left walk ks f s 0 0 0)
  pub bytes : size + length (left_bytes walk ks f s i p q) ≡ length (left_bytes walk ks f s 0 0 0)

-- on to the next object at which there is something to do
run_sized : {walk : Walk} {ks : List Kind} {f s : List ℕ} {count size p q i j : ℕ} → Sizing walk ks f s count size p q i
    → AllIdle walk i j (length ks) (drop p f) (drop q s)
    → Sizing walk ks f s count size p q j
run_sized {walk} {ks} {f} {s} z d = record {
  seek = run_sought z.seek d;
  few = omega (arith, z.few, d.on);
  short = omega (arith, z.short, d.on);
  entries = omega (arith, z.entries, count_run walk ks f s z.seek.near z.seek.far d (omega arith));
  bytes = omega (arith, z.bytes, ap length (bytes_run walk ks f s z.seek.near z.seek.far d (omega arith)));
}

module _ {walk : Walk} {ks : List Kind} {f s : List ℕ} {count size p q i : ℕ}
    (z : Sizing walk ks f s count size p q i) where
  pub one_sized : i < length ks → {w m n : ℕ} {r : Step} → w ≡ width_of (kind_at ks i)
      → Stepped walk i w f p s q r → r.agrees ≡ true
      → {kept : Bool} → kept ≡ is_swap r.change → (m ≡ count_if kept) × (m ≤ 1) → (n ≡ size_if kept w) × (n ≤ 10)
      → {j : ℕ} → AllIdle walk (i + 1) j (length ks) (drop (p + r.first) f) (drop (q + r.second) s)
      → Sizing walk ks f s (count + m) (size + n) (p + r.first) (q + r.second) j
  one_sized h {w} {m} {n} {r} e t b ek em en d =
      let counted : m ≡ entries (r.change ∷ []) = em.0 ∙ ap count_if ek ∙ count_swap r.change in
      let spanned : n ≡ span w r.change = en.0 ∙ ap (λ (u : Bool). size_if u w) ek ∙ size_swap w r.change in
      run_sized
      (record {
        seek = step_sought z.seek h e t b;
        few = omega arith;
        short = omega arith;
        entries = omega (arith, count_next walk ks f s i p q h e t);
        bytes =
            omega (
              arith,
              length_entry i w r.change,
              simp length-append at (ap length (bytes_next walk ks f s i p q h e t)),
            );
      })
      d

  pub all_measured : length ks ≤ i → length ks ≤ 1024 → Measured walk ks f s count size
  all_measured h few = record {
    entries = omega (arith, ap entries (left_end walk ks f s i p q h));
    bytes = omega (arith, ap length (bytes_end walk ks f s i p q h));
    few = omega arith;
    short = omega arith;
  }

  -- where the loop ends, the forms agree on every object
  pub all_agree : length ks ≤ i → misfit walk 0 ks f s ≡ length ks
  all_agree h = omega (arith, all_sought z.seek h, z.seek.inside)

-- ---- writing the entries

pub record Putting (walk : Walk) (ks : List Kind) (f s part₀ part : List ℕ) (at p q i : ℕ) : Type 0 where
  pub inside : i ≤ length ks
  pub near : p ≤ length f
  pub far : q ≤ length s
  pub fill : Filling (left_bytes walk ks f s 0 0 0) part₀ (left_bytes walk ks f s i p q) at part

module _ {walk : Walk} {ks : List Kind} {f s part₀ part : List ℕ} {at p q i : ℕ}
    (z : Putting walk ks f s part₀ part at p q i) where
  pub put_keeps : length part ≡ length part₀
  put_keeps = keeps z.fill

  module _ (h : i < length ks) {w n : ℕ} {r : Step} (e : w ≡ width_of (kind_at ks i))
      (t : Stepped walk i w f p s q r) (en : n ≡ span w r.change) where
    next : Filling (left_bytes walk ks f s 0 0 0) part₀
        (entry_bytes i w r.change ++ left_bytes walk ks f s (i + 1) (p + r.first) (q + r.second)) at part
    next = along z.fill (bytes_next walk ks f s i p q h e t)

    -- the entry has room
    put_room : at + n ≤ length part₀
    put_room = omega (arith, length_entry i w r.change, simp length-append at (has_room next))

    pub put_inside : at + n ≤ length part
    put_inside = omega (arith, put_room, put_keeps)

    pub one_put : {ys : List ℕ} → ys ≡ entry_bytes i w r.change → {j : ℕ}
        → AllIdle walk (i + 1) j (length ks) (drop (p + r.first) f) (drop (q + r.second) s)
        → Putting walk ks f s part₀ (put_mid at (at + n - at) part ys) (at + n) (p + r.first) (q + r.second) j
    one_put q d = record {
      inside = d.within;
      near = t.near;
      far = t.far;
      fill =
          along (write next q (at + n) (ap (λ (m : ℕ). at + m) (length_entry i w r.change ∙ sym en)))
          (bytes_run walk ks f s t.near t.far d (omega arith));
    }

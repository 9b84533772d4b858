-- The turns of the loops that make a list, operation by operation:
-- each is a turn of the walk, with the step that the functions called return.
-- Assumes nothing.
use Prim.Native.Nat.{ℕ, suc, ◌+◌, ◌-◌, ◌≤◌, ◌<◌}
use native.Mathlib.Omega.{arith}
use mathlib.Core.Path.{◌≡◌, refl, ap, subst, ◌∙◌}
use mathlib.Core.Bool.{Bool, true, false, not}
use mathlib.Core.List.{List, [], ◌∷◌}
use lib.Dec.{eqb}
use lib.ListN.{length, take, drop}
use borrow.Rule.Slice.PartMut.{put_mid}
use Rattle.octets.specs.Octets.{number}
use Rattle.kinds.specs.Kinds.{width_of}
use Rattle.kinds.specs.declared.Kind.{Kind}
use Rattle.history.specs.declared.Change.{Change}
use Rattle.history.specs.Table.{kind_at}
use Rattle.history.specs.Image.{widths}
use Rattle.history.specs.Changes.{entries_bytes, differ, meets, joined, back}
use Rattle.forms.proofs.KindLaws.{kinds_next}
use Rattle.steps.specs.declared.Walk.{Walk}
use Rattle.steps.specs.Steps.{span, entry_bytes, names, count_if, size_if, said_if, change_at, is_swap, step_of}
use Rattle.steps.specs.Steps.{Stepped, Silent, AllIdle}
use Rattle.steps.proofs.StepLaws.{difference_step, join_step, turn_step, differ_swap, names_inside}
use Rattle.steps.proofs.StepLaws.{idle_none, idle_turn}
use Rattle.walks.specs.Walks.{walked, walk_bytes, ElementsLong, Asked, misfit}
use Rattle.walks.proofs.Rounds.{misfit_here, Sizing, one_sized, Putting, put_inside, one_put}

-- a difference asks that both forms are an image's elements
pub asked : {walk : Walk} {ks : List Kind} {f s : List ℕ} → walk ≡ Walk.Difference → Asked walk ks f s
    → ElementsLong ks f s
asked {ks = ks} {f = f} {s = s} e a = subst (λ (walk : Walk). Asked walk ks f s) e a

-- room and bytes, once it is known which walk it is
module _ {walk which : Walk} (e : walk ≡ which) (ks : List Kind) (f s : List ℕ) where
  pub room_as : {n : ℕ} → n ≡ length (walk_bytes walk 0 ks f s)
      → n ≡ length (walk_bytes which 0 ks f s)
  room_as l = rw e at l

  pub bytes_as : {b : List ℕ} → b ≡ walk_bytes which 0 ks f s → b ≡ walk_bytes walk 0 ks f s
  bytes_as p = rw e p

-- ---- a difference: both images have the element at the same place

pub record Comparing (ks : List Kind) (f s : List ℕ) (p i : ℕ) : Type 0 where
  pub old : p + widths (drop i ks) ≡ length f
  pub new : p + widths (drop i ks) ≡ length s

module _ {ks : List Kind} {f s : List ℕ} {p i : ℕ} (z : Comparing ks f s p i) (h : i < length ks) {w : ℕ}
    (ew : w ≡ width_of (kind_at ks i)) where
  pub old_inside : p + w ≤ length f
  old_inside = omega (arith, z.old, ap widths (kinds_next ks i h))

  pub new_inside : p + w ≤ length s
  new_inside = omega (arith, z.new, ap widths (kinds_next ks i h))

  pub one_compared : Comparing ks f s (p + w) (i + 1)
  one_compared =
      record {
        old = omega (arith, z.old, ap widths (kinds_next ks i h));
        new = omega (arith, z.new, ap widths (kinds_next ks i h));
      }

  module _ {a b : ℕ} (ea : a ≡ number (take w (drop p f))) (eb : b ≡ number (take w (drop p s))) where
    step : {c : Change} → c ≡ differ a b
        → Stepped Walk.Difference i w f p s p (record { change = c; agrees = true; first = w; second = w })
    step ec = difference_step old_inside new_inside ea eb ec

    onward : AllIdle Walk.Difference (i + 1) (i + 1) (length ks) (drop (p + w) f) (drop (p + w) s)
    onward = idle_none Walk.Difference (i + 1) (length ks) (drop (p + w) f) (drop (p + w) s) (omega arith)

    pub difference_sized : {count size m n : ℕ} → Sizing Walk.Difference ks f s count size p p i
        → (m ≡ count_if (not (eqb a b))) × (m ≤ 1) → (n ≡ size_if (not (eqb a b)) w) × (n ≤ 10)
        → Sizing Walk.Difference ks f s (count + m) (size + n) (p + w) (p + w) (i + 1)
    difference_sized y em en = one_sized y h ew (step refl) refl (differ_swap a b) em en onward

    module _ {c : Change} (ec : c ≡ differ a b) {part₀ part : List ℕ} {at n : ℕ}
        (y : Putting Walk.Difference ks f s part₀ part at p p i) (en : n ≡ span w c) where
      pub difference_inside : at + n ≤ length part
      difference_inside = put_inside y h ew (step ec) en

      pub difference_put : {ys : List ℕ} → ys ≡ entry_bytes i w c
          → Putting Walk.Difference ks f s part₀ (put_mid at (at + n - at) part ys) (at + n) (p + w) (p + w) (i + 1)
      difference_put q = one_put y h ew (step ec) en q onward

-- ---- a join: what each list says of the object

-- the cursor past an entry is still inside
module _ (l : List ℕ) (p i w : ℕ) {t : Bool} {m : ℕ} (h : p ≤ length l) (e : t ≡ names i w (drop p l))
    (em : (m ≡ size_if t w) × (m ≤ 10)) where
  pub cursor_inside : p + m ≤ length l
  cursor_inside = omega (arith, names_inside l p i w h e, em.0)

-- what is said of an object, where it is read from copies
said_same : (i : ℕ) {t : Bool} {b l : List ℕ} {w p p₁ w₁ : ℕ}
    → (t ≡ names i w (drop p l)) × (b ≡ l) × (p₁ ≡ p) × (w₁ ≡ w)
    → said_if t w₁ (drop p₁ b) ≡ said_if t w (drop p l)
said_same i e = rw (e.1, e.2, e.3)

module _ {ks : List Kind} {f s f₁ s₁ : List ℕ} {p q i w p₁ q₁ w₁ w₂ : ℕ} {one other : Bool} (h : i < length ks)
    (ew : w ≡ width_of (kind_at ks i))
    (eo : (one ≡ names i w (drop p f)) × (f₁ ≡ f) × (p₁ ≡ p) × (w₁ ≡ w))
    (es : (other ≡ names i w (drop q s)) × (s₁ ≡ s) × (q₁ ≡ q) × (w₂ ≡ w)) where
  module _ {count size : ℕ} (z : Sizing Walk.Join ks f s count size p q i) {t : Bool}
      (et : t ≡ meets (said_if one w₁ (drop p₁ f₁)) (said_if other w₂ (drop q₁ s₁))) where
    met : t ≡ meets (said_if one w (drop p f)) (said_if other w (drop q s))
    met = rw (et, said_same i eo, said_same i es)

    same : {kept : Bool} → kept ≡ is_swap (joined (said_if one w₁ (drop p₁ f₁)) (said_if other w₂ (drop q₁ s₁)))
        → kept ≡ is_swap (joined (said_if one w (drop p f)) (said_if other w (drop q s)))
    same e = rw (e, said_same i eo, said_same i es)

    pub join_until : t ≡ false → i ≡ misfit Walk.Join 0 ks f s
    join_until b = misfit_here z.seek h ew (join_step z.seek.near z.seek.far eo.0 es.0 refl met refl refl) b

    pub join_sized : t ≡ true → {kept : Bool}
        → kept ≡ is_swap (joined (said_if one w₁ (drop p₁ f₁)) (said_if other w₂ (drop q₁ s₁)))
        → {m n k l : ℕ} → (m ≡ count_if kept) × (m ≤ 1) → (n ≡ size_if kept w) × (n ≤ 10)
        → (k ≡ size_if one w) × (k ≤ 10)
        → (l ≡ size_if other w) × (l ≤ 10)
        → {j : ℕ} → AllIdle Walk.Join (i + 1) j (length ks) (drop (p + k) f) (drop (q + l) s)
        → Sizing Walk.Join ks f s (count + m) (size + n) (p + k) (q + l) j
    join_sized b e em en ek el d =
        one_sized z h ew (join_step z.seek.near z.seek.far eo.0 es.0 refl met ek.0 el.0) b (same e) em en d

  module _ {part₀ part : List ℕ} {at n : ℕ} (z : Putting Walk.Join ks f s part₀ part at p q i) {c : Change}
      (ec : c ≡ joined (said_if one w₁ (drop p₁ f₁)) (said_if other w₂ (drop q₁ s₁))) (en : n ≡ span w c) where
    change : c ≡ joined (said_if one w (drop p f)) (said_if other w (drop q s))
    change = rw (ec, said_same i eo, said_same i es)

    joint : Stepped Walk.Join i w f p s q
        (record {
          change = c;
          agrees = meets (said_if one w (drop p f)) (said_if other w (drop q s));
          first = size_if one w;
          second = size_if other w;
        })
    joint = join_step z.near z.far eo.0 es.0 change refl refl refl

    pub join_inside : at + n ≤ length part
    join_inside = put_inside z h ew joint en

    pub join_put : {ys : List ℕ} → ys ≡ entry_bytes i w c → {k l : ℕ} → (k ≡ size_if one w) × (k ≤ 10)
        → (l ≡ size_if other w) × (l ≤ 10)
        → {j : ℕ} → AllIdle Walk.Join (i + 1) j (length ks) (drop (p + k) f) (drop (q + l) s)
        → Putting Walk.Join ks f s part₀ (put_mid at (at + n - at) part ys) (at + n) (p + k) (q + l) j
    join_put y ek el d = one_put z h ew (join_step z.near z.far eo.0 es.0 change refl ek.0 el.0) en y d

-- ---- turning back: what the list says of the object

-- there is no second form: whatever is in its place is not read
alone : (i : ℕ) (ks : List Kind) (f s t : List ℕ) → walked Walk.Turn i ks f s ≡ walked Walk.Turn i ks f t
unfolding walked step_of
alone i [] f s t = refl
alone i (k ∷ ks) f s t = rw (alone (suc i) ks (drop (span (width_of k) (change_at i (width_of k) f)) f) s t)

bytes_alone : (ks : List Kind) (f s t : List ℕ) → walk_bytes Walk.Turn 0 ks f s ≡ walk_bytes Walk.Turn 0 ks f t
bytes_alone ks f s t = ap (entries_bytes 0 ks) (alone 0 ks f s t)

module _ {walk : Walk} (e : walk ≡ Walk.Turn) (ks : List Kind) (f s : List ℕ) where
  pub room_alone : {n : ℕ} → n ≡ length (walk_bytes walk 0 ks f s)
      → n ≡ length (walk_bytes Walk.Turn 0 ks f [])
  room_alone l = room_as e ks f s l ∙ ap length (bytes_alone ks f s [])

  pub bytes_turned : {b : List ℕ} → b ≡ walk_bytes Walk.Turn 0 ks f []
      → b ≡ walk_bytes walk 0 ks f s
  bytes_turned p = bytes_as e ks f s (p ∙ bytes_alone ks f [] s)

module _ {ks : List Kind} {f s part₀ part : List ℕ} {at p i w n : ℕ} (z : Putting Walk.Turn ks f s part₀ part at p 0 i)
    (h : i < length ks) (ew : w ≡ width_of (kind_at ks i)) {c d : Change} (ec : c ≡ change_at i w (drop p f))
    (ed : d ≡ back c) (en : n ≡ span w d) where
  turned : {m : ℕ} → m ≡ span w c
      → Stepped Walk.Turn i w f p s 0 (record { change = d; agrees = true; first = m; second = 0 })
  turned em = turn_step z.near z.far ec ed em

  pub turn_inside : at + n ≤ length part
  turn_inside = put_inside z h ew (turned refl) en

  pub turn_put : {ys : List ℕ} → ys ≡ entry_bytes i w d → {m : ℕ} → (m ≡ span w c) × (m ≤ 10) → {j : ℕ}
      → Silent (i + 1) j (length ks) (drop (p + m) f)
      → Putting Walk.Turn ks f s part₀ (put_mid at (at + n - at) part ys) (at + n) (p + m) 0 j
  turn_put y em v = one_put z h ew (turned em.0) en y (idle_turn s v)

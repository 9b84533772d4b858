-- The turns of application's two loops: at object i, with p the place in the entries and `at` the place in the
-- elements, what is done and what is still to be done make up the whole. The places are the same in both loops.
-- Assumes nothing.
use Prim.Native.Nat.{ℕ, suc, ◌+◌, ◌-◌, ◌≤◌, ◌<◌}
use native.Mathlib.Omega.{arith}
use native.Mathlib.Nat.{add-zero}
use native.Mathlib.Numerals.{add-one}
use mathlib.Core.Path.{◌≡◌, refl, sym, ap, ap₂, ◌∙◌}
use mathlib.Core.Bool.{Bool, true, false, cond}
use mathlib.Core.List.{List, [], ◌∷◌, ◌++◌}
use lib.ListN.{length, take, drop, length-append, length-drop}
use lib.Seq.{drop-drop, length-take-le}
use borrow.Rule.Slice.PartMut.{put_mid, mid_of, put_same}
use Rattle.octets.specs.Octets.{number}
use Rattle.kinds.specs.Kinds.{width_of}
use Rattle.kinds.specs.declared.Kind.{Kind}
use Rattle.history.specs.declared.Change.{Change}
use Rattle.history.specs.declared.Change.TheVariants.{Keep as keep, Swap as swap}
use Rattle.history.specs.Table.{kind_at}
use Rattle.history.specs.Image.{widths}
use Rattle.history.specs.Changes.{fits}
use Rattle.octets.proofs.NumberLaws.{length_bytes}
use Rattle.octets.proofs.Writing.{Filling, begin, along, write, untouched}
use Rattle.forms.proofs.KindLaws.{kinds_next, kinds_end}
use Rattle.steps.specs.Steps.{span, change_at, Silent, renewed}
use Rattle.steps.proofs.StepLaws.{said_inside}
use Rattle.walks.specs.Walks.{unfit, renewal}
use Rattle.walks.proofs.Runs.{pass}

-- ---- the places, where the elements take n bytes

pub record Places (ks : List Kind) (e : List ℕ) (n at p i : ℕ) : Type 0 where
  pub inside : i ≤ length ks
  pub near : p ≤ length e
  pub room : at + widths (drop i ks) ≡ n

first_places : (ks : List Kind) (e : List ℕ) {n : ℕ} → n ≡ widths ks → Places ks e n 0 0 0
first_places ks e h = record { inside = omega arith; near = omega arith; room = omega arith }

module _ {ks : List Kind} {e : List ℕ} {n at p i : ℕ} (z : Places ks e n at p i) where
  module _ (h : i < length ks) {w : ℕ} (ew : w ≡ width_of (kind_at ks i)) where
    -- the element ends within the elements
    pub element_inside : at + w ≤ n
    element_inside = omega (arith, z.room, ap widths (kinds_next ks i h))

    module _ {m : ℕ} {c : Change} (ec : c ≡ change_at i w (drop p e)) (em : m ≡ span w c) where
      -- the entry ends within the entries
      pub entry_inside : p + m ≤ length e
      entry_inside = said_inside e p i w z.near ec em

      next_places : Places ks e n (at + w) (p + m) (i + 1)
      next_places =
          record {
            inside = omega arith;
            near = entry_inside;
            room = omega (arith, z.room, ap widths (kinds_next ks i h));
          }

-- ---- the lowest object whose element is not its entry's old one

-- every object passed fits
pub record Fitting (ks : List Kind) (e b : List ℕ) (at p i : ℕ) : Type 0 where
  pub place : Places ks e (length b) at p i
  pub same : unfit 0 ks e b ≡ unfit i (drop i ks) (drop p e) (drop at b)

module _ {ks : List Kind} {e b : List ℕ} {at p i : ℕ} (z : Fitting ks e b at p i) where
  module _ (h : i < length ks) {w : ℕ} {c : Change} (ew : w ≡ width_of (kind_at ks i))
      (ec : c ≡ change_at i w (drop p e)) where
    unfit_next : {m : ℕ} → m ≡ span w c
        → unfit 0 ks e b
        ≡ cond (fits c (number (take w (drop at b))))
        (unfit (i + 1) (drop (i + 1) ks) (drop (p + m) e) (drop (at + w) b)) i
    unfolding unfit
    unfit_next {m} em =
        z.same ∙ rw (kinds_next ks i h, ← ew, ← ec, ← em, add-one i, drop-drop m p e, drop-drop w at b)

    module _ {a : ℕ} (ea : a ≡ number (take w (drop at b))) {t : Bool} (et : t ≡ fits c a) where
      pub unfit_here : t ≡ false → i ≡ unfit 0 ks e b
      unfit_here q = sym (unfit_next refl ∙ rw (← ea, ← et, q))

      step_fitted : t ≡ true → {m : ℕ} → m ≡ span w c → Fitting ks e b (at + w) (p + m) (i + 1)
      step_fitted q em = record { place = next_places z.place h ew ec em; same = unfit_next em ∙ rw (← ea, ← et, q) }

  -- past an object that is not named
  pass_fitted : i < length ks → change_at i (width_of (kind_at ks i)) (drop p e) ≡ keep
      → Fitting ks e b (at + width_of (kind_at ks i)) p (i + 1)
  pass_fitted h k = rw (add-zero p) at (step_fitted h {c = keep} refl (sym k) refl refl refl {m = 0} refl)

  -- where the loop ends, every object fits
  pub all_fitted : length ks ≤ i → unfit 0 ks e b ≡ length ks
  unfolding unfit
  all_fitted h = z.same ∙ rw (kinds_end ks i h) (omega (arith, z.place.inside))

module _ {ks : List Kind} {e b : List ℕ} {at p i : ℕ} (z : Fitting ks e b at p i) (h : i < length ks) {w : ℕ}
    {c : Change}
    (ew : w ≡ width_of (kind_at ks i)) (ec : c ≡ change_at i w (drop p e)) where
  -- past the object's own element, to the next object that is named
  pub one_fitted : {a : ℕ} → a ≡ number (take w (drop at b)) → {t : Bool} → t ≡ fits c a → t ≡ true → {m j v : ℕ}
      → m ≡ span w c
      → Silent (i + 1) j (length ks) (drop (p + m) e)
      → (v ≡ widths (take (j - (i + 1)) (drop (i + 1) ks))) × (v ≤ 4096)
      → Fitting ks e b (at + w + v) (p + m) j
  one_fitted ea et q {m} em d ev =
      pass ks (λ k a. Fitting ks e b a (p + m) k) d ev.0 (λ k a l s g. pass_fitted g l s)
      (step_fitted z h ew ec ea et q em)

-- ---- the elements after the entries

length_renewed : (c : Change) (b : List ℕ) → length (renewed c b) ≡ length b
length_renewed keep b = refl
length_renewed (swap old new) b = length_bytes (length b) new

pub length_renewal : (ks : List Kind) (i : ℕ) (e b : List ℕ) → length b ≡ widths ks
    → length (renewal i ks e b) ≡ widths ks
unfolding renewal
length_renewal [] i e b h = refl
length_renewal (k ∷ ks) i e b h =
    let w : ℕ = width_of k in
    let c : Change = change_at i w e in
    let first : length (renewed c (take w b)) ≡ w = length_renewed c (take w b) ∙ length-take-le w b (omega arith) in
    length-append (renewed c (take w b)) _
    ∙ ap₂ ◌+◌ first (length_renewal ks (suc i) (drop (span w c) e) (drop w b) (length-drop w b ∙ (omega arith)))

-- the elements renewed, and those still to be renewed
pub record Renewing (ks : List Kind) (e part₀ part : List ℕ) (at p i : ℕ) : Type 0 where
  pub place : Places ks e (length part₀) at p i
  pub fill : Filling (renewal 0 ks e part₀) part₀
      (renewal i (drop i ks) (drop p e) (drop at part₀)) at part

pub none_renewed : (ks : List Kind) (e part : List ℕ) → length part ≡ widths ks → Renewing ks e part part 0 0 0
none_renewed ks e part h = record {
  place = first_places ks e h;
  fill = begin _ part (h ∙ sym (length_renewal ks 0 e part h));
}

renewal_next : (ks : List Kind) (e part : List ℕ) (at p i w n : ℕ) (c : Change) → i < length ks
    → w ≡ width_of (kind_at ks i)
    → c ≡ change_at i w (drop p e) → n ≡ span w c
    → renewal i (drop i ks) (drop p e) (drop at part)
    ≡ renewed c (take w (drop at part))
    ++ renewal (i + 1) (drop (i + 1) ks) (drop (p + n) e) (drop (at + w) part)
unfolding renewal
renewal_next ks e part at p i w n c h ew ec en =
    rw (kinds_next ks i h, ← ew, ← ec, ← en, add-one i, drop-drop n p e, drop-drop w at part)

module _ {ks : List Kind} {e part₀ part : List ℕ} {at p i : ℕ} (z : Renewing ks e part₀ part at p i) where
  module _ (h : i < length ks) {w : ℕ} (ew : w ≡ width_of (kind_at ks i)) where
    step_renewed : {n : ℕ} {c : Change} {ys : List ℕ} → c ≡ change_at i w (drop p e) → n ≡ span w c
        → ys ≡ renewed c (mid_of at (at + w - at) part)
        → Renewing ks e part₀ (put_mid at (at + w - at) part ys) (at + w) (p + n) (i + 1)
    step_renewed {n} {c} ec en q =
        let s : at + w - at ≡ w = omega arith in
        let here : mid_of at (at + w - at) part ≡ take w (drop at part₀) =
        untouched z.fill.written (at + w - at) ∙ rw s in
        let long : length (renewed c (take w (drop at part₀))) ≡ w =
        length_renewed c (take w (drop at part₀))
        ∙ length-take-le w (drop at part₀) (rw length-drop (omega (arith, element_inside z.place h ew))) in
        record {
          place = next_places z.place h ew ec en;
          fill =
              write (along z.fill (renewal_next ks e part₀ at p i w n c h ew ec en)) (q ∙ ap (renewed c) here)
              (at + w) (ap (λ (m : ℕ). at + m) long);
        }

  -- past an object that is not named
  pass_renewed : i < length ks → change_at i (width_of (kind_at ks i)) (drop p e) ≡ keep
      → Renewing ks e part₀ part (at + width_of (kind_at ks i)) p (i + 1)
  pass_renewed h c =
      let w : ℕ = width_of (kind_at ks i) in
      rw (put_same at (at + w - at) part, add-zero p) at (step_renewed h refl {n = 0} {c = keep} (sym c) refl refl)

-- past the object's own element, to the next object that is named
pub one_renewed : {ks : List Kind} {e part₀ part : List ℕ} {at p i : ℕ} → Renewing ks e part₀ part at p i
    → i < length ks
    → {w n : ℕ} {c : Change} {ys : List ℕ}
    → w ≡ width_of (kind_at ks i) → c ≡ change_at i w (drop p e) → n ≡ span w c
    → ys ≡ renewed c (mid_of at (at + w - at) part)
    → {j v : ℕ} → Silent (i + 1) j (length ks) (drop (p + n) e)
    → (v ≡ widths (take (j - (i + 1)) (drop (i + 1) ks))) × (v ≤ 4096)
    → Renewing ks e part₀ (put_mid at (at + w - at) part ys) (at + w + v) (p + n) j
one_renewed {ks} {e} {part₀} {part} {at} {p} z h {w} {n} {ys = ys} ew ec en q d ev =
    pass ks (λ k a. Renewing ks e part₀ (put_mid at (at + w - at) part ys) a (p + n) k) d ev.0
    (λ k a l s g. pass_renewed g l s) (step_renewed z h ew ec en q)

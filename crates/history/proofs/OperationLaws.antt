-- The laws of change lists, over their meaning.
-- Assumes nothing.
use Prim.Native.Nat.{ℕ, ◌<◌}
use native.Mathlib.Omega.{arith}
use mathlib.Core.Path.{◌≡◌, refl, sym, ap, ap₂, ◌∙◌}
use mathlib.Core.List.{List, [], ◌∷◌, map, zip_with}
use mathlib.Core.Logic.{◌↔◌}
use lib.Dec.{eqb, leb}
use borrow.Author.Tests.{eq-eqb, ne_eqb, eqb-true, eqb-false, le-leb, lt-leb, leb-true, leb-false}
use native.Mathlib.Nat.{le_antisymm, zero-add}
use Rattle.kinds.specs.declared.Kind.{Kind}
use Rattle.history.specs.Verdict.{Refused, naming, refused, done, refusal}
use Rattle.history.specs.Table.{Plan}
use Rattle.history.specs.Image.{Image, image_version_good, admits, Every, nil, and, LegalImage}
use Rattle.history.specs.declared.Change.{Change}
use Rattle.history.specs.declared.Change.TheVariants.{Keep as keep}
use Rattle.history.specs.Changes.{Changes, lawful, LegalList, differ, fits, after, meets, joined, back}
use Rattle.history.specs.Changes.{result_of, joint_of, difference, applied, join, turned}
use Rattle.history.proofs.VerdictLaws.{held, past, stopped, Lowest, names_lowest, other_code, refuses_lowest}
use Rattle.history.proofs.VerdictLaws.{Paired, none, more, paired, passes, passed, value}
use Rattle.history.proofs.ChangeLaws.{fits_differ, after_differ, only_differ, meets_differ, joined_differ}
use Rattle.history.proofs.ChangeLaws.{back_differ, lawful_differ, lawful_joined, lawful_back, admits_after}

-- ---- all objects

fits_all : {xs ys : List ℕ} → Paired xs ys → Every fits (zip_with differ xs ys) xs
unfolding zip_with
fits_all none = nil
fits_all (more {a = a} {b = b} r) = and (fits_differ a b) (fits_all r)

after_all : {xs ys : List ℕ} → Paired xs ys → zip_with after (zip_with differ xs ys) xs ≡ ys
unfolding zip_with
after_all none = refl
after_all (more {a = a} {b = b} r) = ap₂ ◌∷◌ (after_differ a b) (after_all r)

only_all : {ks : List Kind} {cs : List Change} {xs : List ℕ} → Every lawful ks cs → Every fits cs xs
    → cs ≡ zip_with differ xs (zip_with after cs xs)
unfolding zip_with
only_all nil nil = refl
only_all (and {a = k} p ps) (and {a = c} {b = a} f h) = ap₂ ◌∷◌ (only_differ k c a p f) (only_all ps h)

meets_all : {xs ys zs : List ℕ} → Paired xs ys → Paired ys zs
    → Every meets (zip_with differ xs ys) (zip_with differ ys zs)
unfolding zip_with
meets_all none none = nil
meets_all (more {a = a} {b = b} r) (more {b = c} s) = and (meets_differ a b c) (meets_all r s)

joined_all : {xs ys zs : List ℕ} → Paired xs ys → Paired ys zs
    → zip_with joined (zip_with differ xs ys) (zip_with differ ys zs) ≡ zip_with differ xs zs
unfolding zip_with
joined_all none none = refl
joined_all (more {a = a} {b = b} r) (more {b = c} s) = ap₂ ◌∷◌ (joined_differ a b c) (joined_all r s)

back_all : (xs ys : List ℕ) → map back (zip_with differ xs ys) ≡ zip_with differ ys xs
unfolding zip_with
back_all [] [] = refl
back_all [] (y ∷ ys) = refl
back_all (x ∷ xs) [] = refl
back_all (x ∷ xs) (y ∷ ys) = ap₂ ◌∷◌ (back_differ x y) (back_all xs ys)

lawful_differ_all : {ks : List Kind} {xs ys : List ℕ} → Every admits ks xs → Every admits ks ys
    → Every lawful ks (zip_with differ xs ys)
unfolding zip_with
lawful_differ_all nil nil = nil
lawful_differ_all (and {a = k} {b = a} p ps) (and {b = b} q qs) =
    and (lawful_differ k a b p q) (lawful_differ_all ps qs)

lawful_joined_all : {ks : List Kind} {cs ds : List Change} → Every lawful ks cs → Every lawful ks ds
    → Every lawful ks (zip_with joined cs ds)
unfolding zip_with
lawful_joined_all nil nil = nil
lawful_joined_all (and {a = k} {b = c} p ps) (and {b = d} q qs) =
    and (lawful_joined k c d p q) (lawful_joined_all ps qs)

lawful_back_all : {ks : List Kind} {cs : List Change} → Every lawful ks cs → Every lawful ks (map back cs)
lawful_back_all nil = nil
lawful_back_all (and {a = k} {b = c} p ps) = and (lawful_back k c p) (lawful_back_all ps)

admits_after_all : {ks : List Kind} {cs : List Change} {xs : List ℕ} → Every lawful ks cs → Every admits ks xs
    → Every admits ks (zip_with after cs xs)
unfolding zip_with
admits_after_all nil nil = nil
admits_after_all (and {a = k} {b = c} p ps) (and {b = a} q qs) = and (admits_after k c a p q) (admits_after_all ps qs)

-- ---- what success tells

-- an application that is not refused
pub record Takes (l : Changes) (a b : Image) : Type 0 where
  pub place : l.from ≡ a.position
  pub olds : Every fits l.each a.words
  pub result : b ≡ result_of l a

-- a join that is not refused
pub record Joins (l m k : Changes) : Type 0 where
  pub place : l.to ≡ m.from
  pub olds : Every meets l.each m.each
  pub result : k ≡ joint_of l m

module _ {p : Plan} where
  pub takes : {l : Changes} {a b : Image} → LegalList p l → LegalImage p a → applied l a ≡ done b → Takes l a b
  unfolding applied
  takes {l} {a} {b} hl ha e =
      let late = held (leb a.position l.from) _ _ e in
      let gap = held (leb l.from a.position) _ _ late.1 in
      record {
        place = le_antisymm (leb-true _ _ gap.0) (leb-true _ _ late.0);
        olds = passed 18 fits _ (paired hl.each ha.words) 0 gap.1;
        result = sym (value 18 fits _ l.each a.words 0 gap.1);
      }

  pub joins : {l m k : Changes} → LegalList p l → LegalList p m → join l m ≡ done k → Joins l m k
  unfolding join
  joins {l} {m} {k} hl hm e =
      let meet = held (eqb l.to m.from) _ _ e in
      record {
        place = eqb-true _ _ meet.0;
        olds = passed 20 meets _ (paired hl.each hm.each) 0 meet.1;
        result = sym (value 20 meets _ l.each m.each 0 meet.1);
      }

pub taking : {l : Changes} {a b : Image} → Takes l a b → applied l a ≡ done b
unfolding applied
taking {l} {a} {b} h =
    rw (
      le-leb a.position l.from (omega (arith, h.place)),
      le-leb l.from a.position (omega (arith, h.place)),
    )
    (passes 18 fits _ h.olds 0 ∙ ap done (sym h.result))

pub joining : {l m k : Changes} → Joins l m k → join l m ≡ done k
unfolding join
joining {l} {m} {k} h =
    rw (eq-eqb l.to m.from h.place) (passes 20 meets _ h.olds 0 ∙ ap done (sym h.result))

-- ---- the laws

-- the list from a to b turned back is the list from b to a
pub turned_difference : (a b : Image) → turned (difference a b) ≡ difference b a
unfolding difference turned
turned_difference a b = rw (back_all a.words b.words)

module _ {p : Plan} where
  -- all legal images have the same version byte
  pub one_version : {a b : Image} → LegalImage p a → LegalImage p b → a.version ≡ b.version
  unfolding image_version_good
  one_version ha hb = eqb-true _ _ ha.version ∙ sym (eqb-true _ _ hb.version)

  -- the list from a to b is accepted, and turns a into b ..
  pub difference_legal : {a b : Image} → LegalImage p a → LegalImage p b → LegalList p (difference a b)
  unfolding difference
  difference_legal ha hb =
      record { from = ha.position; to = hb.position; each = lawful_differ_all ha.words hb.words }

  pub apply_difference : {a b : Image} → LegalImage p a → LegalImage p b → a.version ≡ b.version
      → applied (difference a b) a ≡ done b
  unfolding difference
  apply_difference {a} {b} ha hb v =
      let r = paired ha.words hb.words in
      taking (record {
        place = refl;
        olds = fits_all r;
        result = λ i. record { version = sym v i; position = b.position; words = sym (after_all r) i };
      })

  -- .. and is the only accepted list that does
  pub only_difference : {l : Changes} {a b : Image} → LegalList p l → LegalImage p a → applied l a ≡ done b
      → l ≡ difference a b
  unfolding difference
  only_difference {l} {a} {b} hl ha e =
      let h = takes hl ha e in
      rw h.result (λ i. record { from = h.place i; to = l.to; each = only_all hl.each h.olds i })

  pub result_legal : {l : Changes} {a b : Image} → LegalList p l → LegalImage p a → applied l a ≡ done b
      → LegalImage p b
  result_legal hl ha e =
      let h = takes hl ha e in
      rw h.result
      (record { version = ha.version; position = hl.to; words = admits_after_all hl.each ha.words })

  -- the result has the version of the image given
  pub keeps_version : {l : Changes} {a b : Image} → LegalList p l → LegalImage p a → applied l a ≡ done b
      → a.version ≡ b.version
  keeps_version hl ha e = sym (ap (λ (b : Image). b.version) (takes hl ha e).result)

  -- the list from a to b joined with the list from b to c is the list from a to c
  pub join_differences : {a b c : Image} → LegalImage p a → LegalImage p b → LegalImage p c
      → join (difference a b) (difference b c) ≡ done (difference a c)
  unfolding difference
  join_differences {a} {b} {c} ha hb hc =
      let r = paired ha.words hb.words in
      let s = paired hb.words hc.words in
      joining (record {
        place = refl;
        olds = meets_all r s;
        result = λ i. record { from = a.position; to = c.position; each = sym (joined_all r s) i };
      })

  pub join_legal : {l m k : Changes} → LegalList p l → LegalList p m → join l m ≡ done k → LegalList p k
  join_legal hl hm e =
      rw (joins hl hm e).result
      (record { from = hl.from; to = hm.to; each = lawful_joined_all hl.each hm.each })

  pub turned_legal : {l : Changes} → LegalList p l → LegalList p (turned l)
  unfolding turned
  turned_legal hl = record { from = hl.to; to = hl.from; each = lawful_back_all hl.each }

-- ---- what is refused, and what a refusal names

-- 16 exactly where the list starts below the image's position, 17 exactly where above it
pub late_exactly : (l : Changes) (a : Image) → (applied l a ≡ refusal 16) ↔ (l.from < a.position)
unfolding applied
late_exactly l a = (
  (λ e. leb-false _ _
      (stopped (leb a.position l.from) _ _
      (λ r. other_code fits keep 0 18 (result_of l a) 0 l.each a.words (λ n. omega arith)
      (past (leb l.from a.position) _ _ (omega arith) r).1) e)),
  (λ h. rw (lt-leb a.position l.from h)),
)

pub gap_exactly : (l : Changes) (a : Image) → (applied l a ≡ refusal 17) ↔ (a.position < l.from)
unfolding applied
gap_exactly l a = (
  (λ e. leb-false _ _
      (stopped (leb l.from a.position) _ _
      (other_code fits keep 0 18 (result_of l a) 0 l.each a.words (λ n. omega arith))
      (past (leb a.position l.from) _ _ (omega arith) e).1)),
  (λ h. rw (le-leb a.position l.from (omega (arith, h)), lt-leb l.from a.position h)),
)

-- 19 exactly where the second doesn't start at the first's end
pub apart_exactly : (l m : Changes) → (join l m ≡ refusal 19) ↔ (l.to ≡ m.from → ⊥)
unfolding join
apart_exactly l m = (
  (λ e. eqb-false _ _
      (stopped (eqb l.to m.from) _ _
      (other_code meets keep keep 20 (joint_of l m) 0 l.each m.each (λ n. omega arith)) e)),
  (λ h. rw (ne_eqb l.to m.from h)),
)

-- 18 exactly where the list starts at the image's position and some old element is not the image's; the lowest is named
pub old_exactly : (l : Changes) (a : Image) (j bit : ℕ)
    → (applied l a ≡ refused (naming 18 j bit))
    ↔ ((l.from ≡ a.position) × Lowest fits keep 0 l.each a.words j × (bit ≡ 255))
unfolding applied
old_exactly l a j bit = (names, refuses)
  where
    names : applied l a ≡ refused (naming 18 j bit)
        → (l.from ≡ a.position) × Lowest fits keep 0 l.each a.words j × (bit ≡ 255)
    names e =
        let late = past (leb a.position l.from) _ _ (omega arith) e in
        let gap = past (leb l.from a.position) _ _ (omega arith) late.1 in
        let below = leb-true a.position l.from late.0 in
        let above = leb-true l.from a.position gap.0 in
        let n = names_lowest fits keep 0 18 (result_of l a) 0 l.each a.words gap.1 in (
          omega (arith, below, above),
          rw (ap (λ (r : Refused). r.object) n.named, zero-add n.place) n.lowest,
          ap (λ (r : Refused). r.bit) n.named,
        )

    refuses : (l.from ≡ a.position) × Lowest fits keep 0 l.each a.words j × (bit ≡ 255)
        → applied l a ≡ refused (naming 18 j bit)
    refuses h =
        let e = h.0 in
        rw (le-leb a.position l.from (omega arith), le-leb l.from a.position (omega arith), h.2)
        (refuses_lowest fits keep 0 18 (result_of l a) 0 l.each a.words j h.1 ∙ rw (zero-add j))

-- 20 exactly where the positions meet and some new element in the first is not its old one in the second; likewise
pub meeting_exactly : (l m : Changes) (j bit : ℕ)
    → (join l m ≡ refused (naming 20 j bit))
    ↔ ((l.to ≡ m.from) × Lowest meets keep keep l.each m.each j × (bit ≡ 255))
unfolding join
meeting_exactly l m j bit = (names, refuses)
  where
    names : join l m ≡ refused (naming 20 j bit)
        → (l.to ≡ m.from) × Lowest meets keep keep l.each m.each j × (bit ≡ 255)
    names e =
        let place = past (eqb l.to m.from) _ _ (omega arith) e in
        let n = names_lowest meets keep keep 20 (joint_of l m) 0 l.each m.each place.1 in (
          eqb-true _ _ place.0,
          rw (ap (λ (r : Refused). r.object) n.named, zero-add n.place) n.lowest,
          ap (λ (r : Refused). r.bit) n.named,
        )

    refuses : (l.to ≡ m.from) × Lowest meets keep keep l.each m.each j × (bit ≡ 255)
        → join l m ≡ refused (naming 20 j bit)
    refuses h =
        rw (eq-eqb l.to m.from h.0, h.2)
        (refuses_lowest meets keep keep 20 (joint_of l m) 0 l.each m.each j h.1 ∙ rw (zero-add j))

-- ---- lists that some image takes in turn

module _ {p : Plan} where
  -- two such lists join to the list from the first image to the last
  pub join_taken : {l m : Changes} {a b c : Image} → LegalList p l → LegalList p m → LegalImage p a
      → applied l a ≡ done b → applied m b ≡ done c
      → join l m ≡ done (difference a c)
  join_taken {l} {m} {a} {b} {c} hl hm ha e f =
      let hb = result_legal hl ha e in
      rw (only_difference hl ha e, only_difference hm hb f) (join_differences ha hb (result_legal hm hb f))

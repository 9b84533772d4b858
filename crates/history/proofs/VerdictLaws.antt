-- What a verdict tells of the tests before it; two lists taken side by side, and the lowest
-- object at which a test fails.
-- Assumes nothing.
use Prim.Native.Nat.{ℕ, zero, suc, ◌+◌, ◌<◌}
use native.Mathlib.Nat.{add-zero, add-suc, suc-add}
use native.Mathlib.Omega.{arith}
use mathlib.Core.Path.{◌≡◌, refl, sym, ap, ◌∙◌}
use mathlib.Core.Bool.{Bool, true, false, ◌&&◌, ◌||◌}
use mathlib.Core.List.{List, [], ◌∷◌}
use mathlib.Core.Logic.{◌⊎◌, inl, inr}
use lib.ListN.{length, get_or}
use Rattle.history.specs.Verdict.{Refused, naming, Verdict, refused, done, then, refusal_at, ◌unless◌⨾◌}
use Rattle.history.specs.Changes.{lowest}
use Rattle.history.specs.Image.{Every, nil, and}

-- both tests hold, so their conjunction does
pub all : {a b : Bool} → a ≡ true → b ≡ true → (a && b) ≡ true
all p q = rw (p, q)

pub left : (a b : Bool) → (a && b) ≡ true → a ≡ true
left true b e = refl
left false b e = e

pub right : (a b : Bool) → (a && b) ≡ true → b ≡ true
right true b e = e
right false b e = absurd (let z : ◌≡◌ {A = ℕ} 0 1 = cc in omega arith)

-- one of two tests holds; a test that can't hold is false
pub either : (a b : Bool) → (a || b) ≡ true → (a ≡ true) ⊎ (b ≡ true)
either true b e = inl refl
either false b e = inr e

pub refuted : (b : Bool) → (b ≡ true → ⊥) → b ≡ false
refuted true n = absurd (n refl)
refuted false n = refl

-- equal refused verdicts have the same refusal
pub one_refusal : {A : Type 0} {x y : Refused} → ◌≡◌ {A = Verdict A} (refused x) (refused y) → x ≡ y
one_refusal e = cc

-- a verdict other than the test's refusal: the test held, and the rest gave it
pub kept : {A : Type 0} (t : Bool) (x : Refused) (r : Verdict A) {v : Verdict A} → (refused x ≡ v → ⊥)
    → (refused x unless t ⨾ r) ≡ v → (t ≡ true) × (r ≡ v)
kept true x r n e = (refl, e)
kept false x r n e = absurd (n e)

-- a verdict that is no refusal: the test held, and what follows was reached
pub held : {A : Type 0} (t : Bool) (x : Refused) (r : Verdict A) {a : A} → (refused x unless t ⨾ r) ≡ done a
    → (t ≡ true) × (r ≡ done a)
held t x r = kept t x r (λ e. let z : ◌≡◌ {A = ℕ} 0 1 = cc in omega arith)

pub used : {A B : Type 0} (x : Verdict A) (f : A → Verdict B) {b : B} → then x f ≡ done b
    → (a : A) × (x ≡ done a) × (f a ≡ done b)
used (refused r) f e = absurd (let z : ◌≡◌ {A = ℕ} 0 1 = cc in omega arith)
used (done a) f e = (a, refl, e)

-- a refusal comes from the first step or from the next
pub either_refused : {A B : Type 0} (x : Verdict A) (f : A → Verdict B) {r : Refused} → then x f ≡ refused r
    → (x ≡ refused r) ⊎ ((a : A) × (x ≡ done a) × (f a ≡ refused r))
either_refused (refused r) f e = inl cc
either_refused (done a) f e = inr (a, refl, e)

-- if the next step can't refuse, the refusal is the first step's
pub passed_up : {A B : Type 0} (x : Verdict A) (f : A → B) {r : Refused} → then x (λ a. done (f a)) ≡ refused r
    → x ≡ refused r
passed_up (refused r) f e = cc
passed_up (done a) f e = absurd (let z : ◌≡◌ {A = ℕ} 0 1 = cc in omega arith)

-- a refusal of another code than the test's: the test held, and the rest gave it
pub past : {A : Type 0} (t : Bool) (x : Refused) (r : Verdict A) {y : Refused} → (x.code ≡ y.code → ⊥)
    → (refused x unless t ⨾ r) ≡ refused y → (t ≡ true) × (r ≡ refused y)
past t x r n = kept t x r (λ e. n cc)

-- a refusal that the rest does not give: the test failed
pub stopped : {A : Type 0} (t : Bool) (x : Refused) (r : Verdict A) {v : Verdict A} → (r ≡ v → ⊥)
    → (refused x unless t ⨾ r) ≡ v → t ≡ false
stopped true x r n e = absurd (n e)
stopped false x r n e = refl

-- ---- the lowest object at which a test fails

module _ {A B : Type 0} (test : A → B → Bool) (x : A) (y : B) where
  -- the test fails at n, and holds at each object below
  pub record Lowest (xs : List A) (ys : List B) (n : ℕ) : Type 0 where
    pub first : n < length xs
    pub second : n < length ys
    pub fails : test (get_or xs n x) (get_or ys n y) ≡ false
    pub holds : (k : ℕ) → k < n → test (get_or xs k x) (get_or ys k y) ≡ true

  lowest_here : (a : A) (b : B) (xs : List A) (ys : List B) → test a b ≡ false → Lowest (a ∷ xs) (b ∷ ys) 0
  lowest_here a b xs ys e =
      record { first = omega arith; second = omega arith; fails = e; holds = λ k h. absurd (omega arith) }

  lowest_later : (a : A) (b : B) (xs : List A) (ys : List B) (n : ℕ) → test a b ≡ true → Lowest xs ys n
      → Lowest (a ∷ xs) (b ∷ ys) (suc n)
  lowest_later a b xs ys n e l =
      record { first = omega (arith, l.first); second = omega (arith, l.second); fails = l.fails; holds = go }
    where
      go : (k : ℕ) → k < suc n → test (get_or (a ∷ xs) k x) (get_or (b ∷ ys) k y) ≡ true
      go zero h = e
      go (suc k) h = l.holds k (omega arith)

  -- a refusal with this code, of objects counted from i, names the lowest at which the test fails
  pub record Names (xs : List A) (ys : List B) (code i : ℕ) (r : Refused) : Type 0 where
    pub place : ℕ
    pub lowest : Lowest xs ys place
    pub named : r ≡ naming code (i + place) 255

  module _ {C : Type 0} (code : ℕ) (c : C) where
    pub names_lowest : (i : ℕ) (xs : List A) (ys : List B) {r : Refused} → lowest code test i xs ys c ≡ refused r
        → Names xs ys code i r
    names_lowest i [] ys e = absurd (let z : ◌≡◌ {A = ℕ} 0 1 = cc in omega arith)
    names_lowest i (a ∷ xs) [] e = absurd (let z : ◌≡◌ {A = ℕ} 0 1 = cc in omega arith)
    names_lowest i (a ∷ xs) (b ∷ ys) {r} e = go (test a b) refl (names_lowest (suc i) xs ys) e
      where
        go : (u : Bool) → test a b ≡ u → (lowest code test (suc i) xs ys c ≡ refused r → Names xs ys code (suc i) r)
            → (refusal_at code i unless u ⨾ lowest code test (suc i) xs ys c) ≡ refused r
            → Names (a ∷ xs) (b ∷ ys) code i r
        go false t later e = record { place = 0; lowest = lowest_here a b xs ys t; named = cc (add-zero i) }
        go true t later e =
            let n = later e in
            record {
              place = suc n.place;
              lowest = lowest_later a b xs ys n.place t n.lowest;
              named = n.named ∙ ap (λ (j : ℕ). naming code j 255) (suc-add i n.place ∙ sym (add-suc i n.place));
            }

  module _ {C : Type 0} (code : ℕ) (c : C) where
    -- .. no other code is given ..
    pub other_code : (i : ℕ) (xs : List A) (ys : List B) {r : Refused} → (r.code ≡ code → ⊥)
        → lowest code test i xs ys c ≡ refused r → ⊥
    other_code i xs ys n e = n (ap (λ (r : Refused). r.code) (names_lowest code c i xs ys e).named)

    -- .. and where the test fails, the lowest such object is refused
    pub refuses_lowest : (i : ℕ) (xs : List A) (ys : List B) (n : ℕ) → Lowest xs ys n
        → lowest code test i xs ys c ≡ refusal_at code (i + n)
    refuses_lowest i [] ys n l = absurd (omega (arith, l.first))
    refuses_lowest i (a ∷ xs) [] n l = absurd (omega (arith, l.second))
    refuses_lowest i (a ∷ xs) (b ∷ ys) zero l = rw (l.fails, add-zero i)
    refuses_lowest i (a ∷ xs) (b ∷ ys) (suc n) l =
        let next : Lowest xs ys n =
        record {
          first = omega (arith, l.first);
          second = omega (arith, l.second);
          fails = l.fails;
          holds = λ k h. l.holds (suc k) (omega arith);
        } in
        rw (l.holds 0 (omega arith))
        (refuses_lowest (suc i) xs ys n next ∙ ap (refusal_at code) (suc-add i n ∙ sym (add-suc i n)))

module _ {A B : Type 0} where
  -- two lists of the same length
  pub data Paired : List A → List B → Type 0 where
    none : Paired [] []
    more : {a : A} {b : B} {xs : List A} {ys : List B} → Paired xs ys → Paired (a ∷ xs) (b ∷ ys)

  pub paired : {C : Type 0} {f : C → A → Bool} {g : C → B → Bool} {cs : List C} {xs : List A} {ys : List B}
      → Every f cs xs → Every g cs ys → Paired xs ys
  paired nil nil = none
  paired (and p ps) (and q qs) = more (paired ps qs)

  module _ {C : Type 0} (code : ℕ) (test : A → B → Bool) (c : C) where
    pub passes : {xs : List A} {ys : List B} → Every test xs ys → (i : ℕ) → lowest code test i xs ys c ≡ done c
    passes nil i = refl
    passes (and t h) i = rw t (passes h (suc i))

    pub passed : {xs : List A} {ys : List B} → Paired xs ys → (i : ℕ) {c' : C} → lowest code test i xs ys c ≡ done c'
        → Every test xs ys
    passed none i e = nil
    passed (more {a = a} {b = b} r) i e =
        let s = held (test a b) _ _ e in
        and s.0 (passed r (suc i) s.1)

    pub value : (xs : List A) (ys : List B) (i : ℕ) {c' : C} → lowest code test i xs ys c ≡ done c' → c ≡ c'
    value [] ys i e = cc
    value (x ∷ xs) [] i e = cc
    value (x ∷ xs) (y ∷ ys) i e = value xs ys (suc i) (held (test x y) _ _ e).1

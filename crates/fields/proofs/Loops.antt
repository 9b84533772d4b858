-- What the three loops over a kind's rows keep: the one that hands fields out, the one that
-- takes them in, and the check of values.
-- Assumes nothing.
use Prim.Native.Nat.{ℕ, zero, suc, ◌+◌, ◌-◌, ◌≤◌, ◌<◌}
use native.Mathlib.Omega.{arith}
use native.Mathlib.Nat.{add-zero, add-suc, suc-add}
use native.Mathlib.Numerals.{add-one}
use mathlib.Core.Path.{◌≡◌, refl, sym, ap, ap₂, ◌∙◌}
use mathlib.Core.Bool.{Bool, true, false, cond}
use mathlib.Core.List.{List, [], ◌∷◌, ◌++◌}
use mathlib.Core.Logic.{◌⊎◌, inl, inr}
use lib.Dec.{eqb, leb}
use lib.ListN.{length, get_or, set, drop, replicate, length-append}
use lib.Seq.{append_snoc, drop-cons}
use borrow.Author.Tests.{eq-eqb, ne_eqb, le-leb, lt-leb}
use Rattle.rows.specs.Rows.{row_at, rows_from}
use Rattle.rows.specs.Values.{Finding, code_at, filled, padded}
use Rattle.std.proofs.Common.{Ok, Err}
use Rattle.rows.proofs.Loops.{fill_store, rows_next}
use Rattle.fields.specs.PlainFields.{shown, shown_in, spread, check_named}
use Rattle.fields.specs.declared.by_rows.Shown.{Shown}
use Rattle.fields.proofs.OwnFields.{own, spread_length}

-- whether row i is reserved
abbrev none : ℕ → Bool
none i = eqb (row_at i).top 0

-- ---- handing out

-- one more row, at the end
shown_on : (t b : Bool) (xs : List ℕ) (v x : ℕ)
    → cond t (cond b xs (xs ++ (x ∷ []))) (v ∷ cond b xs (xs ++ (x ∷ [])))
    ≡ cond b (cond t xs (v ∷ xs)) (cond t xs (v ∷ xs) ++ (x ∷ []))
shown_on true true xs v x = refl
shown_on true false xs v x = refl
shown_on false true xs v x = refl
shown_on false false xs v x = refl

shown_snoc : (n i : ℕ) (vs : List ℕ) → n < length vs
    → shown (rows_from i (suc n)) vs
    ≡ cond (none (i + n)) (shown (rows_from i n) vs) (shown (rows_from i n) vs ++ (get_or vs n 0 ∷ []))
shown_snoc n i [] h = absurd (omega arith)
shown_snoc zero i (v ∷ vs) h = ap (λ (j : ℕ). cond (eqb (row_at j).top 0) [] (v ∷ [])) (sym (add-zero i))
shown_snoc (suc n) i (v ∷ vs) h =
    let xs = shown (rows_from (suc i) n) vs in
    ap (λ (l : List ℕ). cond (none i) l (v ∷ l)) (shown_snoc n (suc i) vs (omega arith))
    ∙ shown_on (none i) (none (suc i + n)) xs v (get_or vs n 0)
    ∙ ap (λ (j : ℕ). cond (none j) (cond (none i) xs (v ∷ xs)) (cond (none i) xs (v ∷ xs) ++ (get_or vs n 0 ∷ [])))
    (suc-add i n ∙ sym (add-suc i n))

pub record Showing (first count : ℕ) (vs fields : List ℕ) (n k : ℕ) : Type 0 where
  pub bound : k ≤ count
  pub below : n ≤ k
  pub size : n ≡ length (shown (rows_from first k) vs)
  pub so_far : fields ≡ filled 32 (shown (rows_from first k) vs)

module _ {first count : ℕ} {vs fields : List ℕ} {n k : ℕ} (s : Showing first count vs fields n k) (h : k < count)
    (few : count ≤ 24) (full : length vs ≡ 24) where
  xs : List ℕ
  xs = shown (rows_from first k) vs

  next_shown : (b : Bool) → none (first + k) ≡ b
      → shown (rows_from first (k + 1)) vs ≡ cond b xs (xs ++ (get_or vs k 0 ∷ []))
  unfolding xs
  next_shown b e =
      ap (λ (j : ℕ). shown (rows_from first j) vs) (add-one k)
      ∙ shown_snoc k first vs (omega arith)
      ∙ ap (λ (b : Bool). cond b xs (xs ++ (get_or vs k 0 ∷ []))) e

  skips : (row_at (first + k)).top ≡ 0 → Showing first count vs fields n (k + 1)
  unfolding xs
  skips z =
      let e = next_shown true (eq-eqb (row_at (first + k)).top 0 z) in
      record {
        bound = omega arith;
        below = omega (arith, s.below);
        size = s.size ∙ ap length (sym e);
        so_far = s.so_far ∙ ap (filled 32) (sym e);
      }

  shows : ((row_at (first + k)).top ≡ 0 → ⊥) → Showing first count vs (set fields n (get_or vs k 0)) (n + 1) (k + 1)
  unfolding xs
  shows z =
      let x = get_or vs k 0 in
      let e = next_shown false (ne_eqb (row_at (first + k)).top 0 z) in
      record {
        bound = omega arith;
        below = omega (arith, s.below);
        size = omega (arith, s.size, length-append xs (x ∷ []), ap length e);
        so_far =
            ap₂ (λ (l : List ℕ) (i : ℕ). set l i x) s.so_far s.size
            ∙ fill_store 32 xs x (omega (arith, s.size, s.below))
            ∙ ap (filled 32) (sym e);
      }

  -- one turn: the row has a field, or is reserved
  pub shows_on : {top : ℕ} → top ≡ (row_at (first + k)).top → {P Q : Type 0} → (P → top ≡ 0 → ⊥) → (Q → top ≡ 0)
      → {fields' : List ℕ} {n' : ℕ}
      → (P × (fields' ≡ set fields n (get_or vs k 0)) × (n' ≡ n + 1)) ⊎ (Q × (fields' ≡ fields) × (n' ≡ n))
      → Showing first count vs fields' n' (k + 1)
  shows_on t p q (inl (x, e, f)) = rw (e, f) (shows (λ z. p x (t ∙ z)))
  shows_on t p q (inr (x, e, f)) = rw (e, f) (skips (sym t ∙ q x))

pub shown_all : {first count : ℕ} {vs fields : List ℕ} {n k : ℕ} → Showing first count vs fields n k → count ≤ k
    → ◌≡◌ {A = Shown} (record { count = n; fields = fields }) (shown_in (rows_from first count) vs)
shown_all {first} {count} {vs} {fields} {n} {k} s h =
    let e : k ≡ count = omega (arith, s.bound) in
    let size = s.size ∙ ap (λ (j : ℕ). length (shown (rows_from first j) vs)) e in
    let so_far = s.so_far ∙ ap (λ (j : ℕ). filled 32 (shown (rows_from first j) vs)) e in
    λ i. record { count = size i; fields = so_far i }

-- ---- taking in

abbrev front : Bool → List ℕ → List ℕ → List ℕ → List ℕ
front b fs xs ys = cond b (0 ∷ xs) (get_or fs 0 0 ∷ ys)

after_one : (fs : List ℕ) (j : ℕ) → get_or (drop 1 fs) j 0 ≡ get_or fs (suc j) 0
after_one [] j = refl
after_one (f ∷ fs) j = refl

-- the value of a row with j fields before it: 0 if it is reserved
abbrev taken : Bool → List ℕ → ℕ → ℕ
taken b fs j = cond b 0 (get_or fs j 0)

taken_first : (b : Bool) (fs : List ℕ) → front b fs [] [] ≡ taken b fs 0 ∷ []
taken_first true fs = refl
taken_first false fs = refl

taken_on : (b : Bool) (fs xs ys : List ℕ) (c : Bool) (u : ℕ)
    → front b fs (xs ++ (taken c fs u ∷ [])) (ys ++ (taken c (drop 1 fs) u ∷ []))
    ≡ front b fs xs ys ++ (taken c fs (cond b u (suc u)) ∷ [])
taken_on true fs xs ys c u = refl
taken_on false fs xs ys c u = ap (λ (x : ℕ). get_or fs 0 0 ∷ (ys ++ (cond c 0 x ∷ []))) (after_one fs u)

spread_snoc : (n i : ℕ) (fs : List ℕ)
    → spread (rows_from i (suc n)) fs
    ≡ spread (rows_from i n) fs ++ (taken (none (i + n)) fs (own (rows_from i n)) ∷ [])
spread_snoc zero i fs = taken_first (none i) fs ∙ ap (λ (j : ℕ). taken (none j) fs 0 ∷ []) (sym (add-zero i))
spread_snoc (suc n) i fs =
    let rs = rows_from (suc i) n in
    ap₂ (front (none i) fs) (spread_snoc n (suc i) fs) (spread_snoc n (suc i) (drop 1 fs))
    ∙ taken_on (none i) fs (spread rs fs) (spread rs (drop 1 fs)) (none (suc i + n)) (own rs)
    ∙ ap (λ (j : ℕ). front (none i) fs (spread rs fs) (spread rs (drop 1 fs))
    ++ (taken (none j) fs (cond (none i) (own rs) (suc (own rs))) ∷ []))
    (suc-add i n ∙ sym (add-suc i n))

own_on : (t b : Bool) (u : ℕ)
    → cond t (cond b u (suc u)) (suc (cond b u (suc u))) ≡ cond b (cond t u (suc u)) (suc (cond t u (suc u)))
own_on true true u = refl
own_on true false u = refl
own_on false true u = refl
own_on false false u = refl

own_snoc : (n i : ℕ) → own (rows_from i (suc n)) ≡ cond (none (i + n)) (own (rows_from i n)) (suc (own (rows_from i n)))
own_snoc zero i = ap (λ (j : ℕ). cond (none j) 0 1) (sym (add-zero i))
own_snoc (suc n) i =
    let u = own (rows_from (suc i) n) in
    ap (λ (m : ℕ). cond (none i) m (suc m)) (own_snoc n (suc i))
    ∙ own_on (none i) (none (suc i + n)) u
    ∙ ap (λ (j : ℕ). cond (none j) (cond (none i) u (suc u)) (suc (cond (none i) u (suc u))))
    (suc-add i n ∙ sym (add-suc i n))

-- one more zero is one of the padding
pad_zero : (xs : List ℕ) → length xs < 24 → padded xs ≡ padded (xs ++ (0 ∷ []))
pad_zero xs h =
    let m = 24 - suc (length xs) in
    let e : 24 - length xs ≡ suc m = omega arith in
    let e' : 24 - length (xs ++ (0 ∷ [])) ≡ m = omega (arith, length-append xs (0 ∷ [])) in
    ap (λ (n : ℕ). xs ++ replicate n 0) e ∙ sym (append_snoc xs 0 (replicate m 0))
    ∙ ap (λ (n : ℕ). (xs ++ (0 ∷ [])) ++ replicate n 0) (sym e')

pub record Taking (first count : ℕ) (fs values : List ℕ) (n k : ℕ) : Type 0 where
  pub bound : k ≤ count
  pub below : n ≤ k
  pub size : n ≡ own (rows_from first k)
  pub so_far : values ≡ padded (spread (rows_from first k) fs)

module _ {first count : ℕ} {fs values : List ℕ} {n k : ℕ} (s : Taking first count fs values n k) (h : k < count)
    (few : count ≤ 24) where
  ys : List ℕ
  ys = spread (rows_from first k) fs

  next_spread : (b : Bool) → none (first + k) ≡ b → spread (rows_from first (k + 1)) fs ≡ ys ++ (taken b fs n ∷ [])
  unfolding ys
  next_spread b e =
      ap (λ (j : ℕ). spread (rows_from first j) fs) (add-one k)
      ∙ spread_snoc k first fs
      ∙ ap₂ (λ (b : Bool) (j : ℕ). ys ++ (taken b fs j ∷ [])) e (sym s.size)

  next_own : (b : Bool) → none (first + k) ≡ b → own (rows_from first (k + 1)) ≡ cond b n (suc n)
  next_own b e =
      ap (λ (j : ℕ). own (rows_from first j)) (add-one k)
      ∙ own_snoc k first
      ∙ ap₂ (λ (b : Bool) (j : ℕ). cond b j (suc j)) e (sym s.size)

  passes : (row_at (first + k)).top ≡ 0 → Taking first count fs values n (k + 1)
  unfolding ys
  passes z =
      let e = eq-eqb (row_at (first + k)).top 0 z in
      record {
        bound = omega arith;
        below = omega (arith, s.below);
        size = sym (next_own true e);
        so_far =
            s.so_far ∙ pad_zero ys (omega (arith, spread_length k first fs)) ∙ ap padded (sym (next_spread true e));
      }

  takes : ((row_at (first + k)).top ≡ 0 → ⊥) → Taking first count fs (set values k (get_or fs n 0)) (n + 1) (k + 1)
  unfolding ys
  takes z =
      let x = get_or fs n 0 in
      let e = ne_eqb (row_at (first + k)).top 0 z in
      record {
        bound = omega arith;
        below = omega (arith, s.below);
        size = omega (arith, next_own false e);
        so_far =
            ap₂ (λ (l : List ℕ) (i : ℕ). set l i x) s.so_far (sym (spread_length k first fs))
            ∙ fill_store 24 ys x (omega (arith, spread_length k first fs))
            ∙ ap padded (sym (next_spread false e));
      }

  -- one turn: the row has a field, or is reserved
  pub takes_on : {top : ℕ} → top ≡ (row_at (first + k)).top → {P Q : Type 0} → (P → top ≡ 0 → ⊥) → (Q → top ≡ 0)
      → {values' : List ℕ} {n' : ℕ}
      → (P × (values' ≡ set values k (get_or fs n 0)) × (n' ≡ n + 1)) ⊎ (Q × (values' ≡ values) × (n' ≡ n))
      → Taking first count fs values' n' (k + 1)
  takes_on t p q (inl (x, e, f)) = rw (e, f) (takes (λ z. p x (t ∙ z)))
  takes_on t p q (inr (x, e, f)) = rw (e, f) (passes (sym t ∙ q x))

pub taken_all : {first count : ℕ} {fs values : List ℕ} {n k : ℕ} → Taking first count fs values n k → count ≤ k
    → values ≡ padded (spread (rows_from first count) fs)
taken_all {first} {count} {fs} {values} {n} {k} s h =
    let e : k ≡ count = omega (arith, s.bound) in
    s.so_far ∙ ap (λ (j : ℕ). padded (spread (rows_from first j) fs)) e

-- ---- the check of values

pub record Checking (first count : ℕ) (vs : List ℕ) (k : ℕ) : Type 0 where
  pub bound : k ≤ count
  pub to_come : check_named (rows_from first count) vs ≡ check_named (rows_from (first + k) (count - k)) (drop k vs)

module _ {first count : ℕ} {vs : List ℕ} {k : ℕ} (s : Checking first count vs k) (h : k < count) (few : count ≤ 24)
    (full : length vs ≡ 24) {top : ℕ} (top-is : top ≡ (row_at (first + k)).top) where
  rest : Finding
  rest = check_named (rows_from (first + (k + 1)) (count - (k + 1))) (drop (k + 1) vs)

  next_named : check_named (rows_from first count) vs
      ≡ cond (leb (get_or vs k 0) (row_at (first + k)).top) rest (Err (code_at 11 (row_at (first + k)).low))
  unfolding rest
  next_named =
      s.to_come
      ∙ ap₂ check_named (rows_next first count k h)
      (drop-cons vs k 0 (omega arith) ∙ ap (λ (j : ℕ). get_or vs k 0 ∷ drop j vs) (sym (add-one k)))

  pub goes_on : get_or vs k 0 ≤ top → Checking first count vs (k + 1)
  unfolding rest
  goes_on l =
      record {
        bound = omega arith;
        to_come =
            next_named ∙ ap (λ (b : Bool). cond b rest (Err (code_at 11 (row_at (first + k)).low)))
            (le-leb (get_or vs k 0) (row_at (first + k)).top (omega arith));
      }

  pub stops : top < get_or vs k 0 → {bit : ℕ} → bit ≡ (row_at (first + k)).low
      → Err (code_at 11 bit) ≡ check_named (rows_from first count) vs
  stops l bit_is =
      ap (λ (bit : ℕ). Err (code_at 11 bit)) bit_is
      ∙ sym (next_named
      ∙ ap (λ (b : Bool). cond b rest (Err (code_at 11 (row_at (first + k)).low)))
      (lt-leb (get_or vs k 0) (row_at (first + k)).top (omega arith)))

pub checked : {first count : ℕ} {vs : List ℕ} {k : ℕ} → Checking first count vs k → count ≤ k
    → Ok tt ≡ check_named (rows_from first count) vs
checked {first} {count} {vs} {k} s h =
    let z : count - k ≡ 0 = omega arith in
    sym (s.to_come ∙ ap (λ (n : ℕ). check_named (rows_from (first + k) n) (drop k vs)) z)

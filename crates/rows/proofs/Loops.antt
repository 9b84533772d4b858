-- The invariants of the loops over rows: those that check and read fields, and the one that composes a number.
-- Assumes nothing.
use mathlib.Core.Path.{◌≡◌, ◌∙◌, refl, sym, ap, ap₂}
use mathlib.Core.Bool.{Bool, true, false, cond}
use mathlib.Core.List.{List, [], ◌∷◌, ◌++◌}
use Prim.Native.Nat.{ℕ, zero, suc, ◌+◌, ◌-◌, ◌*◌, ◌%◌, ◌^◌, ◌<◌, ◌≤◌}
use native.Mathlib.Omega.{arith}
use native.Mathlib.Nat.{add-zero, add-suc, suc-add, mod-eq_of_lt}
use native.Mathlib.Numerals.{add-one}
use lib.Dec.{leb, eqb}
use lib.ListN.{length, get_or, set, drop, replicate, length-append}
use borrow.Author.Tests.{eq-eqb, ne_eqb}
use lib.Seq.{set-append_seam, append_snoc, drop-cons}
use Rattle.rows.specs.Rows.{Row, row_total, row_at, rows_from, number_at}
use Rattle.rows.specs.Values.{field_of, field_read, on_field, check_rows, values_of, compose_of, filled}
use Rattle.rows.specs.Values.{padded, on_finding, values_read, bearing}
use Rattle.rows.specs.declared.Refusal.{Refusal}
use Rattle.rows.specs.Values.{Finding}
use Rattle.std.proofs.Common.{Result, Ok, Err}

rows_snoc : (n i : ℕ) → rows_from i (suc n) ≡ rows_from i n ++ (row_at (i + n) ∷ [])
rows_snoc zero i = ap (λ (k : ℕ). row_at k ∷ []) (sym (add-zero i))
rows_snoc (suc n) i =
    ap (λ (l : List Row). row_at i ∷ l)
    (rows_snoc n (suc i) ∙ ap (λ (k : ℕ). rows_from (suc i) n ++ (row_at k ∷ [])) (suc-add i n ∙ sym (add-suc i n)))

values_snoc : (w : ℕ) (rs : List Row) (r : Row) → values_of w (rs ++ (r ∷ [])) ≡ values_of w rs ++ (field_of w r ∷ [])
values_snoc w [] r = refl
values_snoc w (s ∷ rs) r = ap (λ (l : List ℕ). field_of w s ∷ l) (values_snoc w rs r)

values_length : (w n i : ℕ) → length (values_of w (rows_from i n)) ≡ n
values_length w zero i = refl
values_length w (suc n) i = ap suc (values_length w n (suc i))

-- a store at the first place that is still free
pub fill_store : (n : ℕ) (vs : List ℕ) (v : ℕ) → length vs < n
    → set (filled n vs) (length vs) v ≡ filled n (vs ++ (v ∷ []))
fill_store n vs v h =
    let m = n - suc (length vs) in
    let e : n - length vs ≡ suc m = omega arith in
    let e' : n - length (vs ++ (v ∷ [])) ≡ m = omega (arith, length-append vs (v ∷ [])) in
    ap (λ (n : ℕ). set (vs ++ replicate n 0) (length vs) v) e
    ∙ set-append_seam vs 0 (replicate m 0) v
    ∙ sym (append_snoc vs v (replicate m 0))
    ∙ ap (λ (n : ℕ). (vs ++ (v ∷ [])) ++ replicate n 0) (sym e')

-- the rows that are left are the next row and those after it
pub rows_next : (first count k : ℕ) → k < count
    → rows_from (first + k) (count - k) ≡ row_at (first + k) ∷ rows_from (first + (k + 1)) (count - (k + 1))
rows_next first count k h =
    let e : count - k ≡ suc (count - (k + 1)) = omega arith in
    let e' : suc (first + k) ≡ first + (k + 1) = omega arith in
    ap (λ (n : ℕ). rows_from (first + k) n) e ∙ ap (λ (i : ℕ). row_at (first + k) ∷ rows_from i (count - (k + 1))) e'

picked : (b : Bool) (x v : ℕ) (r : Refusal) → cond b (Ok x) (Err r) ≡ Ok v → v ≡ x
picked true x v r e = cc
picked false x v r e = let z : ◌≡◌ {A = ℕ} 0 1 = cc in omega arith

value_is : (w : ℕ) (r : Row) (v : ℕ) → field_read w r ≡ Ok v → v ≡ field_of w r
value_is w r v e = picked (leb (field_of w r) r.top) (field_of w r) v _ e

-- what both loops over fields keep: the rows to come decide what is found
pub record Checking (w : ℕ) (all rest : List Row) : Type 0 where
  pub to_come : check_rows w all ≡ check_rows w rest

-- once the field f of the next row has been read
module _ {w : ℕ} {all rest more : List Row} {r : Row} (c : Checking w all rest) (e : rest ≡ r ∷ more)
    {f : Result ℕ Refusal}
    (q : f ≡ field_read w r) where
  next : {g : Result ℕ Refusal} → f ≡ g → check_rows w all ≡ on_field g (check_rows w more)
  next t = c.to_come ∙ ap (check_rows w) e ∙ ap (λ (f : Result ℕ Refusal). on_field f (check_rows w more)) (sym q ∙ t)

  pub goes_on : {v : ℕ} → f ≡ Ok v → Checking w all more
  goes_on t = record { to_come = next t }

pub checked : {w : ℕ} {all rest : List Row} → Checking w all rest → rest ≡ [] → Ok tt ≡ check_rows w all
checked {w} c e = sym (c.to_come ∙ ap (check_rows w) e)

-- the rows from i on that have this number: row i and those after it, or none
module _ (number i : ℕ) where
  bears : (b : Bool) → eqb (number_at i) number ≡ b → i < row_total
      → bearing number i (row_total - i) ≡ cond b (row_at i ∷ bearing number (i + 1) (row_total - (i + 1))) []
  bears b e h =
      let n : row_total - i ≡ suc (row_total - (i + 1)) = omega arith in
      let i-is : suc i ≡ i + 1 = omega arith in
      ap (bearing number i) n
      ∙ ap₂ (λ (b : Bool) (j : ℕ). cond b (row_at i ∷ bearing number j (row_total - (i + 1))) []) e i-is

  pub bears_next : {n : ℕ} → i < row_total → n ≡ number_at i → n ≡ number
      → bearing number i (row_total - i) ≡ row_at i ∷ bearing number (i + 1) (row_total - (i + 1))
  bears_next h is e = bears true (eq-eqb (number_at i) number (sym is ∙ e)) h

  pub bears_none : {n : ℕ} → i < row_total → n ≡ number_at i → (n ≡ number → ⊥) → bearing number i (row_total - i) ≡ []
  bears_none h is e = bears false (ne_eqb (number_at i) number (λ z. e (is ∙ z))) h

  pub bears_end : row_total ≤ i → bearing number i (row_total - i) ≡ []
  bears_end h =
      let z : row_total - i ≡ 0 = omega arith in
      ap (bearing number i) z

  -- the next row's field is refused
  pub stops : {w n : ℕ} {all : List Row} {f : Result ℕ Refusal} {x : Refusal}
      → Checking w all (bearing number i (row_total - i))
      → i < row_total → n ≡ number_at i → n ≡ number
      → f ≡ field_read w (row_at i) → f ≡ Err x → Err x ≡ check_rows w all
  stops c h is e q t = sym (next c (bears_next h is e) q t)

-- what the reading loop keeps: the values so far, and that the rows to come decide
pub record Reading (w first count : ℕ) (values : List ℕ) (k : ℕ) : Type 0 where
  pub bound : k ≤ count
  pub checking : Checking w (rows_from first count) (rows_from (first + k) (count - k))
  pub so_far : values ≡ padded (values_of w (rows_from first k))

-- before the first row
pub starts : (w first count : ℕ) → Reading w first count (replicate 24 0) 0
starts w first count =
    let e : first + 0 ≡ first = omega arith in
    let e' : count - 0 ≡ count = omega arith in
    record {
      bound = omega arith;
      checking = record { to_come = ap₂ (λ (i n : ℕ). check_rows w (rows_from i n)) (sym e) (sym e') };
      so_far = refl;
    }

pub turn : {w first count : ℕ} {values : List ℕ} {k : ℕ} → Reading w first count values k → k < count → count ≤ 24
    → {f : Result ℕ Refusal} → f ≡ field_read w (row_at (first + k))
    → {v : ℕ} → f ≡ Ok v → Reading w first count (set values k v) (k + 1)
turn {w} {first} {count} {values} {k} r h small q {v} t =
    let n = values_length w k first in
    let xs = values_of w (rows_from first k) in
    record {
      bound = omega arith;
      checking = goes_on r.checking (rows_next first count k h) q t;
      so_far =
          ap₂ (λ (l : List ℕ) (i : ℕ). set l i v) r.so_far (sym n)
          ∙ fill_store 24 xs v (omega arith)
          ∙ ap (λ (x : ℕ). padded (xs ++ (x ∷ []))) (value_is w (row_at (first + k)) v (sym q ∙ t))
          ∙ ap padded (sym (values_snoc w (rows_from first k) (row_at (first + k)))
          ∙ ap (values_of w) (sym (rows_snoc k first))
          ∙ ap (λ (j : ℕ). values_of w (rows_from first j)) (sym (add-one k)));
    }

-- the values by the finding
chosen : ℕ → List Row → Finding → List ℕ
chosen w rs v = on_finding v (padded (values_of w rs)) (λ r. replicate 24 0)

pub refused : {w first count : ℕ} {values : List ℕ} {k : ℕ} → Reading w first count values k → k < count
    → {f : Result ℕ Refusal}
    → f ≡ field_read w (row_at (first + k)) → {x : Refusal} → f ≡ Err x
    → replicate 24 0 ≡ values_read w (rows_from first count)
unfolding chosen
refused {w} {first} {count} {values} {k} r h q t =
    sym (ap (chosen w (rows_from first count)) (next r.checking (rows_next first count k h) q t))

pub ends : {w first count : ℕ} {values : List ℕ} {k : ℕ} → Reading w first count values k → count ≤ k
    → values ≡ values_read w (rows_from first count)
unfolding chosen
ends {w} {first} {count} {values} {k} r h =
    let e : k ≡ count = omega (arith, r.bound) in
    let z : count - k ≡ 0 = omega arith in
    r.so_far
    ∙ ap (λ (j : ℕ). padded (values_of w (rows_from first j))) e
    ∙ ap (chosen w (rows_from first count)) (checked r.checking (ap (rows_from (first + k)) z))

-- what the composing loop keeps: the sum so far and what is still to come make the whole
pub record Composing (vs : List ℕ) (first count word k : ℕ) : Type 0 where
  pub bound : k ≤ count
  pub whole : word + compose_of (rows_from (first + k) (count - k)) (drop k vs) ≡ compose_of (rows_from first count) vs

-- once the next row's lowest bit has been read: the machine's shift loses nothing, since the
-- sum is below 2^32, and the next turn
module _ {vs : List ℕ} {first count word k : ℕ} (r : Composing vs first count word k) (h : k < count) (few : count ≤ 24)
    (long : length vs ≡ 24)
    (small : compose_of (rows_from first count) vs < 4294967296) {low : ℕ} (e : low ≡ (row_at (first + k)).low) where
  rest : ℕ
  rest = compose_of (rows_from (first + (k + 1)) (count - (k + 1))) (drop (k + 1) vs)

  split : word + (get_or vs k 0 * 2 ^ low + rest) ≡ compose_of (rows_from first count) vs
  unfolding rest
  split =
      ap (λ (n : ℕ). word + n)
      (sym
      (ap₂ compose_of (rows_next first count k h)
      (drop-cons vs k 0 (omega arith) ∙ ap (λ (j : ℕ). get_or vs k 0 ∷ drop j vs) (sym (add-one k)))
      ∙ ap (λ (l : ℕ). get_or vs k 0 * 2 ^ l + rest) (sym e)))
      ∙ r.whole

  exact : get_or vs k 0 * 2 ^ low % 4294967296 ≡ get_or vs k 0 * 2 ^ low
  exact = mod-eq_of_lt (omega (arith, split))

  pub compose_fits : word + get_or vs k 0 * 2 ^ low % 4294967296 < 4294967296
  compose_fits = rw exact (omega (arith, split))

  pub compose_turn : Composing vs first count (word + get_or vs k 0 * 2 ^ low % 4294967296) (k + 1)
  unfolding rest
  compose_turn = rw exact (record { bound = omega arith; whole = omega (arith, split) })

pub compose_ends : {vs : List ℕ} {first count word k : ℕ} → Composing vs first count word k → count ≤ k
    → word ≡ compose_of (rows_from first count) vs
compose_ends {vs} {first} {count} {word} {k} r h =
    let z : count - k ≡ 0 = omega arith in
    sym (add-zero word) ∙ ap (λ (n : ℕ). word + compose_of (rows_from (first + k) n) (drop k vs)) (sym z) ∙ r.whole

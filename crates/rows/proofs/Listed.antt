-- Values and what their rows admit: which values a state keeps, by its rows and by its named cases;
-- and which number is refused, and how.
-- Assumes nothing.
use mathlib.Core.Path.{◌≡◌, ◌∙◌, refl, sym, ap, ap₂}
use mathlib.Core.Bool.{Bool, true, false, cond, ◌&&◌}
use mathlib.Core.List.{List, [], ◌∷◌, ◌++◌}
use Prim.Native.Nat.{ℕ, zero, suc, ◌+◌, ◌*◌, ◌^◌, ◌<◌, ◌≤◌, zero-le}
use native.Mathlib.Omega.{arith}
use native.Mathlib.Nat.{zero-add, zero-div, zero-mod, add-zero, add-suc, suc-add, le_of_suc-le-suc, not-suc-le-zero}
use borrow.Author.Tests.{le-leb, lt-leb, leb-true, leb-false, ne_eqb}
use lib.Dec.{T, leb, eqb, eqb→eq}
use lib.ListN.{length, get_or, length-append, get_or-eq_default}
use lib.Seq.{get_or-append_seam, append_snoc}
use Rattle.rows.specs.Rows.{Row}
use Rattle.rows.specs.Values.{code_at, field_of, field_read, on_field, check_rows, values_of, compose_of, bit_no}
use Rattle.rows.specs.Values.{Finding}
use Rattle.std.proofs.Common.{Ok, Err}
use Rattle.rows.specs.declared.Refusal.{Refusal}
use Rattle.rows.proofs.Tests.{both_left, both_right}
use Rattle.rows.proofs.Words.{Within}

-- the value if it is listed, else 0
abbrev pub listed : ℕ → ℕ → ℕ
listed top v = cond (leb v top) v 0

abbrev pub listed_from : ℕ → List Row → List ℕ → List ℕ
listed_from k [] vs = []
listed_from k (r ∷ rs) vs = listed r.top (get_or vs k 0) ∷ listed_from (suc k) rs vs

listed_le : (top v : ℕ) → listed top v ≤ top
listed_le top v = go (leb v top) refl
  where
    go : (b : Bool) → leb v top ≡ b → cond b v 0 ≤ top
    go true e = leb-true v top e
    go false e = zero-le

listed_same : (top v : ℕ) → v ≤ top → listed top v ≡ v
listed_same top v h = ap (λ (b : Bool). cond b v 0) (le-leb v top h)

pub listed_within : (rs : List Row) (k : ℕ) (vs : List ℕ) → Within rs (listed_from k rs vs)
listed_within [] k vs = tt
listed_within (r ∷ rs) k vs = (listed_le r.top (get_or vs k 0), listed_within rs (suc k) vs)

pub listed_from_lem : (rs : List Row) (pre us post : List ℕ) → Within rs us
    → listed_from (length pre) rs (pre ++ (us ++ post)) ≡ us
listed_from_lem [] pre [] post h = refl
listed_from_lem [] pre (u ∷ us) post h = absurd h
listed_from_lem (r ∷ rs) pre [] post h = absurd h
listed_from_lem (r ∷ rs) pre (u ∷ us) post h =
    let n : length (pre ++ (u ∷ [])) ≡ suc (length pre) = omega (arith, length-append pre (u ∷ [])) in
    ap₂ ◌∷◌
    (ap (listed r.top) (get_or-append_seam pre u (us ++ post) 0) ∙ listed_same r.top u h.0)
    (ap₂ (λ (k : ℕ) (l : List ℕ). listed_from k rs l) (sym n) (sym (append_snoc pre u (us ++ post)))
    ∙ listed_from_lem rs (pre ++ (u ∷ [])) us post h.1)

-- a number is accepted exactly if each field's value is one that its row admits
within_step : (w : ℕ) (r : Row) (next : Finding) → on_field (field_read w r) next ≡ Ok tt
    → (field_of w r ≤ r.top) × (next ≡ Ok tt)
within_step w r next = go (leb (field_of w r) r.top) refl
  where
    go : (b : Bool) → leb (field_of w r) r.top ≡ b
        → on_field (cond b (Ok (field_of w r))
        (Err (code_at (cond (eqb r.top 0) 10 11) r.low))) next
        ≡ Ok tt
        → (field_of w r ≤ r.top) × (next ≡ Ok tt)
    go true e h = (leb-true _ _ e, h)
    go false e h = let z : ◌≡◌ {A = ℕ} 0 1 = cc in absurd (omega arith)

pub accepted_within : (w : ℕ) (rs : List Row) → check_rows w rs ≡ Ok tt → Within rs (values_of w rs)
accepted_within w [] e = tt
accepted_within w (r ∷ rs) e = let s = within_step w r (check_rows w rs) e in (s.0, accepted_within w rs s.1)

pub within_accepted : (w : ℕ) (rs : List Row) → Within rs (values_of w rs) → check_rows w rs ≡ Ok tt
within_accepted w [] h = refl
within_accepted w (r ∷ rs) h =
    ap (λ (b : Bool). on_field
    (cond b (Ok (field_of w r)) (Err (code_at (cond (eqb r.top 0) 10 11) r.low)))
    (check_rows w rs))
    (le-leb _ _ h.0)
    ∙ within_accepted w rs h.1

-- ---- what is refused: the lowest field whose value is not listed, with code 10 if it is
-- reserved and else 11, and its lowest bit

pub record FirstUnlisted (w : ℕ) (rs : List Row) (x : Refusal) : Type 0 where
  pub below : List Row
  pub row : Row
  pub above : List Row
  pub parts : rs ≡ below ++ (row ∷ above)
  pub listed : Within below (values_of w below)
  pub unlisted : row.top < field_of w row
  pub told : x ≡ code_at (cond (eqb row.top 0) 10 11) row.low

pub names_first : (w : ℕ) (rs : List Row) {x : Refusal} → check_rows w rs ≡ Err x → FirstUnlisted w rs x
names_first w [] e = absurd (let z : ◌≡◌ {A = ℕ} 0 1 = cc in omega arith)
names_first w (r ∷ rs) {x} e = go (leb (field_of w r) r.top) refl (names_first w rs) e
  where
    go : (b : Bool) → leb (field_of w r) r.top ≡ b → (check_rows w rs ≡ Err x → FirstUnlisted w rs x)
        → on_field (cond b (Ok (field_of w r)) (Err (code_at (cond (eqb r.top 0) 10 11) r.low)))
        (check_rows w rs)
        ≡ Err x
        → FirstUnlisted w (r ∷ rs) x
    go false t later e =
        record { below = []; row = r; above = rs; parts = refl; listed = tt; unlisted = leb-false _ _ t; told = cc }
    go true t later e =
        let q = later e in
        record {
          below = r ∷ q.below;
          row = q.row;
          above = q.above;
          parts = ap (λ (l : List Row). r ∷ l) q.parts;
          listed = (leb-true _ _ t, q.listed);
          unlisted = q.unlisted;
          told = q.told;
        }

refuses_at : (w : ℕ) (bs : List Row) (r : Row) (as' : List Row) → Within bs (values_of w bs) → r.top < field_of w r
    → check_rows w (bs ++ (r ∷ as')) ≡ Err (code_at (cond (eqb r.top 0) 10 11) r.low)
refuses_at w [] r as' h u = rw (lt-leb (field_of w r) r.top u)
refuses_at w (b ∷ bs) r as' h u = rw (le-leb (field_of w b) b.top h.0) (refuses_at w bs r as' h.1 u)

pub refuses_first : (w : ℕ) (rs : List Row) {x : Refusal} → FirstUnlisted w rs x → check_rows w rs ≡ Err x
refuses_first w rs q = rw (q.parts, q.told) (refuses_at w q.below q.row q.above q.listed q.unlisted)

-- every field of the number 0 is 0, which every row admits
zero_within : (rs : List Row) → Within rs (values_of 0 rs)
zero_within [] = tt
zero_within (r ∷ rs) =
    (rw (zero-div (2 ^ r.low), zero-mod (2 ^ r.width)) zero-le, zero_within rs)

pub zero_accepted : (rs : List Row) → check_rows 0 rs ≡ Ok tt
zero_accepted rs = within_accepted 0 rs (zero_within rs)

-- what follows the values doesn't matter
pub compose_append : (rs : List Row) (vs zs : List ℕ) → Within rs vs → compose_of rs (vs ++ zs) ≡ compose_of rs vs
compose_append [] [] zs h = refl
compose_append [] (v ∷ vs) zs h = absurd h
compose_append (r ∷ rs) [] zs h = absurd h
compose_append (r ∷ rs) (v ∷ vs) zs h = ap (λ (n : ℕ). v * 2 ^ r.low + n) (compose_append rs vs zs h.1)

-- the named cases of a field have the numbers i, i + 1, ..
abbrev pub numbered : {A : Type 0} → (A → ℕ) → ℕ → List A → Bool
numbered num i [] = true
numbered num i (a ∷ xs) = eqb (num a) i && numbered num (suc i) xs

numbered_at : {A : Type 0} (num : A → ℕ) (xs : List A) (d : A) (i : ℕ) → T (numbered num i xs) → (v : ℕ) → v < length xs
    → num (get_or xs v d) ≡ i + v
numbered_at num [] d i t v h = absurd (not-suc-le-zero h)
numbered_at num (a ∷ xs) d i t zero h =
    eqb→eq _ _ (both_left (eqb (num a) i) (numbered num (suc i) xs) t) ∙ sym (add-zero i)
numbered_at num (a ∷ xs) d i t (suc v) h =
    numbered_at num xs d (suc i) (both_right (eqb (num a) i) (numbered num (suc i) xs) t) v (le_of_suc-le-suc h)
    ∙ suc-add i v ∙ sym (add-suc i v)

-- the number of the case of v is v if v is listed, else 0
pub named : {A : Type 0} (num : A → ℕ) (xs : List A) (d : A) (top : ℕ) → T (numbered num 0 xs) → length xs ≡ suc top
    → num d ≡ 0 → (v : ℕ) → num (get_or xs v d) ≡ listed top v
named num xs d top t n z v = go (leb v top) refl
  where
    go : (b : Bool) → leb v top ≡ b → num (get_or xs v d) ≡ cond b v 0
    go true e = let h : v ≤ top = leb-true v top e in numbered_at num xs d 0 t v (omega arith) ∙ zero-add v
    go false e = let h : top < v = leb-false v top e in ap num (get_or-eq_default xs d (omega arith)) ∙ z

pub bit_listed : (v : ℕ) → bit_no (eqb v 1) ≡ listed 1 v
bit_listed zero = refl
bit_listed (suc zero) = refl
bit_listed (suc (suc n)) =
    ap bit_no (ne_eqb (suc (suc n)) 1 (λ e. omega arith))
    ∙ sym (ap (λ (b : Bool). cond b (suc (suc n)) 0) (lt-leb (suc (suc n)) 1 (omega arith)))

pub bit_back : (b : Bool) → eqb (bit_no b) 1 ≡ b
bit_back true = refl
bit_back false = refl

pub reserved_listed : (v : ℕ) → 0 ≡ listed 0 v
reserved_listed zero = refl
reserved_listed (suc n) = sym (ap (λ (b : Bool). cond b (suc n) 0) (lt-leb (suc n) 0 (omega arith)))

-- The table's check in the code's order, and what an accepted table tells:
-- where its entries are, and that each is good.
-- Assumes nothing.
use Prim.Native.Nat.{ℕ, zero, suc, ◌+◌, ◌≤◌, ◌<◌}
use native.Mathlib.Omega.{arith}
use native.Mathlib.Nat.{add-zero, eq-or-lt_of_le}
use mathlib.Core.Path.{◌≡◌, refl, sym, ap, ◌∙◌}
use mathlib.Core.Bool.{true, false, not}
use mathlib.Core.List.{List}
use mathlib.Core.Logic.{⊎_elim}
use Rattle.std.specs.Prelude.{Result, Ok, Err}
use lib.Dec.{eqb, leb}
use lib.ListN.{length, get_or}
use borrow.Author.Tests.{lt-leb, le-leb, leb-true}
use Rattle.history.specs.declared.Answer.{Answer}
use Rattle.history.specs.Verdict.{Verdict, done, then, refusal, ◌unless◌⨾◌, unnamed, checked}
use Rattle.history.proofs.OutputLaws.{given_done}
use Rattle.history.specs.Form.{is_whole}
use Rattle.history.specs.Table.{Object, Table, version_good, catalogue_good}
use Rattle.history.specs.Calls.{table_call}
use Rattle.history.proofs.VerdictLaws.{held, used}
use Rattle.heads.specs.Heads.{count_in, objects_place}
use Rattle.heads.proofs.Forms.{table_inside}
use Rattle.heads.proofs.Places.{objects_place_lem}
use Rattle.heads.proofs.Chains.{table_with, table_chain}
use Rattle.tables.specs.Places.{place_of, check_object_at, objects_in}
use Rattle.tables.proofs.AnswerLaws.{checked_then}
use Rattle.tables.proofs.EntryLaws.{GoodEntry, good_entry}
use Rattle.tables.proofs.PlaceLaws.{objects_below, repeats_below, entries_check, length_below, place_next}
use Rattle.tables.proofs.RoundLaws.{entries_are}

module _ (b : List ℕ) where
  -- 1, 2, 3, 4, then the entries
  abbrev in_order : Verdict Table
  in_order =
      refusal 1 unless is_whole 5 b ⨾
      refusal 2 unless version_good (get_or b 4 0) ⨾
      refusal 3 unless catalogue_good (get_or b 5 0) (get_or b 6 0) ⨾
      refusal 4 unless leb (count_in b) 1024 ⨾
      then (objects_in b (count_in b)) λ os.
      done (table_with b os)

  in_order_lem : table_call b ≡ in_order
  unfolding table_call objects_in
  in_order_lem = table_chain b

  -- ---- each answer from the tests that lead there

  pub table_1 : is_whole 5 b ≡ false → Err (unnamed 1 0) ≡ checked (table_call b)
  table_1 h = rw (in_order_lem, h)

  module _ (w : is_whole 5 b ≡ true) where
    pub table_2 : version_good (get_or b 4 0) ≡ false → Err (unnamed 2 0) ≡ checked (table_call b)
    table_2 h = rw (in_order_lem, w, h)

    module _ (v : version_good (get_or b 4 0) ≡ true) where
      pub table_3 : catalogue_good (get_or b 5 0) (get_or b 6 0) ≡ false → Err (unnamed 3 0) ≡ checked (table_call b)
      table_3 h = rw (in_order_lem, w, v, h)

      module _ (c : catalogue_good (get_or b 5 0) (get_or b 6 0) ≡ true) (n : ℕ) (e : n ≡ count_in b) where
        pub table_4 : 1024 < n → Err (unnamed 4 0) ≡ checked (table_call b)
        table_4 h =
            let l : leb (count_in b) 1024 ≡ false = lt-leb (count_in b) 1024 (omega arith) in
            rw (in_order_lem, w, v, c, l)

        pub table_rest : n ≤ 1024 → (r : Result (Unit {0}) Answer) → r ≡ checked (objects_in b n)
            → r ≡ checked (table_call b)
        table_rest h r f =
            let l : leb (count_in b) 1024 ≡ true = le-leb (count_in b) 1024 (omega arith) in
            f ∙ ap (λ (m : ℕ). checked (objects_in b m)) e
            ∙ sym (checked_then (objects_in b (count_in b)) (table_with b))
            ∙ rw (in_order_lem, w, v, c, l)

-- ---- an accepted table

-- in a run of entries that is accepted each is good, and the objects are those at their places
record GoodRun (b : List ℕ) (n k : ℕ) (os : List Object) : Type 0 where
  each : (j : ℕ) → k ≤ j → j < k + n → GoodEntry b (place_of b j)
  objects : os ≡ objects_below b (k + n)

good_run : (b : List ℕ) (n k : ℕ) {os : List Object} → entries_check b n k ≡ done os → GoodRun b n k os
unfolding entries_check
good_run b zero k {os} h =
    let p = held (eqb (place_of b k) (length b)) _ _ h in
    record {
      each = λ j l m. absurd (omega arith);
      objects = let e : os ≡ objects_below b k = cc p.1 in e ∙ ap (objects_below b) (sym (add-zero k));
    }
good_run b (suc n) k h =
    let p = used (check_object_at b (place_of b k) k) _ h in
    let q = held (not (repeats_below b k k)) _ _ p.2 in
    let r = good_run b n (suc k) q.1 in
    let e : k + suc n ≡ suc k + n = omega arith in
    record {
      each =
          λ j l m. ⊎_elim (λ e. rw (← e) (good_entry b (place_of b k) k p.1)) (λ lt. r.each j lt (omega arith))
          (eq-or-lt_of_le l);
      objects = r.objects ∙ ap (objects_below b) (sym e);
    }

-- what an accepted table tells
pub record Accepted (b : List ℕ) (t : Table) : Type 0 where
  pub long : objects_place ≤ length b
  pub version : t.version ≡ get_or b 4 0
  pub x : t.x ≡ get_or b 5 0
  pub y : t.y ≡ get_or b 6 0
  pub few : count_in b ≤ 1024
  pub objects : t.objects ≡ objects_below b (count_in b)
  pub count : length t.objects ≡ count_in b
  pub each : (k : ℕ) → k < count_in b → GoodEntry b (place_of b k)

pub accepted : (b : List ℕ) {t : Table} → table_call b ≡ done t → Accepted b t
accepted b {t} e =
    let p₁ = held (is_whole 5 b) _ _ (sym (in_order_lem b) ∙ e) in
    let p₂ = held (version_good (get_or b 4 0)) _ _ p₁.1 in
    let p₃ = held (catalogue_good (get_or b 5 0) (get_or b 6 0)) _ _ p₂.1 in
    let p₄ = held (leb (count_in b) 1024) _ _ p₃.1 in
    let p₅ = used (objects_in b (count_in b)) _ p₄.1 in
    let t-is : t ≡ table_with b p₅.0 = cc p₅.2 in
    let l : objects_place ≤ length b = table_inside b p₁.0 in
    let r = good_run b (count_in b) 0 (sym (entries_are b (count_in b) l) ∙ p₅.1) in
    let n : 0 + count_in b ≡ count_in b = omega arith in
    rw t-is (record {
      long = l;
      version = refl;
      x = refl;
      y = refl;
      few = leb-true _ _ p₄.0;
      objects = r.objects ∙ ap (objects_below b) n;
      count = ap length (r.objects ∙ ap (objects_below b) n) ∙ length_below b (count_in b);
      each = λ k h. r.each k (omega arith) (omega arith);
    })

-- ---- a check that passes tells an accepted table

pub table_of : (b : List ℕ) → Ok tt ≡ checked (table_call b) → (t : Table) × (table_call b ≡ done t)
table_of b z = let t = given_done (table_call b) (λ t. tt) z in (t.0, t.1)

-- an entry of an accepted table, at its place
pub entry_at : (b : List ℕ) → Ok tt ≡ checked (table_call b) → (k at : ℕ) → at ≡ place_of b k → k < count_in b
    → GoodEntry b at
entry_at b z k at e l = rw e ((accepted b (table_of b z).1).each k l)

-- a cursor on its way through the first n entries of an accepted table: at entry k, or after the last
pub record CursorAt (b : List ℕ) (n k at : ℕ) : Type 0 where
  pub good : Ok tt ≡ checked (table_call b)
  pub few : n ≤ count_in b
  pub bound : k ≤ n
  pub place : at ≡ place_of b k
  pub inside : at ≤ length b

pub cursor_first : (b : List ℕ) (n at : ℕ) → Ok tt ≡ checked (table_call b) → n ≤ count_in b → at ≡ objects_place
    → CursorAt b n 0 at
unfolding place_of
cursor_first b n at z h e =
    record {
      good = z;
      few = h;
      bound = omega arith;
      place = e;
      inside = omega (arith, (accepted b (table_of b z).1).long);
    }

module _ {b : List ℕ} {n k at : ℕ} (s : CursorAt b n k at) where
  pub cursor_last : n ≤ k → at ≡ place_of b n
  cursor_last h = let e : k ≡ n = omega arith in s.place ∙ ap (place_of b) e

  module _ (h : k < n) where
    entry_there : GoodEntry b at
    entry_there = entry_at b s.good k at s.place (omega arith)

    pub two_there : at + 2 ≤ length b
    two_there = omega (arith, entry_there)

    pub type_there : at < length b
    type_there = omega (arith, entry_there)

    pub cursor_next : (size : ℕ) → size ≡ 2 + get_or b (at + 1) 0 → CursorAt b n (k + 1) (at + size)
    cursor_next size e =
        record {
          good = s.good;
          few = s.few;
          bound = omega arith;
          place = place_next b k at size s.place e;
          inside = omega (arith, entry_there);
        }

-- what is known once a table's check passed
pub passed : (b : List ℕ) {r : Result (Unit {0}) Answer} {u : Unit {0}} → r ≡ checked (table_call b) → r ≡ Ok u
    → Ok tt ≡ checked (table_call b)
passed b e f = sym f ∙ e

module _ (b : List ℕ) (z : Ok tt ≡ checked (table_call b)) where
  pub head_given : objects_place ≤ length b
  head_given = (accepted b (table_of b z).1).long

  -- version, X and Y are inside
  pub inside_given : (i : ℕ) → i ≤ 6 → i < length b
  inside_given i h = omega (arith, objects_place_lem, head_given)

  pub count_given : (n : ℕ) → n ≡ count_in b → n ≤ 1024
  count_given n e = omega (arith, (accepted b (table_of b z).1).few)

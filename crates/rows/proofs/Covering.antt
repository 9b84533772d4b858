-- The covering rule and the range rule: one test, computed over all rows, and what it says of each layout and each row.
-- Each bit of an element is in exactly one row of its layout.
-- Assumes nothing.
use mathlib.Core.Path.{◌≡◌, ◌∙◌, refl, sym, ap, ap₂}
use mathlib.Core.Bool.{Bool, true, false, cond, ◌&&◌}
use mathlib.Core.List.{List, [], ◌∷◌}
use Prim.Native.Nat.{ℕ, zero, suc, ◌+◌, ◌*◌, ◌<◌, ◌≤◌}
use native.Mathlib.Omega.{arith}
use native.Mathlib.Nat.{le_of_suc-le-suc, not-suc-le-zero}
use borrow.Author.Tests.{le-leb, lt-leb, ltb-true, ltb-false, eqb-true, eqb-false}
use lib.Arith.{lt_of_le-ne}
use lib.Dec.{T, leb, ltb, eqb, leb→le, eqb→eq}
use lib.ListN.{length, get_or}
use Rattle.rows.specs.Rows.{Row, cells, layout, layouts, layout_at, row_total, number_at, row_at, rows_from}
use Rattle.rows.specs.Covering.{all_from, tiles, layout_rows, layout_good, covers, holding}
use Rattle.rows.specs.declared.Layout.{Layout}
use Rattle.rows.proofs.Tests.{both_left, both_right}
use Rattle.rows.proofs.Rows.{Good}
use Rattle.rows.proofs.Words.{Tiled, tiled}

-- all rows pass the test
pub covered : T (covers 0 layouts)
unfolding cells layouts
covered = tt

at_place : (ls : List Layout) (at : ℕ) → T (covers at ls) → (i : ℕ) → i < length ls
    → T (layout_good (get_or ls i (layout 0 0 0 0 false)))
at_place [] at t i h = absurd (not-suc-le-zero h)
at_place (l ∷ ls) at t zero h =
    both_right (eqb l.first at) (layout_good l)
    (both_left (eqb l.first at && layout_good l) (covers (at + l.count) ls) t)
at_place (l ∷ ls) at t (suc i) h =
    at_place ls (at + l.count) (both_right (eqb l.first at && layout_good l) (covers (at + l.count) ls) t) i
    (le_of_suc-le-suc h)

pub record Covered (l : Layout) : Type 0 where
  pub inside : l.first + l.count ≤ row_total
  pub few : l.count ≤ 24
  pub narrow : l.bytes ≤ 4
  pub bears : T (all_from (λ (i : ℕ). eqb (number_at i) l.number) l.first l.count)
  pub tiling : T (tiles 0 (layout_rows l) (8 * l.bytes))

good : (l : Layout) → T (layout_good l) → Covered l
good l t =
    let fits = leb (l.first + l.count) row_total && leb l.count 24 in
    let own = leb l.bytes 4 && all_from (λ (i : ℕ). eqb (number_at i) l.number) l.first l.count in
    let whole = tiles 0 (layout_rows l) (8 * l.bytes) in
    let a = both_left fits (own && whole) t in
    let b = both_left own whole (both_right fits (own && whole) t) in
    record {
      inside = leb→le _ _ (both_left (leb (l.first + l.count) row_total) (leb l.count 24) a);
      few = leb→le _ _ (both_right (leb (l.first + l.count) row_total) (leb l.count 24) a);
      narrow = leb→le _ _ (both_left (leb l.bytes 4) _ b);
      bears = both_right (leb l.bytes 4) _ b;
      tiling = both_right own whole (both_right fits (own && whole) t);
    }

pub layout_covered : (i : ℕ) → i < length layouts → Covered (layout_at i)
layout_covered i h = good (layout_at i) (at_place layouts 0 covered i h)

-- ---- the range rule for each row, since each is a row of some layout

row_of : (n j at end : ℕ) → T (tiles at (rows_from j n) end) → (i : ℕ) → j ≤ i → i < j + n → Good (row_at i)
row_of zero j at end t i l h = absurd (omega arith)
row_of (suc n) j at end t i l h = go (eqb i j) refl (row_of n (suc j) (at + (row_at j).width) end g.rest i)
  where
    g : Tiled at (row_at j) (rows_from (suc j) n) end
    g = tiled at (row_at j) (rows_from (suc j) n) end t

    go : (b : Bool) → eqb i j ≡ b → (suc j ≤ i → i < suc j + n → Good (row_at i)) → Good (row_at i)
    go true e later = rw (eqb-true i j e) g.is_good
    go false e later =
        let apart : i ≡ j → ⊥ = eqb-false i j e in later (lt_of_le-ne l (λ q. apart (sym q))) (omega arith)

row_in : (ls : List Layout) (at : ℕ) → T (covers at ls) → (i : ℕ) → at ≤ i → i < row_total → Good (row_at i)
row_in [] at t i l h = let e : at ≡ row_total = eqb→eq at row_total t in absurd (omega arith)
row_in (x ∷ xs) at t i l h =
    go (ltb i (at + x.count)) refl
    (λ m. row_in xs (at + x.count) (both_right here (covers (at + x.count) xs) t) i m h)
  where
    here : Bool
    here = eqb x.first at && layout_good x

    own : T here
    own = both_left here (covers (at + x.count) xs) t

    starts : x.first ≡ at
    starts = eqb→eq x.first at (both_left (eqb x.first at) (layout_good x) own)

    go : (b : Bool) → ltb i (at + x.count) ≡ b → (at + x.count ≤ i → Good (row_at i)) → Good (row_at i)
    go true e later =
        row_of x.count x.first 0 (8 * x.bytes)
        (good x (both_right (eqb x.first at) (layout_good x) own)).tiling i
        (rw starts l) (rw starts (ltb-true i (at + x.count) e))
    go false e later = later (ltb-false i (at + x.count) e)

pub row_good_lem : (i : ℕ) → i < row_total → Good (row_at i)
row_good_lem i h = row_in layouts 0 covered i (omega arith) h

-- a row's numbers as they were read are below 32, so the machine can shift by them
module _ (i : ℕ) (h : i < row_total) where
  pub low_small : {l : ℕ} → l ≡ (row_at i).low → l < 32
  low_small e = rw e (let g = row_good_lem i h in omega arith)

  pub width_small : {d : ℕ} → d ≡ (row_at i).width → d < 32
  width_small e = rw e (row_good_lem i h).small

-- ---- each bit once

none_below : (rs : List Row) (at end b : ℕ) → T (tiles at rs end) → b < at → holding b rs ≡ 0
none_below [] at end b t h = refl
none_below (r ∷ rs) at end b t h =
    let g = tiled at r rs end t in
    let s = g.starts in
    let e : leb r.low b ≡ false = lt-leb r.low b (omega arith) in
    ap₂ (λ (x : Bool) (n : ℕ). cond (x && ltb b (r.low + r.width)) 1 0 + n) e
    (none_below rs (at + r.width) end b g.rest (omega arith))

once : (rs : List Row) (at end b : ℕ) → T (tiles at rs end) → at ≤ b → b < end → holding b rs ≡ 1
once [] at end b t l h = let e : at ≡ end = eqb→eq at end t in absurd (omega arith)
once (r ∷ rs) at end b t l h =
    go (ltb b (r.low + r.width)) refl (λ i. once rs (at + r.width) end b (tiled at r rs end t).rest i h)
  where
    g : Tiled at r rs end
    g = tiled at r rs end t

    here : leb r.low b ≡ true
    here = let s = g.starts in le-leb r.low b (omega arith)

    go : (c : Bool) → ltb b (r.low + r.width) ≡ c → (at + r.width ≤ b → holding b rs ≡ 1) → holding b (r ∷ rs) ≡ 1
    go true e next =
        let s = g.starts in
        let i = ltb-true b (r.low + r.width) e in
        ap₂ (λ (x y : Bool). cond (x && y) 1 0 + holding b rs) here e
        ∙ ap (λ (n : ℕ). 1 + n) (none_below rs (at + r.width) end b g.rest (omega arith))
    go false e next =
        let s = g.starts in
        let i = ltb-false b (r.low + r.width) e in
        ap₂ (λ (x y : Bool). cond (x && y) 1 0 + holding b rs) here e
        ∙ ap (λ (n : ℕ). 0 + n) (next (omega arith))

pub held_once : (l : Layout) → Covered l → (b : ℕ) → b < 8 * l.bytes → holding b (layout_rows l) ≡ 1
held_once l g b h = once (layout_rows l) 0 (8 * l.bytes) b g.tiling (omega arith) h

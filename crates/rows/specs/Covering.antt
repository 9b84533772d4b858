-- The rows cover each element's bits once, without gap or overlap, and admit only values that their fields can hold.
-- Both as one test, computed over all rows.
use Rattle.std.specs.Prelude.{Bool, true, cond, ◌&&◌, List, [], ◌∷◌, ℕ, zero, suc, ◌+◌, ◌*◌, ◌^◌, leb, ltb, eqb}
use Rattle.rows.specs.Rows.{Row, rows_from, row_total, number_at}
use Rattle.rows.specs.declared.Layout.{Layout}

-- a row's field is not empty, is within 32 bits, and can hold the values that it admits
abbrev pub row_good : Row → Bool
row_good r = (ltb 0 r.width && ltb r.width 32) && (leb (r.low + r.width) 32 && ltb r.top (2 ^ r.width))

-- the rows cover the bits from `at` to `end` once and in order, and each row is good
abbrev pub tiles : ℕ → List Row → ℕ → Bool
tiles at [] end = eqb at end
tiles at (r ∷ rs) end = (eqb r.low at && row_good r) && tiles (at + r.width) rs end

-- the test passes at the n numbers from i on
abbrev pub all_from : (ℕ → Bool) → ℕ → ℕ → Bool
all_from test i zero = true
all_from test i (suc n) = test i && all_from test (suc i) n

-- the rows of a layout
abbrev pub layout_rows : Layout → List Row
layout_rows l = rows_from l.first l.count

-- a layout has at most 24 rows and 4 bytes; its rows have its number and cover its bits
abbrev pub layout_good : Layout → Bool
layout_good l =
    (leb (l.first + l.count) row_total && leb l.count 24) &&
    ((leb l.bytes 4 && all_from (λ (i : ℕ). eqb (number_at i) l.number) l.first l.count) &&
    tiles 0 (layout_rows l) (8 * l.bytes))

-- the layouts' rows follow each other from row `at` on and are all rows
abbrev pub covers : ℕ → List Layout → Bool
covers at [] = eqb at row_total
covers at (l ∷ ls) = (eqb l.first at && layout_good l) && covers (at + l.count) ls

-- how many of the rows hold the bit b
abbrev pub holding : ℕ → List Row → ℕ
holding b [] = 0
holding b (r ∷ rs) = cond (leb r.low b && ltb b (r.low + r.width)) 1 0 + holding b rs

-- Every row of every layout in one constant: 131 rows of layout, lowest bit, width and highest admitted value (0:
-- reserved).
-- Then the layouts: number, first row, number of rows, width in bytes, and whether bit 0 is DAT.
-- Written by catalogue/write.py.
use Rattle.std.specs.Prelude.{Bool, true, false, List, [], ◌∷◌, ℕ, zero, suc, ◌+◌, ◌*◌, get_or}
use Rattle.rows.specs.declared.Layout.{Layout}

abbrev pub row_total : ℕ
row_total = 131

unfoldable pub cells : List ℕ
cells =
    1 ∷ 0 ∷ 1 ∷ 1 ∷
    1 ∷ 1 ∷ 3 ∷ 3 ∷
    1 ∷ 4 ∷ 4 ∷ 12 ∷
    1 ∷ 8 ∷ 1 ∷ 1 ∷
    1 ∷ 9 ∷ 1 ∷ 1 ∷
    1 ∷ 10 ∷ 1 ∷ 1 ∷
    1 ∷ 11 ∷ 1 ∷ 1 ∷
    1 ∷ 12 ∷ 1 ∷ 1 ∷
    1 ∷ 13 ∷ 1 ∷ 1 ∷
    1 ∷ 14 ∷ 1 ∷ 1 ∷
    1 ∷ 15 ∷ 1 ∷ 1 ∷
    1 ∷ 16 ∷ 1 ∷ 1 ∷
    1 ∷ 17 ∷ 1 ∷ 1 ∷
    1 ∷ 18 ∷ 1 ∷ 1 ∷
    1 ∷ 19 ∷ 1 ∷ 1 ∷
    1 ∷ 20 ∷ 1 ∷ 1 ∷
    1 ∷ 21 ∷ 1 ∷ 1 ∷
    1 ∷ 22 ∷ 1 ∷ 1 ∷
    1 ∷ 23 ∷ 1 ∷ 1 ∷
    1 ∷ 24 ∷ 3 ∷ 7 ∷
    1 ∷ 27 ∷ 1 ∷ 1 ∷
    1 ∷ 28 ∷ 1 ∷ 1 ∷
    1 ∷ 29 ∷ 2 ∷ 3 ∷
    1 ∷ 31 ∷ 1 ∷ 0 ∷
    2 ∷ 0 ∷ 1 ∷ 1 ∷
    2 ∷ 1 ∷ 2 ∷ 3 ∷
    2 ∷ 3 ∷ 5 ∷ 0 ∷
    3 ∷ 0 ∷ 1 ∷ 1 ∷
    3 ∷ 1 ∷ 2 ∷ 2 ∷
    3 ∷ 3 ∷ 1 ∷ 1 ∷
    3 ∷ 4 ∷ 4 ∷ 0 ∷
    4 ∷ 0 ∷ 1 ∷ 1 ∷
    4 ∷ 1 ∷ 1 ∷ 1 ∷
    4 ∷ 2 ∷ 1 ∷ 1 ∷
    4 ∷ 3 ∷ 1 ∷ 1 ∷
    4 ∷ 4 ∷ 2 ∷ 3 ∷
    4 ∷ 6 ∷ 2 ∷ 2 ∷
    4 ∷ 8 ∷ 1 ∷ 1 ∷
    4 ∷ 9 ∷ 1 ∷ 1 ∷
    4 ∷ 10 ∷ 3 ∷ 4 ∷
    4 ∷ 13 ∷ 1 ∷ 1 ∷
    4 ∷ 14 ∷ 2 ∷ 0 ∷
    5 ∷ 0 ∷ 1 ∷ 1 ∷
    5 ∷ 1 ∷ 1 ∷ 1 ∷
    5 ∷ 2 ∷ 1 ∷ 0 ∷
    5 ∷ 3 ∷ 1 ∷ 1 ∷
    5 ∷ 4 ∷ 2 ∷ 1 ∷
    5 ∷ 6 ∷ 2 ∷ 0 ∷
    5 ∷ 8 ∷ 1 ∷ 1 ∷
    5 ∷ 9 ∷ 1 ∷ 1 ∷
    5 ∷ 10 ∷ 3 ∷ 4 ∷
    5 ∷ 13 ∷ 1 ∷ 1 ∷
    5 ∷ 14 ∷ 2 ∷ 0 ∷
    6 ∷ 0 ∷ 1 ∷ 1 ∷
    6 ∷ 1 ∷ 1 ∷ 1 ∷
    6 ∷ 2 ∷ 1 ∷ 1 ∷
    6 ∷ 3 ∷ 1 ∷ 1 ∷
    6 ∷ 4 ∷ 2 ∷ 3 ∷
    6 ∷ 6 ∷ 2 ∷ 2 ∷
    6 ∷ 8 ∷ 2 ∷ 2 ∷
    6 ∷ 10 ∷ 2 ∷ 2 ∷
    6 ∷ 12 ∷ 1 ∷ 1 ∷
    6 ∷ 13 ∷ 1 ∷ 1 ∷
    6 ∷ 14 ∷ 1 ∷ 1 ∷
    6 ∷ 15 ∷ 1 ∷ 0 ∷
    7 ∷ 0 ∷ 1 ∷ 1 ∷
    7 ∷ 1 ∷ 1 ∷ 1 ∷
    7 ∷ 2 ∷ 1 ∷ 1 ∷
    7 ∷ 3 ∷ 1 ∷ 1 ∷
    7 ∷ 4 ∷ 1 ∷ 1 ∷
    7 ∷ 5 ∷ 1 ∷ 1 ∷
    7 ∷ 6 ∷ 2 ∷ 0 ∷
    8 ∷ 0 ∷ 1 ∷ 1 ∷
    8 ∷ 1 ∷ 1 ∷ 1 ∷
    8 ∷ 2 ∷ 1 ∷ 1 ∷
    8 ∷ 3 ∷ 1 ∷ 1 ∷
    8 ∷ 4 ∷ 2 ∷ 3 ∷
    8 ∷ 6 ∷ 2 ∷ 2 ∷
    8 ∷ 8 ∷ 2 ∷ 2 ∷
    8 ∷ 10 ∷ 2 ∷ 2 ∷
    8 ∷ 12 ∷ 3 ∷ 4 ∷
    8 ∷ 15 ∷ 1 ∷ 1 ∷
    8 ∷ 16 ∷ 2 ∷ 3 ∷
    8 ∷ 18 ∷ 1 ∷ 1 ∷
    8 ∷ 19 ∷ 5 ∷ 0 ∷
    9 ∷ 0 ∷ 1 ∷ 1 ∷
    9 ∷ 1 ∷ 1 ∷ 1 ∷
    9 ∷ 2 ∷ 1 ∷ 1 ∷
    9 ∷ 3 ∷ 1 ∷ 1 ∷
    9 ∷ 4 ∷ 4 ∷ 0 ∷
    22 ∷ 0 ∷ 1 ∷ 1 ∷
    22 ∷ 1 ∷ 1 ∷ 1 ∷
    22 ∷ 2 ∷ 1 ∷ 1 ∷
    22 ∷ 3 ∷ 1 ∷ 1 ∷
    22 ∷ 4 ∷ 2 ∷ 3 ∷
    22 ∷ 6 ∷ 1 ∷ 1 ∷
    22 ∷ 7 ∷ 2 ∷ 2 ∷
    22 ∷ 9 ∷ 7 ∷ 0 ∷
    23 ∷ 0 ∷ 1 ∷ 1 ∷
    23 ∷ 1 ∷ 1 ∷ 1 ∷
    23 ∷ 2 ∷ 3 ∷ 6 ∷
    23 ∷ 5 ∷ 1 ∷ 1 ∷
    23 ∷ 6 ∷ 3 ∷ 6 ∷
    23 ∷ 9 ∷ 1 ∷ 1 ∷
    23 ∷ 10 ∷ 1 ∷ 1 ∷
    23 ∷ 11 ∷ 1 ∷ 1 ∷
    23 ∷ 12 ∷ 4 ∷ 0 ∷
    31 ∷ 0 ∷ 1 ∷ 1 ∷
    31 ∷ 1 ∷ 2 ∷ 3 ∷
    31 ∷ 3 ∷ 1 ∷ 1 ∷
    31 ∷ 4 ∷ 4 ∷ 12 ∷
    31 ∷ 8 ∷ 1 ∷ 1 ∷
    31 ∷ 9 ∷ 1 ∷ 1 ∷
    31 ∷ 10 ∷ 1 ∷ 1 ∷
    31 ∷ 11 ∷ 1 ∷ 1 ∷
    31 ∷ 12 ∷ 1 ∷ 1 ∷
    31 ∷ 13 ∷ 1 ∷ 1 ∷
    31 ∷ 14 ∷ 1 ∷ 1 ∷
    31 ∷ 15 ∷ 1 ∷ 1 ∷
    31 ∷ 16 ∷ 1 ∷ 1 ∷
    31 ∷ 17 ∷ 1 ∷ 1 ∷
    31 ∷ 18 ∷ 1 ∷ 1 ∷
    31 ∷ 19 ∷ 1 ∷ 1 ∷
    31 ∷ 20 ∷ 1 ∷ 1 ∷
    31 ∷ 21 ∷ 1 ∷ 1 ∷
    31 ∷ 22 ∷ 1 ∷ 1 ∷
    31 ∷ 23 ∷ 1 ∷ 1 ∷
    31 ∷ 24 ∷ 3 ∷ 7 ∷
    31 ∷ 27 ∷ 1 ∷ 1 ∷
    31 ∷ 28 ∷ 2 ∷ 3 ∷
    31 ∷ 30 ∷ 2 ∷ 2 ∷
    []

abbrev pub layout : ℕ → ℕ → ℕ → ℕ → Bool → Layout
layout number first count bytes dat = record { number = number; first = first; count = count; bytes = bytes; dat = dat }

unfoldable pub layouts : List Layout
layouts =
    layout 1 0 24 4 true ∷
    layout 2 24 3 1 true ∷
    layout 3 27 4 1 true ∷
    layout 4 31 11 2 true ∷
    layout 5 42 11 2 true ∷
    layout 6 53 12 2 true ∷
    layout 7 65 7 1 true ∷
    layout 8 72 13 3 true ∷
    layout 9 85 5 1 true ∷
    layout 22 90 8 2 false ∷
    layout 23 98 9 2 true ∷
    layout 31 107 24 4 true ∷
    []

-- the layout at a place; past the end, one without rows
abbrev pub layout_at : ℕ → Layout
layout_at i = get_or layouts i (layout 0 0 0 0 false)

-- a row: a field's lowest bit, its width and its highest admitted value
pub record Row : Type 0 where
  pub low : ℕ
  pub width : ℕ
  pub top : ℕ

-- the number at a place: four for each row
abbrev pub cell_at : ℕ → ℕ
cell_at place = get_or cells place 0

-- row i
abbrev pub row_at : ℕ → Row
row_at i = record { low = cell_at (4 * i + 1); width = cell_at (4 * i + 2); top = cell_at (4 * i + 3) }

-- the number of the layout that row i belongs to
abbrev pub number_at : ℕ → ℕ
number_at i = cell_at (4 * i)

-- n rows from row i on
abbrev pub rows_from : ℕ → ℕ → List Row
rows_from i zero = []
rows_from i (suc n) = row_at i ∷ rows_from (suc i) n

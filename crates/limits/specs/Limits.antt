-- Document 01's sentences 2, 3, 4, 6 and 7 on what several calls take: the side, the hue count, the cell size, the counts of modules and cells, the cell coordinates. Definitions only.
use Rattle.std.specs.Prelude.{Bool, not, ◌||◌, List, ℕ, ltb, eqb, length, get_or}
use Rattle.loops.specs.Loops.{any_up}

-- 2: "The side is 0 or above 1,024."
unfoldable pub bad_side : ℕ → Bool
bad_side side = ltb side 1 || ltb 1024 side

-- 3: "The hue count is not 1, 2, 4, 8 or 16."
unfoldable pub bad_hues : ℕ → Bool
bad_hues k = not (eqb k 1 || (eqb k 2 || (eqb k 4 || (eqb k 8 || eqb k 16))))

-- 4: "The chroma cell size is 0 or above 16."
unfoldable pub bad_cell_size : ℕ → Bool
bad_cell_size size = ltb size 1 || ltb 16 size

-- 6, of m modules, g of them grid modules: "more than 1,048,576 modules", "more grid modules than modules"
unfoldable pub bad_modules : ℕ → ℕ → Bool
bad_modules m g = ltb 1048576 m || ltb m g

-- 6, of c cells too: "more than 1,048,576 modules or cells", each count by itself
unfoldable pub bad_counts : ℕ → ℕ → ℕ → Bool
bad_counts m g c = bad_modules m g || ltb 1048576 c

-- 7, of a cell: "a cell coordinate is above 1,023"
unfoldable pub bad_cell : ℕ → ℕ → Bool
bad_cell cx cy = ltb 1023 cx || ltb 1023 cy

abbrev pub bad_cell_at : List ℕ → List ℕ → ℕ → Bool
bad_cell_at cxs cys i = bad_cell (get_or cxs i 0) (get_or cys i 0)

-- 7, of all listed cells
abbrev pub bad_cells : List ℕ → List ℕ → Bool
bad_cells cxs cys = any_up 0 (length cxs) (bad_cell_at cxs cys)

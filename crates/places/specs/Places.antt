-- Positions of modules, as sentence 7 of document 01 limits them, and their squares in a grid of squares that the ring is part of. Definitions only.
use Rattle.std.specs.Prelude.{Bool, cond, ◌||◌, List, ℕ, ◌+◌, ◌-◌, ◌*◌, ltb, length, get_or, ℤ, pos, negsuc, neg_ℤ}
use Rattle.std.specs.Int.Signed.{lt_z, le_z}
use Rattle.loops.specs.Loops.{any_up}

-- v is not one of -k .. side + k - 1: k is 0 for the grid, and 6 for the ring around it
unfoldable pub outside : ℕ → ℕ → ℤ → Bool
outside side k v = lt_z v (neg_ℤ (pos k)) || le_z (pos (side + k)) v

-- (x, y) is outside the grid
abbrev pub off_grid : ℕ → ℤ → ℤ → Bool
off_grid side x y = outside side 0 x || outside side 0 y

-- module i at (x, y) is outside the grid, or, as one of the ring modules, which are listed after the grid modules, outside the ring
unfoldable pub misplaced : ℕ → ℕ → ℕ → ℤ → ℤ → Bool
misplaced side grid i x y = cond (ltb i grid) (off_grid side x y) (outside side 6 x || outside side 6 y)

abbrev pub misplaced_at : ℕ → ℕ → List ℤ → List ℤ → ℕ → Bool
misplaced_at side grid xs ys i = misplaced side grid i (get_or xs i (pos 0)) (get_or ys i (pos 0))

-- sentence 7, of modules: some module is misplaced
abbrev pub bad_places : ℕ → ℕ → List ℤ → List ℤ → Bool
bad_places side grid xs ys = any_up 0 (length xs) (misplaced_at side grid xs ys)

-- v + 6 where v is at least -6, and else a number past the end of every ring
unfoldable pub offset : ℤ → ℕ
offset (pos n) = n + 6
offset (negsuc n) = cond (ltb n 6) (5 - n) 4294967295

-- the place of (x, y), each from -6 to side + 5, in a grid of side + 12 by side + 12, row by row
abbrev pub index_of : ℕ → ℤ → ℤ → ℕ
index_of side x y = offset y * (side + 12) + offset x

-- the square of module i
abbrev pub square_of : ℕ → List ℤ → List ℤ → ℕ → ℕ
square_of side xs ys i = index_of side (get_or xs i (pos 0)) (get_or ys i (pos 0))

-- Refinement's window (crate `refine`) in coordinates: the squares that it looks at, and the samples that it holds. Definitions only.
use Rattle.std.specs.Prelude.{◌≡◌, false, cond, List, [], ◌∷◌, ◌++◌, map, ℕ, zero, suc, ◌+◌, ◌-◌, ◌*◌, ◌/◌, ◌%◌, ◌<◌, ltb, ℤ, pos, negsuc, ◌+ℤ◌, ◌-ℤ◌, length, get_or, replicate, Float}
use Rattle.std.specs.Float.{nan, binary32}
use Rattle.std.specs.Float.Ieee.{is_nan, of_int}
use Rattle.order.specs.Median.{zero32}
use Rattle.places.specs.Places.{outside, index_of}
use Rattle.local.specs.declared.Window.{Window}
use Rattle.refine.specs.Window.{luminance_near, window_of}

-- the luminance at column a and row b of n by n squares, which are listed row by row; a NaN where a or b is not one of 0 .. n - 1
unfoldable pub square_at : ℕ → List Float → ℤ → ℤ → Float
square_at n grid (pos a) (pos b) = cond (ltb a n) (cond (ltb b n) (get_or grid (b * n + a) nan) nan) nan
square_at n grid (pos a) (negsuc b) = nan
square_at n grid (negsuc a) b = nan

-- how many columns and rows place k of the 7 by 7 window, counted row by row from 0, lies from the window's middle
abbrev pub columns : ℕ → ℤ
columns k = pos (k % 7) -ℤ pos 3

abbrev pub rows : ℕ → ℤ
rows k = pos (k / 7) -ℤ pos 3

-- the luminance at place k of the window around column u and row v
abbrev pub near : ℕ → List Float → ℕ → ℕ → ℕ → Float
near side grid u v k = square_at (side + 12) grid (pos u +ℤ columns k) (pos v +ℤ rows k)

-- the luminance at the position (x, y) of modules, of which (-6, -6) has the first square
abbrev pub position_of : ℕ → List Float → ℤ → ℤ → Float
position_of side grid x y = square_at (side + 12) grid (x +ℤ pos 6) (y +ℤ pos 6)

-- the places below n whose luminance is known, in order
unfoldable pub known_below : (ℕ → Float) → ℕ → List ℕ
known_below y zero = []
known_below y (suc n) = cond (is_nan (y n)) (known_below y n) (known_below y n ++ (n ∷ []))

-- f of each place, and zeros up to 49 numbers
abbrev pub padded : (ℕ → Float) → List ℕ → List Float
padded f ks = map f ks ++ replicate (49 - length ks) zero32

-- w has the samples of the places ks, in their order, and no others: how far each lies from the middle, and its luminance
pub record Holds (y : ℕ → Float) (ks : List ℕ) (w : Window) : Type 0 where
  pub count_is : w.count ≡ length ks
  pub dx_is : w.dx ≡ padded (λ (k : ℕ). of_int binary32 (columns k)) ks
  pub dy_is : w.dy ≡ padded (λ (k : ℕ). of_int binary32 (rows k)) ks
  pub y_is : w.y ≡ padded y ks

pub record WindowInCoordinates : Type 0 where
  -- the square that place k of the window around column u and row v looks at: the columns of one row are numbered below side + 12
  pub looks_at : (side : ℕ) (grid : List Float) (u v k : ℕ) → u < side + 12 → luminance_near side grid (v * (side + 12) + u) k ≡ near side grid u v k
  -- the position that it looks at around a module at (x, y), which is in the grid or in the ring around it
  pub looks_at_position : (side : ℕ) (grid : List Float) (x y : ℤ) (k : ℕ) → outside side 6 x ≡ false → outside side 6 y ≡ false →
      luminance_near side grid (index_of side x y) k ≡ position_of side grid (x +ℤ columns k) (y +ℤ rows k)
  -- place 24 looks at the middle itself
  pub middle : (side : ℕ) (grid : List Float) (u v : ℕ) → u < side + 12 → v < side + 12 → near side grid u v 24 ≡ get_or grid (v * (side + 12) + u) nan
  -- the window has a sample of each of the 49 places whose luminance is known, the middle too, and its count is how many these are
  pub samples : (side : ℕ) (grid : List Float) (u v : ℕ) → u < side + 12 →
      Holds (near side grid u v) (known_below (near side grid u v) 49) (window_of side grid (v * (side + 12) + u))

-- The page for the panel door as a list of bytes (ASCII): a line of numbers, then a line for each row of the grid. What stands in quotes is document 02's. Definitions only.
use Rattle.std.specs.Prelude.{List, [], ◌∷◌, ◌++◌, ℕ, ◌+◌, ◌-◌, ◌*◌, ℤ, pos, length, get_or, replicate, drop, Float}
use Rattle.std.proofs.Math.Option.{Option, none, some}
use Rattle.std.specs.Float.{nan}
use Rattle.places.specs.Places.{index_of, square_of}
use Rattle.places.specs.Last.{last_at}
use Rattle.listing.specs.Text.{lines_below}
use Rattle.listing.specs.Listing.{decimal, line_feed}
use Rattle.reading.specs.Read.{reads}

-- ---- a line

abbrev pub columns : ℕ
columns = 50

-- "Each line is padded", "all its lines grow to 50 columns", "and ends in one line feed"
unfoldable pub line : List ℕ → List ℕ
line s = s ++ (replicate (columns - length s) 32 ++ line_feed)

-- the bytes of a page of this side: "the page has side + 1 lines"
abbrev pub page_length : ℕ → ℕ
page_length side = (columns + 1) * (side + 1)

-- ---- line one

abbrev pub field_columns : ℕ
field_columns = 10

-- a number "right-aligned in ten columns"
unfoldable pub field : ℕ → List ℕ
field n = replicate (field_columns - length (decimal n)) 32 ++ decimal n

abbrev pub field_at : List ℕ → ℕ → List ℕ
field_at numbers j = field (get_or numbers j 0)

-- the numbers' fields one after the other
abbrev pub head_line : List ℕ → List ℕ
head_line numbers = line (lines_below (field_at numbers) (length numbers))

-- ---- a row of the grid

-- what stands for a module, or for none: "0, 1, 2, or a dot where no listed module stands"
unfoldable pub shown : List Float → Option ℕ → ℕ
shown luma none = 46
shown luma (some i) = 48 + reads (get_or luma i nan)

-- a card's modules and their scores
pub record Modules : Type 0 where
  pub side : ℕ
  pub xs : List ℤ
  pub ys : List ℤ
  pub luma : List Float

abbrev pub modules : ℕ → List ℤ → List ℤ → List Float → Modules
modules side xs ys luma = record { side = side; xs = xs; ys = ys; luma = luma }

-- the square at (x, y): "A position listed twice shows its last entry"
abbrev pub square_byte : Modules → ℕ → ℕ → ℕ
square_byte m x y = shown m.luma (last_at (square_of m.side m.xs m.ys) (length m.xs) (index_of m.side (pos x) (pos y)))

abbrev pub square_at : Modules → ℕ → ℕ → List ℕ
square_at m y x = square_byte m x y ∷ []

-- "one column a module"
abbrev pub row_line : Modules → ℕ → List ℕ
row_line m y = line (lines_below (square_at m y) m.side)

-- ---- the page

-- "Below it every row of the grid is printed, y from 0 down"
unfoldable pub page_text : List ℕ → Modules → List ℕ
page_text numbers m = head_line numbers ++ lines_below (row_line m) m.side

-- a text at the front of a slice, with what stands behind it
unfoldable pub overlaid : List ℕ → List ℕ → List ℕ
overlaid text slice = text ++ drop (length text) slice

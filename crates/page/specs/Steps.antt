-- How the code lays a page out: every byte as it is where no module stands on the grid, then, in list order, each module's digit on its square. Definitions only.
use Rattle.std.specs.Prelude.{cond, List, ℕ, zero, suc, ◌+◌, ◌-◌, ◌*◌, ◌/◌, ◌%◌, ◌≤◌, ltb, eqb, ℤ, pos, nat_abs, length, get_or, set, Float}
use Rattle.std.specs.Float.{nan}
use Rattle.loops.specs.Loops as loop
use Rattle.lists.specs.Lists.{replaced}
use Rattle.places.specs.Places.{off_grid}
use Rattle.reading.specs.Read.{reads}
use Rattle.page.specs.Lines.{columns, field_columns, page_length, Modules}

-- the slice holds the page of a side that sentence 14 lets pass
pub record RoomFor (side : ℕ) (page : List ℕ) : Type 0 where
  pub narrow : side ≤ columns
  pub long : page_length side ≤ length page

-- ---- line one

-- the byte of n's field that stands k places from its right end: a digit, or a space before the first one
unfoldable pub field_byte : ℕ → ℕ → ℕ
field_byte zero n = 48 + n % 10
field_byte (suc k) n = cond (ltb n 10) 32 (field_byte k (n / 10))

-- ---- the page without modules

-- byte k, in column k % 51 of line k / 51
unfoldable pub blank_byte : List ℕ → ℕ → ℕ → ℕ
blank_byte numbers side k =
    cond (eqb (k % (columns + 1)) columns) 10
    (cond (ltb k columns) (field_byte (field_columns - 1 - k % field_columns) (get_or numbers (k / field_columns) 0))
    (cond (ltb (k % (columns + 1)) side) 46 32))

abbrev pub blank_at : List ℕ → ℕ → ℕ → ℕ → ℕ
blank_at numbers side k b = blank_byte numbers side k

abbrev pub blank_page : List ℕ → ℕ → List ℕ → List ℕ
blank_page numbers side page = replaced 0 (page_length side) (blank_at numbers side) page

-- ---- the modules

-- the place of row y's column x: after line one and the rows above
abbrev pub place_of : ℕ → ℕ → ℕ
place_of x y = (columns + 1) * (y + 1) + x

-- a module at (x, y), where it stands on the grid
unfoldable pub show_score : ℕ → ℤ → ℤ → Float → List ℕ → List ℕ
show_score side x y score page = cond (off_grid side x y) page (set page (place_of (nat_abs x) (nat_abs y)) (48 + reads score))

-- module i
abbrev pub show_at : Modules → ℕ → List ℕ → List ℕ
show_at m i page = show_score m.side (get_or m.xs i (pos 0)) (get_or m.ys i (pos 0)) (get_or m.luma i nan) page

abbrev pub show_all : Modules → List ℕ → List ℕ
show_all m page = loop.for_up 0 (length m.xs) (show_at m) page

-- Document 01's sentences 2, 3, 4, 6 and 7 on a layout and on what is placed on it, in groups that calls' own lists are joined from, and what holds where a group is passed. Definitions only.
use Rattle.std.specs.Prelude.{◌≡◌, Bool, false, ◌||◌, List, [], ◌∷◌, ℕ, ◌≤◌, ◌<◌, ℤ, length}
use Rattle.sentences.specs.Sentences.{Sentence, ◌when◌, refusal}
use Rattle.places.specs.Places.{misplaced_at, bad_places}
use Rattle.limits.specs.Limits.{bad_side, bad_hues, bad_cell_size, bad_modules, bad_counts, bad_cells}
use Rattle.layout.specs.declared.Layout.{Layout}

-- ---- the layout by itself

unfoldable pub shape : Layout → List Sentence
shape l = (2 when bad_side l.side) ∷ (3 when bad_hues l.hues) ∷ (4 when bad_cell_size l.size) ∷ []

pub record Shaped (l : Layout) : Type 0 where
  pub side-good : bad_side l.side ≡ false
  pub side-most : l.side ≤ 1024
  pub hues-good : bad_hues l.hues ≡ false
  pub size-most : l.size ≤ 16

-- ---- modules alone, for calls that take no cells

unfoldable pub module_placement : ℕ → ℕ → List ℤ → List ℤ → List Sentence
module_placement side grid xs ys =
    (6 when bad_modules (length xs) grid) ∷
    (7 when bad_places side grid xs ys) ∷
    []

pub record ModulesPlaced (side grid : ℕ) (xs ys : List ℤ) : Type 0 where
  pub modules-most : length xs ≤ 1048576
  pub grid-most : grid ≤ length xs
  pub places-good : bad_places side grid xs ys ≡ false

-- what the functions behind the calls ask of positions: they run in pairs, and each is where a grid or a ring module may be
pub record Positions (side grid : ℕ) (xs ys : List ℤ) : Type 0 where
  pub side-most : side ≤ 1024
  pub pairs : length xs ≡ length ys
  pub places-good : bad_places side grid xs ys ≡ false

-- and of one of them
pub record PositionAt (side grid : ℕ) (xs ys : List ℤ) (i : ℕ) : Type 0 where
  pub side-most : side ≤ 1024
  pub pairs : length xs ≡ length ys
  pub in_list : i < length xs
  pub place-good : misplaced_at side grid xs ys i ≡ false

-- ---- modules and cells, each sentence of both

-- positions and cell coordinates run in pairs
pub record Paired (xs ys : List ℤ) (cxs cys : List ℕ) : Type 0 where
  pub modules : length xs ≡ length ys
  pub cells : length cxs ≡ length cys

-- 7
unfoldable pub bad_positions : Layout → List ℤ → List ℤ → List ℕ → List ℕ → Bool
bad_positions l xs ys cxs cys = bad_places l.side l.grid xs ys || bad_cells cxs cys

unfoldable pub placement : Layout → List ℤ → List ℤ → List ℕ → List ℕ → List Sentence
placement l xs ys cxs cys =
    (6 when bad_counts (length xs) l.grid (length cxs)) ∷
    (7 when bad_positions l xs ys cxs cys) ∷
    []

pub record Placed (l : Layout) (xs ys : List ℤ) (cxs cys : List ℕ) : Type 0 where
  pub modules-most : length xs ≤ 1048576
  pub grid-most : l.grid ≤ length xs
  pub cells-most : length cxs ≤ 1048576
  pub places-good : bad_places l.side l.grid xs ys ≡ false
  pub cells-good : bad_cells cxs cys ≡ false
  pub modules-pass : refusal (module_placement l.side l.grid xs ys) ≡ 0

-- Lists that hold a number, three or a Lab an entry, and what a block of entries holds. Definitions only.
use Rattle.std.specs.Prelude.{◌≡◌, List, ℕ, ◌+◌, ◌*◌, ◌<◌, get_or, set, Float}
use Rattle.std.specs.Float.{nan}
use Rattle.color.specs.declared.Linear.{Linear}
use Rattle.color.specs.declared.Lab.{Lab}
use Rattle.color.specs.Color.{lab}

-- three numbers at the places of entry i
abbrev pub put_three : List Float → ℕ → Float → Float → Float → List Float
put_three l i x y z = set (set (set l (3 * i) x) (3 * i + 1) y) (3 * i + 2) z

-- number j of a list, and Lab j
abbrev pub number_at : List Float → ℕ → Float
number_at l j = get_or l j nan

abbrev pub lab_at : List Lab → ℕ → Lab
lab_at labs j = get_or labs j (lab nan nan nan)

-- the first n entries of a list, as `read` reads them, are what f gives
pub record Block {A B : Type 0} (read : List B → ℕ → A) (f : ℕ → A) (n : ℕ) (room : List B) : Type 0 where
  pub at : (j : ℕ) → j < n → read room j ≡ f j

-- the colours from number `from` on
unfoldable pub onwards : (ℕ → Linear) → ℕ → ℕ → Linear
onwards colour from j = colour (from + j)

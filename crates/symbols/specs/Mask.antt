-- The masks (the Rust's mask.rs): eight rules that turn luma bits, and one rotation of the hues for each cell. Definitions only.
use Rattle.std.specs.Prelude.{Bool, false, List, [], ◌∷◌, ℕ, ◌+◌, ◌-◌, ◌*◌, ◌/◌, ◌%◌, eqb, get_or}

-- the eight rules at column x and row y: the bit is turned where a sum's remainder is 0
unfoldable pub mask_rules : ℕ → ℕ → List Bool
mask_rules x y =
    eqb ((y + x) % 2) 0 ∷
    eqb (y % 2) 0 ∷
    eqb (x % 3) 0 ∷
    eqb ((y + x) % 3) 0 ∷
    eqb ((y / 2 + x / 3) % 2) 0 ∷
    eqb (y * x % 2 + y * x % 3) 0 ∷
    eqb ((y * x % 2 + y * x % 3) % 2) 0 ∷
    eqb (((y + x) % 2 + y * x % 3) % 2) 0 ∷
    []

-- the luma bit at (x, y) is turned: the low three bits of the mask's number choose the rule
unfoldable pub luma_mask : ℕ → ℕ → ℕ → Bool
luma_mask id x y = get_or (mask_rules x y) (id % 8) false

-- the rotation of the cell (cx, cy), of k hues
unfoldable pub chroma_rotation : ℕ → ℕ → ℕ → ℕ
chroma_rotation cx cy k = (cx + cy) % k

-- hue h, of k, as the cell (cx, cy) draws it. Any h counts as its remainder by k, since the sum is one of whole numbers that do not wrap
unfoldable pub chroma_mask_apply : ℕ → ℕ → ℕ → ℕ → ℕ
chroma_mask_apply h cx cy k = (h + chroma_rotation cx cy k) % k

-- the hue that the cell (cx, cy) drew as h
unfoldable pub chroma_mask_remove : ℕ → ℕ → ℕ → ℕ → ℕ
chroma_mask_remove h cx cy k = (h + k - chroma_rotation cx cy k) % k

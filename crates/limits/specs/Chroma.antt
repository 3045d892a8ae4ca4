-- The counts that follow from a card's numbers: the bits of a symbol, and the places of the chroma list. Definitions only.
use Rattle.std.specs.Prelude.{Bool, cond, ℕ, zero, suc, ◌+◌, ◌-◌, ◌*◌, ◌/◌, ltb, eqb}

-- how often n, of at most k halvings, can be halved before it is below 2
unfoldable pub halvings : ℕ → ℕ → ℕ
halvings zero n = 0
halvings (suc k) n = cond (ltb 1 n) (suc (halvings k (n / 2))) 0

-- the base-2 logarithm, rounded down; 0 for 0
unfoldable pub log2 : ℕ → ℕ
unfolding halvings
log2 n = halvings n n

-- "Chroma is on when hues exceed 1": cells are corrected, scored, listed and drawn
unfoldable pub chroma_on : ℕ → Bool
chroma_on k = ltb 1 k

-- luma, and its local refinement, is weighted by reliability (the Rust's `with_chroma`, which is true of every hue count above 1)
unfoldable pub weighted : ℕ → Bool
weighted k = ltb 1 k

-- the bits of a symbol: log2(hues), none with chroma off
unfoldable pub symbol_bits : ℕ → ℕ
symbol_bits k = cond (chroma_on k) (log2 k) 0

-- the classes that hues are told apart by: one a hue, and one in all with chroma off
unfoldable pub hue_classes : ℕ → ℕ
hue_classes k = cond (chroma_on k) k 1

-- of m modules, of which g are grid modules, the others are ring modules; none where g exceeds m
abbrev pub ring_modules : ℕ → ℕ → ℕ
ring_modules m g = m - g

-- the places of the chroma list: the c cells, then, at cell size 1, the r ring modules
unfoldable pub chroma_entries : ℕ → ℕ → ℕ → ℕ
chroma_entries c r size = c + cond (eqb size 1) r 0

-- the length of the chroma score list: "log2(hues) scores a cell and, at cell size 1, a ring module"
unfoldable pub chroma_length : ℕ → ℕ → ℕ → ℕ → ℕ
chroma_length k c r size = symbol_bits k * chroma_entries c r size

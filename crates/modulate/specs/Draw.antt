-- Drawing (document 01, "Drawing, reading, margin"): the level of each module and the hue of each cell, from a card's bits. Definitions only.
use Rattle.std.specs.Prelude.{Bool, false, not, cond, ◌||◌, List, [], ◌∷◌, ◌++◌, ℕ, ◌+◌, ◌*◌, ltb, eqb, ℤ, length, get_or, Result, ⊤}
use Rattle.std.specs.Bool.{xor}
use Rattle.loops.specs.Loops.{for_up}
use Rattle.sentences.specs.Sentences.{Sentence, ◌when◌, refusal, decided}
use Rattle.limits.specs.Limits.{bad_hues}
use Rattle.limits.specs.Chroma.{log2, chroma_on, symbol_bits, ring_modules, chroma_entries, chroma_length}
use Rattle.layout.specs.declared.Layout.{Layout}
use Rattle.layout.specs.Groups.{shape, placement}
use Rattle.answers.specs.declared.refusal.Refusal.{Refusal}
use Rattle.answers.specs.Answers.{outcome_number}
use Rattle.symbols.specs.Gray.{chroma_symbol_to_hue}
use Rattle.symbols.specs.Mask.{luma_mask, chroma_mask_apply}
use Rattle.lists.specs.Lists.{replaced}
use Rattle.modulate.specs.declared.Source.{Source}
use Rattle.modulate.specs.Score.{coordinate}

-- ---- one element

-- a byte stands for the bit 1 where it is not 0
unfoldable pub is_set : ℕ → Bool
is_set b = not (eqb b 0)

-- 1 for true
unfoldable pub bit_of : Bool → ℕ
bit_of t = cond t 1 0

-- "A drawn grid module is light when its luma bit differs from `luma_mask`": 1 is light
unfoldable pub grid_level : ℕ → ℕ → ℕ → ℕ → ℕ
grid_level bit mask x y = bit_of (xor (is_set bit) (luma_mask mask x y))

-- "a ring module is light when its bit is 1"
unfoldable pub ring_level : ℕ → ℕ
ring_level bit = bit_of (is_set bit)

-- one bit more, at the low end
unfoldable pub push_bit : List ℕ → ℕ → ℕ → ℕ → ℕ
push_bit bits from b s = s * 2 + bit_of (is_set (get_or bits (from + b) 0))

-- the symbol of the q bits at `from`, high bit first
abbrev pub symbol_at : List ℕ → ℕ → ℕ → ℕ
symbol_at bits from q = for_up 0 q (push_bit bits from) 0

-- "goes through `chroma_symbol_to_hue`, then `chroma_mask_apply` at (cx, cy)"
unfoldable pub cell_hue : ℕ → ℕ → ℕ → ℕ → ℕ
cell_hue s cx cy k = chroma_mask_apply (chroma_symbol_to_hue s k) cx cy k

-- "ring hues are unmasked"
unfoldable pub ring_hue : ℕ → ℕ → ℕ
ring_hue s k = chroma_symbol_to_hue s k

-- 5, of the bits of one symbol
abbrev pub symbol_sentences : List ℕ → ℕ → List Sentence
symbol_sentences bits k = (3 when bad_hues k) ∷ (5 when ltb (length bits) (log2 k)) ∷ []

-- ---- the whole list

-- module i: the first g are grid modules
unfoldable pub level_at : List ℕ → List ℤ → List ℤ → ℕ → ℕ → ℕ → ℕ
level_at bits xs ys g mask i = cond (ltb i g) (grid_level (get_or bits i 0) mask (coordinate xs i) (coordinate ys i)) (ring_level (get_or bits i 0))

abbrev pub level_at_of : List ℕ → List ℤ → List ℤ → ℕ → ℕ → ℕ → ℕ → ℕ
level_at_of bits xs ys g mask i l = level_at bits xs ys g mask i

abbrev pub drawn_levels : List ℕ → List ℤ → List ℤ → ℕ → ℕ → List ℕ → List ℕ
drawn_levels bits xs ys g mask levels = replaced 0 (length xs) (level_at_of bits xs ys g mask) levels

-- place j of the chroma list: the cells first, then ring modules. Its bits come after the m luma bits
unfoldable pub hue_at : List ℕ → ℕ → ℕ → List ℕ → List ℕ → ℕ → ℕ
hue_at bits k m cxs cys j =
    let s = symbol_at bits (m + symbol_bits k * j) (symbol_bits k) in
    cond (ltb j (length cxs)) (cell_hue s (get_or cxs j 0) (get_or cys j 0) k) (ring_hue s k)

abbrev pub hue_at_of : List ℕ → ℕ → ℕ → List ℕ → List ℕ → ℕ → ℕ → ℕ
hue_at_of bits k m cxs cys j h = hue_at bits k m cxs cys j

-- the places of a card's chroma list, of m modules and c cells
abbrev pub entries_of : Layout → ℕ → ℕ → ℕ
entries_of l m c = chroma_entries c (ring_modules m l.grid) l.size

-- with chroma off nothing
unfoldable pub drawn_hues : List ℕ → Layout → ℕ → List ℕ → List ℕ → List ℕ → List ℕ
drawn_hues bits l m cxs cys hues =
    cond (chroma_on l.hues) (replaced 0 (entries_of l m (length cxs)) (hue_at_of bits l.hues m cxs cys) hues) hues

-- ---- the call

-- what it is handed
pub record Card : Type 0 where
  pub bits : List ℕ
  pub layout : Layout
  pub xs : List ℤ
  pub ys : List ℤ
  pub cxs : List ℕ
  pub cys : List ℕ
  pub mask : ℕ
  pub levels : List ℕ
  pub drawn : List ℕ

abbrev pub card : List ℕ → Layout → List ℤ → List ℤ → List ℕ → List ℕ → ℕ → List ℕ → List ℕ → Card
card bits layout xs ys cxs cys mask levels drawn =
    record { bits = bits; layout = layout; xs = xs; ys = ys; cxs = cxs; cys = cys; mask = mask; levels = levels; drawn = drawn }

-- the same of what the code draws it from, into these levels and hues
abbrev pub card_of : Source → List ℕ → List ℕ → Card
card_of s levels drawn = card s.bits.now s.layout s.xs.now s.ys.now s.cxs.now s.cys.now s.mask levels drawn

-- 5, of m modules and c cells: fewer bits than one a module and those of the chroma list; with chroma on, fewer hues than one a place of the chroma list
unfoldable pub short_bits : ℕ → Layout → ℕ → ℕ → Bool
short_bits bits l m c = ltb bits (m + chroma_length l.hues c (ring_modules m l.grid) l.size)

unfoldable pub short_hues : ℕ → Layout → ℕ → ℕ → Bool
short_hues hues l m c = cond (chroma_on l.hues) (ltb hues (entries_of l m c)) false

-- 5: x and y, cx and cy run in pairs; the bits; a level a module; the hues
unfoldable pub bad_draw_lengths : List ℕ → Layout → List ℤ → List ℤ → List ℕ → List ℕ → List ℕ → List ℕ → Bool
bad_draw_lengths bits l xs ys cxs cys levels hues =
    not (eqb (length xs) (length ys))
    || (not (eqb (length cxs) (length cys))
    || (short_bits (length bits) l (length xs) (length cxs)
    || (ltb (length levels) (length xs) || short_hues (length hues) l (length xs) (length cxs))))

-- in checking order: 2, 3, 4 of the layout, 5, then 6, 7 of what is placed on it
unfoldable pub draw_sentences : Card → List Sentence
draw_sentences q =
    shape q.layout ++
    ((5 when bad_draw_lengths q.bits q.layout q.xs q.ys q.cxs q.cys q.levels q.drawn) ∷
    placement q.layout q.xs q.ys q.cxs q.cys)

-- what it gives back: document 01's number, the levels and the hues
pub record Drawn : Type 0 where
  pub number : ℕ
  pub levels : List ℕ
  pub hues : List ℕ

abbrev pub drawn : Result ⊤ Refusal → List ℕ → List ℕ → Drawn
drawn r levels hues = record { number = outcome_number r; levels = levels; hues = hues }

-- refused by sentence n: nothing changes
abbrev pub not_drawn : Card → ℕ → Drawn
not_drawn q n = record { number = n; levels = q.levels; hues = q.drawn }

abbrev pub levels_of : Card → List ℕ
levels_of q = drawn_levels q.bits q.xs q.ys q.layout.grid q.mask q.levels

abbrev pub hues_of : Card → List ℕ
hues_of q = drawn_hues q.bits q.layout (length q.xs) q.cxs q.cys q.drawn

-- accepted: both lists are written
abbrev pub all_drawn : Card → Drawn
all_drawn q = record { number = 0; levels = levels_of q; hues = hues_of q }

unfoldable pub draw_of : Card → Drawn
draw_of q = decided (refusal (draw_sentences q)) (not_drawn q) (all_drawn q)

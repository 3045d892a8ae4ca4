-- A card, from its bits to its colours and back (document 01, "Drawing, reading, margin"): what each call is handed and what it leaves, by the definitions that the calls' contracts cite. Definitions only.
use Rattle.std.specs.Prelude.{◌≡◌, Bool, ◌&&◌, List, ◌++◌, map, ℕ, ◌+◌, ◌-◌, ◌*◌, eqb, leb, ℤ, length, take, Float}
use Rattle.limits.specs.Chroma.{chroma_on, ring_modules, chroma_length}
use Rattle.layout.specs.declared.Layout.{Layout}
use Rattle.color.specs.declared.Lab.{Lab}
use Rattle.color.specs.Color.{linear_to_lab}
use Rattle.color.specs.Palette.{palette_lab}
use Rattle.modulate.specs.Draw as drawing
use Rattle.modulate.specs.Draw.{Drawn, draw_of, is_set, bit_of}
use Rattle.answers.specs.Answers.{Ended}
use Rattle.modulate.specs.Score.{unmask_luma_of}
use Rattle.reading.specs.Read.{read_list_of}
use Rattle.illum.specs.declared.IlluminationModel.{IlluminationModel}
use Rattle.stats.specs.declared.ChannelStats.{ChannelStats}
use Rattle.observed.specs.Colours.{module_colour, cell_colour}
use Rattle.demod.specs.Call as scoring
use Rattle.demod.specs.Call.{scored_of}
use Rattle.refine.specs.Calls as refinement
use Rattle.refine.specs.Calls.{refine_of}

-- what two cards share: "Two cards are of one layout when side, hues, cell size, grid module count, module positions and cell coordinates are equal, entry by entry", and the palette, mask, model and noise record
pub record Setting : Type 0 where
  pub layout : Layout
  pub xs : List ℤ
  pub ys : List ℤ
  pub cxs : List ℕ
  pub cys : List ℕ
  pub palette : List Float
  pub mask : ℕ
  pub model : IlluminationModel
  pub noise : ChannelStats

-- a card's own: the bits that it is drawn from, a byte a bit, and the raw colours that it is read from; with what its calls are lent, which may hold anything
pub record Card : Type 0 where
  pub bits : List ℕ
  pub raw : List Float
  pub craw : List Float
  pub levels : List ℕ
  pub drawn : List ℕ
  pub luma : List Float
  pub colours : List Float
  pub chroma : List Float
  pub scratch : List Float
  pub luma_bits : List ℕ
  pub chroma_bits : List ℕ

-- the listed modules, and the chroma scores
abbrev pub modules : Setting → ℕ
modules s = length s.xs

abbrev pub chroma_scores : Setting → ℕ
chroma_scores s = chroma_length s.layout.hues (length s.cxs) (ring_modules (modules s) s.layout.grid) s.layout.size

-- ---- the calls, each handed what the one before it left

abbrev pub to_draw : Setting → Card → drawing.Card
to_draw s c = drawing.card c.bits s.layout s.xs s.ys s.cxs s.cys s.mask c.levels c.drawn

abbrev pub drawn_card : Setting → Card → Drawn
drawn_card s c = draw_of (to_draw s c)

-- "scoring corrects them by the model"
abbrev pub to_score : Setting → Card → scoring.Request
to_score s c =
    scoring.request s.layout s.xs s.ys c.raw s.cxs s.cys c.craw s.palette s.model s.noise c.luma c.colours c.chroma

abbrev pub scored_card : Setting → Card → scoring.Final
scored_card s c = scored_of (to_score s c)

-- "refinement takes the luma scores that scoring left"
abbrev pub to_refine : Setting → Card → refinement.Request
to_refine s c =
    refinement.request (scored_card s c).luma s.layout.side s.layout.hues s.xs s.ys s.layout.grid (scored_card s c).colours s.palette s.noise c.scratch

abbrev pub refined_card : Setting → Card → refinement.Final
refined_card s c = refine_of (to_refine s c)

-- "unmasking those that refinement left"
abbrev pub unmasked_card : Setting → Card → Ended Float
unmasked_card s c = unmask_luma_of (refined_card s c).luma s.layout.side s.xs s.ys s.layout.grid s.mask

-- "and reading takes these and the chroma scores"
abbrev pub luma_read : Setting → Card → Ended ℕ
luma_read s c = read_list_of (unmasked_card s c).list c.luma_bits

abbrev pub chroma_read : Setting → Card → Ended ℕ
chroma_read s c = read_list_of (scored_card s c).chroma c.chroma_bits

-- "It is accepted when none of these calls .. is refused": a refusal gives its number, which is above 0, and an accepted call's number is 0
pub record Accepted (s : Setting) (c : Card) : Type 0 where
  pub scoring : (scored_card s c).number ≡ 0
  pub refinement : (refined_card s c).number ≡ 0
  pub unmasking : (unmasked_card s c).number ≡ 0
  pub luma : (luma_read s c).number ≡ 0
  pub chroma : (chroma_read s c).number ≡ 0

-- ---- "A card's bits, drawn or read, are one for each listed module in list order, then, with chroma on, its symbols' bits in the order of the chroma score list."

unfoldable pub bits_drawn : Setting → Card → List ℕ
bits_drawn s c = map (λ b. bit_of (is_set b)) (take (modules s + chroma_scores s) c.bits)

unfoldable pub bits_read : Setting → Card → List ℕ
bits_read s c = take (modules s) (luma_read s c).list ++ take (chroma_scores s) (chroma_read s c).list

-- ---- corrected colours, "taken to Lab as scoring takes" them, and drawn colours

abbrev pub module_lab : Setting → Card → ℕ → Lab
module_lab s c i = linear_to_lab (module_colour s.model s.xs s.ys c.raw i)

abbrev pub cell_lab : Setting → Card → ℕ → Lab
cell_lab s c j = linear_to_lab (cell_colour s.model s.layout.size s.cxs s.cys c.craw j)

-- "The palette holds dark colours by hue, then light ones": the colour of a level, 0 for dark and 1 for light, and a hue
unfoldable pub palette_colour : Setting → ℕ → ℕ → Lab
palette_colour s level hue = palette_lab s.palette s.layout.hues (level * s.layout.hues + hue)

-- "ring modules carry chroma only at cell size 1", and with chroma on
unfoldable pub carries_chroma : Setting → ℕ → Bool
carries_chroma s i = chroma_on s.layout.hues && (eqb s.layout.size 1 && leb s.layout.grid i)

-- the place of a ring module in the chroma list, "listed after the cells"
abbrev pub ring_place : Setting → ℕ → ℕ
ring_place s i = length s.cxs + (i - s.layout.grid)

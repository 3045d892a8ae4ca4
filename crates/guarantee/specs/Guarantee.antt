-- The read guarantee (document 01, demand 3; README, promise 3): inside the margin, with each corrected colour within half a sigma of its drawn colour, the bits read are the bits drawn, place for place,
-- none missing, none added. Two cards share layout, palette, mask, model and noise record; palette and record hold f32 values (`Singles`). The margin check says yes (`InMargin`); each card is drawn from
-- its bits, accepted, and near what was drawn (`Readable`). Then each is read as it was drawn (`ReadAsDrawn`), so the two are read as equal exactly when they were drawn from equal bits.
-- The margin check has a second setting, 9 for 13: the same holds there of cards with no NaN among their refined scores (`ReadGuaranteeAtNine`). `proofs/Guarantee.antt` proves both. Definitions only.
use Rattle.std.specs.Prelude.{◌≡◌, true, false, ℕ, ◌+◌, ◌<◌, T, length, get_or}
use Rattle.std.specs.Float.{nan, binary32}
use Rattle.std.specs.Float.Ieee.{fits, is_nan}
use Rattle.limits.specs.Chroma.{chroma_on}
use Rattle.answers.specs.Answers.{gives}
use Rattle.margin.specs.declared.Threshold.{Threshold}
use Rattle.margin.specs.declared.Threshold.TheVariants.{Nine}
use Rattle.margin.specs.Calls.{margin_answer, margin_at_answer}
use Rattle.guarantee.specs.Within.{half_sigma}
use Rattle.guarantee.specs.Card.{Setting, Card, modules, chroma_scores, drawn_card, refined_card, Accepted, bits_drawn, bits_read, module_lab, cell_lab, palette_colour, carries_chroma, ring_place}

-- the palette and the noise record hold f32 values, as the code's do
pub record Singles (s : Setting) : Type 0 where
  pub palette : (i : ℕ) → T (fits binary32 (get_or s.palette i nan))
  pub l0 : T (fits binary32 s.noise.l0)
  pub l1 : T (fits binary32 s.noise.l1)
  pub sigma-l : T (fits binary32 s.noise.sigma_l)
  pub sigma-ab : T (fits binary32 s.noise.sigma_ab)
  pub sigma-ab-dark : T (fits binary32 s.noise.sigma_ab_dark)
  pub sigma-ab-light : T (fits binary32 s.noise.sigma_ab_light)

-- inside the margin: the margin check says yes, so it is not refused
abbrev pub InMargin : Setting → Type 0
InMargin s = margin_answer s.noise s.palette s.layout.hues ≡ gives true

-- module i is within half a sigma of its drawn colour: "A module's drawn colour is a palette colour of its level, and of its hue too where a ring module carries chroma"
pub record NearModule (s : Setting) (c : Card) (i : ℕ) : Type 0 where
  pub hue : ℕ
  pub below : hue < s.layout.hues
  pub own : carries_chroma s i ≡ true → hue ≡ get_or (drawn_card s c).hues (ring_place s i) 0
  pub near : half_sigma s.noise (module_lab s c i) (palette_colour s (get_or (drawn_card s c).levels i 0) hue) ≡ true

-- cell j: "a cell's is one of its hue"
pub record NearCell (s : Setting) (c : Card) (j : ℕ) : Type 0 where
  pub level : ℕ
  pub below : level < 2
  pub near : half_sigma s.noise (cell_lab s c j) (palette_colour s level (get_or (drawn_card s c).hues j 0)) ≡ true

-- each corrected colour is within half a sigma of its drawn colour: every module's, and with chroma on every cell's, since "With chroma off, cells are neither corrected nor scored."
pub record Near (s : Setting) (c : Card) : Type 0 where
  pub each_module : (i : ℕ) → i < modules s → NearModule s c i
  pub each-cell : chroma_on s.layout.hues ≡ true → (j : ℕ) → j < length s.cxs → NearCell s c j

-- a card that is drawn, drawing not being refused, that is accepted, and that is near what was drawn
pub record Readable (s : Setting) (c : Card) : Type 0 where
  pub drawn : (drawn_card s c).number ≡ 0
  pub accepted : Accepted s c
  pub near : Near s c

-- the bits read are the bits drawn, place for place, none missing, none added
pub record ReadAsDrawn (s : Setting) (c : Card) : Type 0 where
  pub drawn-length : length (bits_drawn s c) ≡ modules s + chroma_scores s
  pub read_length : length (bits_read s c) ≡ modules s + chroma_scores s
  pub same : bits_read s c ≡ bits_drawn s c

-- the guarantee, of two cards
pub record Guaranteed (s : Setting) (a b : Card) : Type 0 where
  pub first : ReadAsDrawn s a
  pub second : ReadAsDrawn s b
  pub equal-read : bits_drawn s a ≡ bits_drawn s b → bits_read s a ≡ bits_read s b
  pub equal-drawn : bits_read s a ≡ bits_read s b → bits_drawn s a ≡ bits_drawn s b

abbrev pub ReadGuarantee : Type 0
ReadGuarantee = (s : Setting) (a b : Card) → Singles s → InMargin s → Readable s a → Readable s b → Guaranteed s a b

-- ---- at the second setting

-- the check says yes at a setting; `InMargin` is this at 13
abbrev pub InMarginAt : Threshold → Setting → Type 0
InMarginAt least s = margin_at_answer least s.noise s.palette s.layout.hues ≡ gives true

-- of each listed module, the score that refinement left and that unmasking is handed: at 13 it is never a NaN, at 9 it may be one where the palette's own levels fall
abbrev pub NoNan : Setting → Card → Type 0
NoNan s c = (i : ℕ) → i < modules s → is_nan (get_or (refined_card s c).luma i nan) ≡ false

-- the guarantee at 9, of two cards
abbrev pub ReadGuaranteeAtNine : Type 0
ReadGuaranteeAtNine = (s : Setting) (a b : Card) → Singles s → InMarginAt Nine s → Readable s a → Readable s b → NoNan s a → NoNan s b → Guaranteed s a b

-- bit by bit: a module whose refined score is no NaN is read as it was drawn, whatever the others' scores are, and so is each chroma bit
pub record EachRead (s : Setting) (c : Card) : Type 0 where
  pub drawn-length : length (bits_drawn s c) ≡ modules s + chroma_scores s
  pub read_length : length (bits_read s c) ≡ modules s + chroma_scores s
  pub luma : (i : ℕ) → i < modules s → is_nan (get_or (refined_card s c).luma i nan) ≡ false → get_or (bits_read s c) i 0 ≡ get_or (bits_drawn s c) i 0
  pub chroma : (j : ℕ) → j < chroma_scores s → get_or (bits_read s c) (modules s + j) 0 ≡ get_or (bits_drawn s c) (modules s + j) 0

abbrev pub EachReadAtNine : Type 0
EachReadAtNine = (s : Setting) (c : Card) → Singles s → InMarginAt Nine s → Readable s c → EachRead s c

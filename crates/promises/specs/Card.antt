-- Whole cards (crate `guarantee`): that the read guarantee speaks of cards that exist, and that the definitions give the worked examples. Definitions only.
use Rattle.std.specs.Prelude.{◌≡◌, Bool, true, false, ◌&&◌, List, [], ◌∷◌, map, ℕ, ◌*◌, ◌<◌, pos, nat_abs, ◌-ℤ◌, length, get_or, Float}
use Rattle.std.specs.Int.Signed.{le_z}
use Rattle.std.specs.Float.Ieee.{neg}
use Rattle.float.specs.Select.{abs}
use Rattle.limits.specs.Chroma.{chroma_on}
use Rattle.color.specs.declared.Lab.{Lab}
use Rattle.color.specs.Color.{whole}
use Rattle.color.specs.Palette.{hue_ab}
use Rattle.stats.specs.declared.ChannelStats.{ChannelStats}
use Rattle.margin.specs.declared.Threshold.TheVariants.{Nine}
use Rattle.stats.specs.Arithmetic.{◌⊕◌, ◌⊖◌, ◌⊘◌}
use Rattle.stats.specs.Noise.{sigma_ab_at, luma_llr}
use Rattle.guarantee.specs.Within.{units, half_apart}
use Rattle.guarantee.specs.Card.{Setting, Card, modules, drawn_card, bits_drawn, bits_read, module_lab, cell_lab, palette_colour, carries_chroma}
use Rattle.guarantee.specs.Guarantee.{Singles, InMargin, Readable, InMarginAt, NoNan}
use Rattle.guarantee.specs.Table.{Row, table}

-- a card of the setting s that meets the guarantee's premises, and the bits that it is drawn from and that are read from it
pub record Meets (s : Setting) (bits : List ℕ) : Type 0 where
  pub card : Card
  pub singles : Singles s
  pub margin : InMargin s
  pub readable : Readable s card
  pub drawn : bits_drawn s card ≡ bits
  pub read : bits_read s card ≡ bits

-- one of some setting, with chroma on or off
pub record MetBy (chroma : Bool) (bits : List ℕ) : Type 0 where
  pub setting : Setting
  pub on : chroma_on setting.layout.hues ≡ chroma
  pub meets : Meets setting bits

-- the palette colour of a level and of hue h differs from its hue point by s in a and in b
pub record OffHuePoint (s : Setting) (h level : ℕ) : Type 0 where
  pub a : abs ((palette_colour s level h).a ⊖ (hue_ab s.palette h).a) ≡ sigma_ab_at s.noise (palette_colour s level h).l
  pub b : abs ((palette_colour s level h).b ⊖ (hue_ab s.palette h).b) ≡ sigma_ab_at s.noise (palette_colour s level h).l

-- hue h is at the edge of the margin: its dark colour at L + sigma_l/2 has a `luma_llr` of 13, its light one at L - sigma_l/2 of -13, and both differ from the hue point by s
pub record AtMargin (s : Setting) (h : ℕ) : Type 0 where
  pub dark : luma_llr s.noise ((palette_colour s 0 h).l ⊕ s.noise.sigma_l ⊘ whole 2) ≡ whole 13
  pub light : luma_llr s.noise ((palette_colour s 1 h).l ⊖ s.noise.sigma_l ⊘ whole 2) ≡ neg (whole 13)
  pub off : (level : ℕ) → level < 2 → OffHuePoint s h level

-- x and y, both finite, differ by exactly s/2: by at most s/2 (`half_apart` of `guarantee`), and by no less
unfoldable pub half_off : Float → Float → Float → Bool
half_off s x y = half_apart s x y && le_z (units s) (pos (2 * nat_abs (units x -ℤ units y)))

-- the colour p is exactly half a sigma from the palette colour c in L, in a and in b
pub record AtCorner (n : ChannelStats) (p c : Lab) : Type 0 where
  pub l : half_off n.sigma_l p.l c.l ≡ true
  pub a : half_off (sigma_ab_at n c.l) p.a c.a ≡ true
  pub b : half_off (sigma_ab_at n c.l) p.b c.b ≡ true

-- every module is so from the colour of its level and of hue 1, and every cell from the colour of hue 1 and one level
pub record AtCorners (s : Setting) (c : Card) : Type 0 where
  pub level : ℕ
  pub modules_at : (i : ℕ) → i < modules s → AtCorner s.noise (module_lab s c i) (palette_colour s (get_or (drawn_card s c).levels i 0) 1)
  pub cells_at : (j : ℕ) → j < length s.cxs → AtCorner s.noise (cell_lab s c j) (palette_colour s level 1)

-- two cards of one setting at the edges, of the cell size given, drawn from different bits
pub record AtEdges (size : ℕ) (bits others : List ℕ) : Type 0 where
  pub setting : Setting
  pub sized : setting.layout.size ≡ size
  pub margin-met : (h : ℕ) → h < setting.layout.hues → AtMargin setting h
  pub one : Meets setting bits
  pub other : Meets setting others
  pub one_corners : AtCorners setting one.card
  pub other_corners : AtCorners setting other.card

-- a card that meets the premises of the guarantee at 9, outside the margin at 13, at the edge: the dark colours of hue h at L + sigma_l/2 have a `luma_llr` of 9, the light ones at L - sigma_l/2 of -9
pub record MetAtNine (bits : List ℕ) : Type 0 where
  pub setting : Setting
  pub card : Card
  pub singles : Singles setting
  pub margin : InMarginAt Nine setting
  pub outside : InMargin setting → ⊥
  pub dark : (h : ℕ) → h < setting.layout.hues → luma_llr setting.noise ((palette_colour setting 0 h).l ⊕ setting.noise.sigma_l ⊘ whole 2) ≡ whole 9
  pub light : (h : ℕ) → h < setting.layout.hues → luma_llr setting.noise ((palette_colour setting 1 h).l ⊖ setting.noise.sigma_l ⊘ whole 2) ≡ neg (whole 9)
  pub readable : Readable setting card
  pub no_nan : NoNan setting card
  pub drawn : bits_drawn setting card ≡ bits
  pub read : bits_read setting card ≡ bits

-- cards that meet the premises
pub record Met : Type 0 where
  -- with chroma off, of two modules, and with chroma on, of a grid module, a ring module that carries chroma, and a cell
  pub plain : MetBy false (1 ∷ 1 ∷ [])
  pub coloured : MetBy true (1 ∷ 0 ∷ 1 ∷ 0 ∷ [])
  pub has-cell : 0 < length coloured.setting.cxs
  pub has-ring : carries_chroma coloured.setting 1 ≡ true
  -- with chroma off, of a grid module, a ring module and a cell
  pub lone : MetBy false (0 ∷ 0 ∷ [])
  pub lone-cell : 0 < length lone.setting.cxs
  pub lone-ring : lone.setting.layout.grid < modules lone.setting
  -- at the edges, each pair of two grid modules, a ring module and a cell: of cell size 2, where no module carries chroma,
  pub wide : AtEdges 2 (1 ∷ 0 ∷ 1 ∷ 0 ∷ []) (0 ∷ 1 ∷ 0 ∷ 0 ∷ [])
  pub wide-ring : wide.setting.layout.grid < modules wide.setting
  pub wide-free : (i : ℕ) → i < modules wide.setting → carries_chroma wide.setting i ≡ false
  -- and of cell size 1, where the ring module carries chroma
  pub narrow : AtEdges 1 (1 ∷ 0 ∷ 1 ∷ 0 ∷ 1 ∷ []) (0 ∷ 1 ∷ 0 ∷ 0 ∷ 1 ∷ [])
  pub narrow-ring : carries_chroma narrow.setting 2 ≡ true
  -- and of each of the two settings a card that is drawn from the first one's bits but for one chroma bit: the cell's, and the ring module's
  pub wide-cell : Meets wide.setting (1 ∷ 0 ∷ 1 ∷ 1 ∷ [])
  pub narrow-hue : Meets narrow.setting (1 ∷ 0 ∷ 1 ∷ 0 ∷ 0 ∷ [])
  -- at 9, of two grid modules, a ring module that carries chroma and a cell
  pub nine : MetAtNine (1 ∷ 0 ∷ 1 ∷ 0 ∷ 1 ∷ [])
  pub nine-ring : carries_chroma nine.setting 2 ≡ true

-- every row of the table: what the definitions give is what is said
abbrev pub Worked : Type 0
Worked = map (λ (r : Row). r.gives) table ≡ map (λ (r : Row). r.says) table

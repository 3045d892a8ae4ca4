-- Document 01's worked examples, "Proved, as one table": each row has what the definitions give and what the document says. `proofs/Worked.antt` computes them. Definitions only.
use Rattle.std.specs.Prelude.{List, [], ◌∷◌, ℕ, Float}
use Rattle.std.specs.Float.Ieee.{neg}
use Rattle.float.specs.Root.{cbrt_of}
use Rattle.order.specs.Median.{median_of}
use Rattle.order.specs.Deviation.{sigma_of}
use Rattle.color.specs.declared.Lab.{Lab}
use Rattle.color.specs.Color.{whole, fraction, linear, linear_to_lab}
use Rattle.color.specs.Srgb.{srgb_to_linear}
use Rattle.modulate.specs.declared.Cell.{Cell}
use Rattle.modulate.specs.declared.Cell.TheVariants.{Unmasked, At}
use Rattle.modulate.specs.Score.{chroma_bit_llrs}
use Rattle.stats.specs.declared.ChannelStats.{ChannelStats}
use Rattle.stats.specs.Noise.{sigma_ab_at, luma_llr}

pub record Row : Type 0 where
  pub gives : List Float
  pub says : List Float

infix 4 ◌gives◌
abbrev pub ◌gives◌ : List Float → List Float → Row
l gives r = record { gives = l; says = r }

abbrev pub n : ℕ → Float
n = whole

-- a record of two levels, one sigma and the sigmas of the levels
abbrev pub noise : ℕ → ℕ → ℕ → ℕ → ℕ → ChannelStats
noise l0 l1 sigma dark light =
    record { l0 = n l0; l1 = n l1; sigma_l = n sigma; sigma_ab = n sigma; sigma_ab_dark = n dark; sigma_ab_light = n light; samples = 0 }

abbrev pub numbers : Lab → List Float
numbers c = c.l ∷ c.a ∷ c.b ∷ []

-- the bits of hue scores (0,-1,-4,-9)
abbrev pub bits_of : Cell → List Float
bits_of cell = chroma_bit_llrs (n 0 ∷ neg (n 1) ∷ neg (n 4) ∷ neg (n 9) ∷ []) cell 4 (n 0 ∷ n 0 ∷ [])

unfoldable pub table : List Row
table =
    -- "medians of (), (3), (4,1,3,2) are 0, 3, 2.5"
    (median_of [] ∷ median_of (n 3 ∷ []) ∷ median_of (n 4 ∷ n 1 ∷ n 3 ∷ n 2 ∷ []) ∷ [] gives n 0 ∷ n 3 ∷ fraction 5 2 ∷ []) ∷
    -- "`mad_sigma` of (1,1,1) is 0"
    (sigma_of (n 1 ∷ n 1 ∷ n 1 ∷ []) ∷ [] gives n 0 ∷ []) ∷
    -- "`sigma_ab_at` 50 with l0 0, l1 100, levels (2,4) is 3"
    (sigma_ab_at (noise 0 100 6 2 4) (n 50) ∷ [] gives n 3 ∷ []) ∷
    -- "`luma_llr` with 20, 80, sigma 6 at 50, 44, 20 is 0, 10, 20"
    (luma_llr (noise 20 80 6 0 0) (n 50) ∷ luma_llr (noise 20 80 6 0 0) (n 44) ∷ luma_llr (noise 20 80 6 0 0) (n 20) ∷ [] gives n 0 ∷ n 10 ∷ n 20 ∷ []) ∷
    -- "black's Lab is (0,0,0)"
    (numbers (linear_to_lab (linear (n 0) (n 0) (n 0))) gives n 0 ∷ n 0 ∷ n 0 ∷ []) ∷
    -- "sRGB bytes 0 and 255 give 0 and 1"
    (srgb_to_linear 0 ∷ srgb_to_linear 255 ∷ [] gives n 0 ∷ n 1 ∷ []) ∷
    -- "cube root of 27 is 3"
    (cbrt_of (n 27) ∷ [] gives n 3 ∷ []) ∷
    -- "hue scores (0,-1,-4,-9) give bits (4,1) uncelled, (-1,4) at cell (1,0)"
    (bits_of Unmasked gives n 4 ∷ n 1 ∷ []) ∷
    (bits_of (At 1 0) gives neg (n 1) ∷ n 4 ∷ []) ∷
    []

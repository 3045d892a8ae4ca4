-- `ChannelStats` of demod.rs: what each method computes, for every float. The operations stand in the Rust's order. Definitions only.
use Rattle.std.specs.Prelude.{◌≡◌, false, cond, ◌||◌, List, ℕ, ◌*◌, ◌≤◌, ◌<◌, length, get_or, set, Float}
use Rattle.std.specs.Float.{nan, inf}
use Rattle.std.specs.Float.Ieee.{neg, le}
use Rattle.loops.specs.Loops.{for_up}
use Rattle.float.specs.Select.{max, min, clamp}
use Rattle.float.specs.Root.{sqrt_of}
use Rattle.color.specs.declared.Lab.{Lab}
use Rattle.color.specs.Color.{whole, fraction}
use Rattle.color.specs.Palette.{level_l, hue_ab, palette_lab}
use Rattle.stats.specs.declared.ChannelStats.{ChannelStats}
use Rattle.stats.specs.Arithmetic.{◌⊕◌, ◌⊖◌, ◌⊗◌, ◌⊘◌, squared}

-- where l stands from the dark level (0) to the light one (1)
unfoldable pub between : ChannelStats → Float → Float
between n l = clamp (whole 0) (whole 1) ((l ⊖ n.l0) ⊘ max (n.l1 ⊖ n.l0) (fraction 1 1000))

-- `sigma_ab_at`: the chroma noise at lightness l, between those of the two levels; the pooled one where a level has none
unfoldable pub sigma_ab_at : ChannelStats → Float → Float
sigma_ab_at n l =
    cond (le n.sigma_ab_dark (whole 0) || le n.sigma_ab_light (whole 0)) n.sigma_ab
    (n.sigma_ab_dark ⊕ (n.sigma_ab_light ⊖ n.sigma_ab_dark) ⊗ between n l)

-- `luma_llr`: (l1 − l0)(l0 + l1 − 2l) / 2σ², within ±20
unfoldable pub luma_llr : ChannelStats → Float → Float
luma_llr n l =
    clamp (neg (whole 20)) (whole 20)
    ((n.l1 ⊖ n.l0) ⊗ (n.l0 ⊕ n.l1 ⊖ whole 2 ⊗ l) ⊘ (whole 2 ⊗ n.sigma_l ⊗ n.sigma_l))

-- the lightness of palette colour i
abbrev pub lightness_at : List Float → ℕ → ℕ → Float
lightness_at palette hues i = (palette_lab palette hues i).l

-- ---- `reliability`

-- the squared distance of a sample from a palette colour c, in units of the noise at c's own lightness
unfoldable pub distance : ChannelStats → Lab → Lab → Float
distance n sample c =
    squared ((sample.l ⊖ c.l) ⊘ n.sigma_l)
    ⊕ squared ((sample.a ⊖ c.a) ⊘ sigma_ab_at n c.l)
    ⊕ squared ((sample.b ⊖ c.b) ⊘ sigma_ab_at n c.l)

-- the smaller of `best` and the distance from palette colour i
unfoldable pub closer : ChannelStats → Lab → List Float → ℕ → ℕ → Float → Float
closer n sample palette hues i best = min best (distance n sample (palette_lab palette hues i))

-- the distance from the nearest of the 2 × hues palette colours
abbrev pub nearest : ChannelStats → Lab → List Float → ℕ → Float
nearest n sample palette hues = for_up 0 (2 * hues) (closer n sample palette hues) (inf false)

-- 1 / (1 + (√d / 3)⁴)
unfoldable pub weight : Float → Float
weight d = whole 1 ⊘ (whole 1 ⊕ squared (squared (sqrt_of d ⊘ whole 3)))

unfoldable pub reliability : ChannelStats → Lab → List Float → ℕ → Float
reliability n sample palette hues = weight (nearest n sample palette hues)

-- ---- the chroma noise of the palette's colours, which no sample changes

-- that of palette colour i at its place
unfoldable pub put_sigma : ChannelStats → List Float → ℕ → ℕ → List Float → List Float
put_sigma n palette hues i sigmas = set sigmas i (sigma_ab_at n (palette_lab palette hues i).l)

-- one a colour, at the front of `sigmas`
abbrev pub palette_sigmas : ChannelStats → List Float → ℕ → List Float → List Float
palette_sigmas n palette hues sigmas = for_up 0 (2 * hues) (put_sigma n palette hues) sigmas

-- they stand at the front of `sigmas`
pub record Sigmas (n : ChannelStats) (palette : List Float) (hues : ℕ) (sigmas : List Float) : Type 0 where
  pub long : 2 * hues ≤ length sigmas
  pub at : (i : ℕ) → i < 2 * hues → get_or sigmas i nan ≡ sigma_ab_at n (palette_lab palette hues i).l

-- ---- `hue_log_likelihoods`

-- 2σ², with the chroma noise at the sample's lightness
unfoldable pub denominator : ChannelStats → Lab → Float
denominator n sample = whole 2 ⊗ sigma_ab_at n sample.l ⊗ sigma_ab_at n sample.l

-- − ((a − a_h)² + (b − b_h)²) / 2σ²
unfoldable pub hue_log_likelihood : Lab → Float → List Float → ℕ → Float
hue_log_likelihood sample denom palette h =
    neg (squared (sample.a ⊖ (hue_ab palette h).a) ⊕ squared (sample.b ⊖ (hue_ab palette h).b)) ⊘ denom

unfoldable pub put_likelihood : Lab → Float → List Float → ℕ → List Float → List Float
put_likelihood sample denom palette h out = set out h (hue_log_likelihood sample denom palette h)

abbrev pub put_likelihoods : Lab → Float → List Float → ℕ → List Float → List Float
put_likelihoods sample denom palette hues out = for_up 0 hues (put_likelihood sample denom palette) out

-- one a hue, at the front of `out`
abbrev pub hue_log_likelihoods : ChannelStats → Lab → List Float → ℕ → List Float → List Float
hue_log_likelihoods n sample palette hues out = put_likelihoods sample (denominator n sample) palette hues out

-- ---- `nominal`: sigmas 6, samples 0

abbrev pub nominal : List Float → ChannelStats
nominal palette =
    record {
      l0 = level_l palette 0;
      l1 = level_l palette 1;
      sigma_l = whole 6;
      sigma_ab = whole 6;
      sigma_ab_dark = whole 0;
      sigma_ab_light = whole 0;
      samples = 0;
    }

-- The noise record (crates `stats` and `measure`): the ranges of its scores, what the margin check says, and what a measured one is. Definitions only.
use Rattle.std.specs.Prelude.{◌≡◌, true, false, List, ℕ, ◌+◌, ◌*◌, ◌^◌, ◌<◌, T, get_or, Float}
use Rattle.std.specs.Float.{nan, binary32}
use Rattle.std.specs.Float.Ieee.{fits, neg, lt}
use Rattle.floatlaws.specs.Interval.{In}
use Rattle.limits.specs.Chroma.{chroma_on}
use Rattle.answers.specs.Answers.{gives}
use Rattle.color.specs.declared.Lab.{Lab}
use Rattle.color.specs.Color.{whole}
use Rattle.color.specs.Palette.{palette_lab}
use Rattle.stats.specs.declared.ChannelStats.{ChannelStats}
use Rattle.stats.specs.Noise.{sigma_ab_at, luma_llr, reliability}
use Rattle.margin.specs.declared.Threshold.TheVariants.{Thirteen, Nine}
use Rattle.stats.specs.Calls.{bad_noise_numbers, bad_sigmas}
use Rattle.margin.specs.Calls.{margin_at_answer}
use Rattle.margin.specs.Margin.{level_fits, sigmas_fit, dark_clear, light_clear, near, far, in_margin}
use Rattle.measure.specs.declared.Measurement.{Measurement}
use Rattle.measure.specs.Measure.{Request, measure_of}

-- the record's figures are f32 values, as the code's are
pub record HeldAsSingles (n : ChannelStats) : Type 0 where
  pub l0 : T (fits binary32 n.l0)
  pub l1 : T (fits binary32 n.l1)
  pub sigma-l : T (fits binary32 n.sigma_l)
  pub sigma-ab : T (fits binary32 n.sigma_ab)
  pub sigma-ab-dark : T (fits binary32 n.sigma_ab_dark)
  pub sigma-ab-light : T (fits binary32 n.sigma_ab_light)

-- a number from 0 to 1, of every record, sample and palette, NaN included
abbrev pub ReliabilityRange : Type 0
ReliabilityRange = (n : ChannelStats) (sample : Lab) (palette : List Float) (hues : ℕ) → In binary32 (whole 0) (whole 1) (reliability n sample palette hues)

-- of a record that passes sentences 8 and 9, at a lightness from -2^36 to 2^36, as that of every accepted colour is: a number from -20 to 20
abbrev pub LumaLlrRange : Type 0
LumaLlrRange =
    (n : ChannelStats) → HeldAsSingles n → bad_noise_numbers n ≡ false → bad_sigmas n ≡ false → (l : Float) → In binary32 (neg (whole (2 ^ 36))) (whole (2 ^ 36)) l →
    In binary32 (neg (whole 20)) (whole 20) (luma_llr n l)

-- palette colour i is near the point of its own hue and far from that of every other
pub record Apart (n : ChannelStats) (palette : List Float) (hues i own : ℕ) : Type 0 where
  pub at_own : near palette (palette_lab palette hues i) (sigma_ab_at n (palette_lab palette hues i).l) own ≡ true
  pub off-others : (h : ℕ) → h < hues → (h ≡ own → ⊥) → far palette (palette_lab palette hues i) (sigma_ab_at n (palette_lab palette hues i).l) h ≡ true

-- what the margin check at a threshold says where it says yes, colour by colour and hue by hue
pub record Clear (threshold : Float) (n : ChannelStats) (palette : List Float) (hues : ℕ) : Type 0 where
  pub rising : lt n.l0 n.l1 ≡ true
  pub l0_small : level_fits n.l0 ≡ true
  pub l1_small : level_fits n.l1 ≡ true
  pub colour-small : (i : ℕ) → i < 2 * hues → level_fits (palette_lab palette hues i).l ≡ true
  pub sigmas-small : sigmas_fit n ≡ true
  pub dark : (h : ℕ) → h < hues → dark_clear threshold n palette hues h ≡ true
  pub light : (h : ℕ) → h < hues → light_clear threshold n palette hues h ≡ true
  pub dark-apart : chroma_on hues ≡ true → (h : ℕ) → h < hues → Apart n palette hues h h
  pub light-apart : chroma_on hues ≡ true → (h : ℕ) → h < hues → Apart n palette hues (hues + h) h

abbrev pub MarginClauses : Type 0
MarginClauses = (threshold : Float) (n : ChannelStats) (palette : List Float) (hues : ℕ) → in_margin threshold n palette hues ≡ true → Clear threshold n palette hues

-- the check's two settings: yes at 13 is yes at 9
abbrev pub YesAtNine : Type 0
YesAtNine = (n : ChannelStats) (palette : List Float) (hues : ℕ) → margin_at_answer Thirteen n palette hues ≡ gives true → margin_at_answer Nine n palette hues ≡ gives true

-- a list of f32 values, as a slice of the code's is
abbrev pub AllSingles : List Float → Type 0
AllSingles l = (i : ℕ) → T (fits binary32 (get_or l i nan))

-- a record that passes sentences 8 and 9
pub record Passing (r : ChannelStats) : Type 0 where
  pub eight : bad_noise_numbers r ≡ false
  pub nine : bad_sigmas r ≡ false
  pub singles : HeldAsSingles r

abbrev pub MeasuredRecords : Type 0
MeasuredRecords = (q : Request) → AllSingles q.flat → AllSingles q.palette → (r : Measurement) → (measure_of q).said ≡ gives r → Passing r.noise

-- The public calls of the noise record: which sentences of document 01 each can meet, in checking order, and what it answers. Definitions only.
use Rattle.std.specs.Prelude.{Bool, not, ◌||◌, ◌&&◌, List, [], ◌∷◌, ℕ, ◌^◌, ltb, length, Float}
use Rattle.std.specs.Float.Ieee.{neg, lt, le, eq}
use Rattle.sentences.specs.Sentences.{Sentence, ◌when◌}
use Rattle.limits.specs.Limits.{bad_hues}
use Rattle.answers.specs.Answers.{Said, answered, Ended, written_or}
use Rattle.color.specs.declared.Lab.{Lab}
use Rattle.color.specs.Color.{whole, fraction}
use Rattle.color.specs.Palette.{palette_len, wild_palette}
use Rattle.stats.specs.declared.ChannelStats.{ChannelStats}
use Rattle.stats.specs.Noise.{sigma_ab_at, luma_llr, reliability, hue_log_likelihoods, nominal}

-- ---- the sentences

-- 5: the palette is shorter than two levels, a and b of each hue, and the Lab of each colour
unfoldable pub short_palette : List Float → ℕ → Bool
short_palette palette hues = ltb (length palette) (palette_len hues)

-- 5, of the likelihoods: the palette or the room for one a hue is too short
unfoldable pub short_likelihoods : List Float → ℕ → List Float → Bool
short_likelihoods palette hues out = short_palette palette hues || ltb (length out) hues

-- 8: "a noise figure is not finite or above 2^40 in magnitude"
unfoldable pub wild_figure : Float → Bool
wild_figure v = not (le v (whole (2 ^ 40)) && le (neg (whole (2 ^ 40))) v)

-- of every figure of the record; `samples` is a count
unfoldable pub bad_noise_numbers : ChannelStats → Bool
bad_noise_numbers n =
    wild_figure n.l0
    || (wild_figure n.l1
    || (wild_figure n.sigma_l
    || (wild_figure n.sigma_ab
    || (wild_figure n.sigma_ab_dark || wild_figure n.sigma_ab_light))))

-- "a `sigma_ab_level` figure is neither 0 nor at least 0.75"
unfoldable pub bad_level_sigma : Float → Bool
bad_level_sigma v = not (eq v (whole 0) || le (fraction 75 100) v)

-- 9: "`sigma_l` or `sigma_ab` is below 0.75, or .."
unfoldable pub bad_sigmas : ChannelStats → Bool
bad_sigmas n =
    lt n.sigma_l (fraction 75 100)
    || (lt n.sigma_ab (fraction 75 100)
    || (bad_level_sigma n.sigma_ab_dark || bad_level_sigma n.sigma_ab_light))

-- 8, of a palette and a noise record
unfoldable pub bad_numbers : ChannelStats → List Float → ℕ → Bool
bad_numbers n palette hues = wild_palette palette hues || bad_noise_numbers n

-- ---- what each call can meet

-- `sigma_ab_at`, `luma_llr`
unfoldable pub record_sentences : ChannelStats → List Sentence
record_sentences n = (8 when bad_noise_numbers n) ∷ (9 when bad_sigmas n) ∷ []

-- `nominal`
unfoldable pub palette_sentences : List Float → ℕ → List Sentence
palette_sentences palette hues =
    (3 when bad_hues hues) ∷ (5 when short_palette palette hues) ∷ (8 when wild_palette palette hues) ∷ []

-- the last two of the calls below, and of the colour counts
abbrev pub figure_sentences : ChannelStats → List Float → ℕ → List Sentence
figure_sentences n palette hues = (8 when bad_numbers n palette hues) ∷ (9 when bad_sigmas n) ∷ []

-- `reliability`, and the margin check
unfoldable pub sentences_of : ChannelStats → List Float → ℕ → List Sentence
sentences_of n palette hues =
    (3 when bad_hues hues) ∷
    (5 when short_palette palette hues) ∷
    (8 when bad_numbers n palette hues) ∷
    (9 when bad_sigmas n) ∷
    []

-- `hue_log_likelihoods`, which is lent room for a likelihood a hue too
unfoldable pub likelihood_sentences : ChannelStats → List Float → ℕ → List Float → List Sentence
likelihood_sentences n palette hues out =
    (3 when bad_hues hues) ∷
    (5 when short_likelihoods palette hues out) ∷
    (8 when bad_numbers n palette hues) ∷
    (9 when bad_sigmas n) ∷
    []

-- ---- what each call answers

abbrev pub sigma_ab_answer : ChannelStats → Float → Said Float
sigma_ab_answer n l = answered (record_sentences n) (sigma_ab_at n l)

abbrev pub luma_llr_answer : ChannelStats → Float → Said Float
luma_llr_answer n l = answered (record_sentences n) (luma_llr n l)

abbrev pub reliability_answer : ChannelStats → Lab → List Float → ℕ → Said Float
reliability_answer n sample palette hues = answered (sentences_of n palette hues) (reliability n sample palette hues)

abbrev pub likelihoods_answer : ChannelStats → Lab → List Float → ℕ → List Float → Ended Float
likelihoods_answer n sample palette hues out =
    written_or (likelihood_sentences n palette hues out) out (hue_log_likelihoods n sample palette hues out)

abbrev pub nominal_answer : List Float → ℕ → Said ChannelStats
nominal_answer palette hues = answered (palette_sentences palette hues) (nominal palette)

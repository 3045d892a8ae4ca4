-- Each answer as a struct for C: document 01's number, 0 where the call is accepted, and the values, which are zeros where there
-- are none. Definitions only.
use Rattle.std.specs.Prelude.{Bool, true, false, ℕ, Float}
use Rattle.std.proofs.Math.Option.{get_or}
use Rattle.std.specs.Float.{binary32}
use Rattle.std.specs.Float.Ieee.{of_bits}
use Rattle.answers.specs.Answers.{Said}
use Rattle.color.specs.declared.Linear.{Linear}
use Rattle.demod.specs.declared.ScoreReport.{ScoreReport}
use Rattle.illum.specs.declared.IlluminationModel.{IlluminationModel}
use Rattle.illum.specs.declared.Marked.{Marked}
use Rattle.illum.specs.Refusals as illum
use Rattle.measure.specs.declared.Measurement.{Measurement}
use Rattle.modulate.specs.declared.Cell.{Cell}
use Rattle.modulate.specs.declared.Cell.TheVariants as cell
use Rattle.stats.specs.declared.ChannelStats.{ChannelStats}
use Rattle.margin.specs.declared.Threshold.{Threshold}
use Rattle.margin.specs.declared.Threshold.TheVariants as threshold
use Rattle.exports.specs.declared.replies.SolveAnswer.{SolveAnswer}
use Rattle.exports.specs.declared.replies.NumberAnswer.{NumberAnswer}
use Rattle.exports.specs.declared.replies.FlagAnswer.{FlagAnswer}
use Rattle.exports.specs.declared.replies.FloatAnswer.{FloatAnswer}
use Rattle.exports.specs.declared.replies.LinearAnswer.{LinearAnswer}
use Rattle.exports.specs.declared.replies.ModelAnswer.{ModelAnswer}
use Rattle.exports.specs.declared.replies.NoiseAnswer.{NoiseAnswer}
use Rattle.totals.specs.declared.Totals.{Totals}
use Rattle.totals.specs.declared.Ratio.{Ratio}
use Rattle.totals.specs.Batch as batch
use Rattle.totals.specs.LowestTerms as mean
use Rattle.exports.specs.declared.replies.TotalsAnswer.{TotalsAnswer}
use Rattle.exports.specs.declared.replies.RatioAnswer.{RatioAnswer}
use Rattle.exports.specs.declared.replies.MeasureAnswer.{MeasureAnswer}
use Rattle.exports.specs.declared.replies.ScoreAnswer.{ScoreAnswer}

-- what stands where there is no value: +0, whose bits are all zero
abbrev pub zero : Float
zero = of_bits binary32 0

abbrev pub no_colour : Linear
no_colour = record { r = zero; g = zero; b = zero }

abbrev pub no_marked : Marked
no_marked = record { colour = no_colour; held_r = false; held_g = false; held_b = false }

abbrev pub no_record : ChannelStats
no_record =
    record { l0 = zero; l1 = zero; sigma_l = zero; sigma_ab = zero; sigma_ab_dark = zero; sigma_ab_light = zero; samples = 0 }

abbrev pub no_measurement : Measurement
no_measurement = record { noise = no_record; held = 0 }

abbrev pub no_report : ScoreReport
no_report = record { held_modules = 0; held_cells = 0 }

-- ---- each struct by its fields

abbrev pub solution : ℕ → Bool → SolveAnswer
solution n b = record { number = n; solved = b }

abbrev pub counted : ℕ → ℕ → NumberAnswer
counted n v = record { number = n; value = v }

abbrev pub judged : ℕ → Bool → FlagAnswer
judged n b = record { number = n; yes = b }

abbrev pub valued : ℕ → Float → FloatAnswer
valued n v = record { number = n; value = v }

abbrev pub corrected : ℕ → Marked → LinearAnswer
corrected n c = record { number = n; colour = c.colour; held_r = c.held_r; held_g = c.held_g; held_b = c.held_b }

abbrev pub fitted : ℕ → IlluminationModel → ModelAnswer
fitted n m = record { number = n; model = m }

abbrev pub noted : ℕ → ChannelStats → NoiseAnswer
noted n c = record { number = n; noise = c }

abbrev pub measured : ℕ → Measurement → MeasureAnswer
measured n m = record { number = n; noise = m.noise; held = m.held }

abbrev pub scored : ℕ → ScoreReport → ScoreAnswer
scored n r = record { number = n; held_modules = r.held_modules; held_cells = r.held_cells }

abbrev pub totalled : ℕ → Totals → TotalsAnswer
totalled n t = record { number = n; totals = t }

abbrev pub averaged : ℕ → Ratio → RatioAnswer
averaged n q = record { number = n; ratio = q }

-- ---- each answer

-- a struct of what an answer says: its number, and its value, or v where it gives none
unfoldable pub struct_of : {R A : Type 0} → (ℕ → A → R) → A → Said A → R
struct_of make v s = make s.number (get_or s.value v)

-- `solve`, `finish`, `least_squares`
abbrev pub solve_answer : Said Bool → SolveAnswer
solve_answer s = struct_of solution false s

-- `correct`
abbrev pub linear_answer : Said Marked → LinearAnswer
linear_answer s = struct_of corrected no_marked s

-- `identity`, `fit`, `fit_flat`: of a refusal the model is zeros too
abbrev pub model_answer : illum.Modelled → ModelAnswer
model_answer m = fitted m.number m.model

-- `measure`, `measure_flat`
abbrev pub measure_answer : Said Measurement → MeasureAnswer
measure_answer s = struct_of measured no_measurement s

-- `score`, `read_bits`
abbrev pub score_answer : Said ScoreReport → ScoreAnswer
score_answer s = struct_of scored no_report s

-- `nominal`
abbrev pub noise_answer : Said ChannelStats → NoiseAnswer
noise_answer s = struct_of noted no_record s

-- `mad_sigma`, `sigma_ab_at`, `luma_llr`, `reliability`
abbrev pub float_answer : Said Float → FloatAnswer
float_answer s = struct_of valued zero s

-- `margin`, `margin_at`, `palette::is_empty`
abbrev pub flag_answer : Said Bool → FlagAnswer
flag_answer s = struct_of judged false s

-- the calls that give a number
abbrev pub number_answer : Said ℕ → NumberAnswer
number_answer s = struct_of counted 0 s

-- `add_card`, `add_totals`
abbrev pub totals_answer : Said Totals → TotalsAnswer
totals_answer s = struct_of totalled batch.nothing s

-- `mean`
abbrev pub ratio_answer : Said Ratio → RatioAnswer
ratio_answer s = struct_of averaged (mean.over 0 0) s

-- ---- what goes in as an enum

-- `chroma_bit_llrs`: the cell (cx, cy), or a ring module
abbrev pub cell_of : Bool → ℕ → ℕ → Cell
cell_of true cx cy = cell.At cx cy
cell_of false cx cy = cell.Unmasked

-- `margin_at`: the setting 9, or 13
abbrev pub threshold_of : Bool → Threshold
threshold_of true = threshold.Nine
threshold_of false = threshold.Thirteen

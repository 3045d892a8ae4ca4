-- What a call leaves: its answer for C beside the slices that it was lent. Definitions only.
use Rattle.std.specs.Prelude.{List, ℕ, Float}
use Rattle.answers.specs.Answers.{Ended}
use Rattle.bits.specs.Reading as bits
use Rattle.demod.specs.Call as demod
use Rattle.fit.specs.Fit as fit
use Rattle.math.specs.Gauss as gauss
use Rattle.math.specs.Normal as normal
use Rattle.measure.specs.Measure as measure
use Rattle.modulate.specs.Draw as draw
use Rattle.near.specs.Near as near
use Rattle.order.specs.Deviation as deviation
use Rattle.refine.specs.Calls as refine
use Rattle.exports.specs.declared.replies.SolveAnswer.{SolveAnswer}
use Rattle.exports.specs.declared.replies.NumberAnswer.{NumberAnswer}
use Rattle.exports.specs.declared.replies.ModelAnswer.{ModelAnswer}
use Rattle.exports.specs.declared.replies.MeasureAnswer.{MeasureAnswer}
use Rattle.exports.specs.declared.replies.ScoreAnswer.{ScoreAnswer}
use Rattle.exports.specs.declared.replies.FloatAnswer.{FloatAnswer}
use Rattle.exports.specs.Replies.{solve_answer, number_answer, model_answer, measure_answer, score_answer, float_answer}

-- an answer, and one, two or three lent slices
pub record Exit1 (R A : Type 0) : Type 0 where
  pub answer : R
  pub first : List A

pub record Exit2 (R A B : Type 0) : Type 0 where
  pub answer : R
  pub first : List A
  pub second : List B

pub record Exit3 (R A B C : Type 0) : Type 0 where
  pub answer : R
  pub first : List A
  pub second : List B
  pub third : List C

abbrev pub exit1 : {R A : Type 0} → R → List A → Exit1 R A
exit1 r a = record { answer = r; first = a }

abbrev pub exit2 : {R A B : Type 0} → R → List A → List B → Exit2 R A B
exit2 r a b = record { answer = r; first = a; second = b }

abbrev pub exit3 : {R A B C : Type 0} → R → List A → List B → List C → Exit3 R A B C
exit3 r a b c = record { answer = r; first = a; second = b; third = c }

-- `solve`, `finish`
unfoldable pub solve_exit : gauss.Final → Exit3 SolveAnswer Float Float Float
solve_exit f = exit3 (solve_answer f.said) f.a f.b f.x

-- `fit`, `fit_flat`
unfoldable pub fit_exit : fit.Final → Exit2 ModelAnswer ℕ Float
fit_exit f = exit2 (model_answer f.answer) f.kept f.scratch

-- `measure`, `measure_flat`
unfoldable pub measure_exit : measure.Final → Exit1 MeasureAnswer Float
measure_exit f = exit1 (measure_answer f.said) f.scratch

-- `score`
unfoldable pub score_exit : demod.Final → Exit3 ScoreAnswer Float Float Float
score_exit f = exit3 (score_answer f.answer) f.luma f.colours f.chroma

abbrev pub scored : demod.Request → Exit3 ScoreAnswer Float Float Float
scored q = score_exit (demod.scored_of q)

-- `read_bits`, which is lent six slices
pub record Exit6 : Type 0 where
  pub answer : ScoreAnswer
  pub lent : bits.Lent

abbrev pub exit6 : ScoreAnswer → List Float → List Float → List Float → List Float → List ℕ → List ℕ → Exit6
exit6 r luma colours chroma scratch b y = record { answer = r; lent = bits.lent luma colours chroma scratch b y }

unfoldable pub read_exit : bits.Left → Exit6
read_exit f = record { answer = score_answer f.answer; lent = f.lent }

-- `add_local_luma`
unfoldable pub refine_exit : refine.Final → Exit2 ℕ Float Float
refine_exit f = exit2 f.number f.luma f.scratch

-- `add_row`
unfoldable pub add_row_exit : normal.Grown → Exit2 ℕ Float Float
add_row_exit f = exit2 f.number f.equations.a f.equations.b

-- `least_squares`
unfoldable pub fitted_exit : normal.Fitted → Exit1 SolveAnswer Float
fitted_exit f = exit1 (solve_answer f.said) f.x

-- `mad_sigma`
unfoldable pub sigma_exit : deviation.Final → Exit1 FloatAnswer Float
sigma_exit f = exit1 (float_answer f.said) f.scratch

-- `chroma_bit_llrs`, `unmask_luma`, `read_list`, `hue_log_likelihoods`, `colour_counts`
unfoldable pub write_exit : {A : Type 0} → Ended A → Exit1 ℕ A
write_exit f = exit1 f.number f.list

-- `draw`
unfoldable pub draw_exit : draw.Drawn → Exit2 ℕ ℕ ℕ
draw_exit f = exit2 f.number f.levels f.hues

-- `nearest`, `within`, `cut_off`
unfoldable pub near_exit : near.Final → Exit1 NumberAnswer ℕ
near_exit f = exit1 (number_answer f.said) f.out

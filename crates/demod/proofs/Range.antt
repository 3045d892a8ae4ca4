-- The luma scores of an accepted call are finite and within ±20: the record passes sentences 8 and 9 and each corrected colour sentence 12, so `luma_llr` is within ±20, and the weight is from 0 to 1.
-- Assumes nothing.
use mathlib.Core.Path.{◌≡◌, ap, ◌∙◌}
use mathlib.Core.Bool.{Bool, true, false, cond}
use mathlib.Core.List.{List}
use Prim.Native.Nat.{ℕ, ◌<◌}
use lib.Dec.{T}
use lib.IntN.{ℤ}
use lib.ListN.{length, get_or}
use lib.Ieee.{Float, nan, binary32, neg, mul, round, fits}
use Rattle.limits.specs.Chroma.{weighted}
use Rattle.floatlaws.specs.Ops.{mul-swap}
use Rattle.floatlaws.specs.Interval.{In}
use Rattle.floatlaws.proofs.Interval.{mul_in_signed}
use Rattle.float.proofs.Single.{single-fits}
use Rattle.color.specs.declared.Linear.{Linear}
use Rattle.color.specs.Color.{whole, fraction, linear_to_lab}
use Rattle.color.specs.Palette.{linear_at, wild_linear}
use Rattle.color.proofs.Bounded.{lab-within}
use Rattle.answers.specs.Answers.{gives}
use Rattle.illum.specs.declared.IlluminationModel.{IlluminationModel}
use Rattle.illum.specs.Correct.{affine_row, mixed}
use Rattle.stats.specs.declared.ChannelStats.{ChannelStats}
use Rattle.stats.specs.Noise.{luma_llr, reliability}
use Rattle.stats.proofs.Range.{Held, Good, good, luma_llr_in}
use Rattle.stats.proofs.Reliable.{reliability_in}
use Rattle.observed.specs.Colours.{module_colour}
use Rattle.scores.specs.Score.{weighed, luma_score}
use Rattle.demod.specs.Call.{Request, Final, module_colours, report_of, scored_of}
use Rattle.demod.proofs.Outcome.{at_done}

-- the components are f32 values
pub record Components (c : Linear) : Type 0 where
  pub r : T (fits binary32 c.r)
  pub g : T (fits binary32 c.g)
  pub b : T (fits binary32 c.b)

-- since a corrected colour is rounded to f32
pub module_components : (model : IlluminationModel) (xs ys : List ℤ) (raw : List Float) (i : ℕ) → Components (module_colour model xs ys raw i)
unfolding module_colour mixed affine_row
module_components model xs ys raw i = record { r = single-fits _; g = single-fits _; b = single-fits _ }

-- a score within ±20, times a weight from 0 to 1
pub weighed_in : (v w : Float) → In binary32 (neg (whole 20)) (whole 20) v → In binary32 (whole 0) (whole 1) w → In binary32 (neg (whole 20)) (whole 20) (weighed v w)
unfolding weighed mul neg fraction round
weighed_in v w p q = rw (mul-swap binary32 v w) (mul_in_signed q p tt)

module _ (n : ChannelStats) (g : Good n) (palette : List Float) (hues : ℕ) (c : Linear) (f : Components c) (h : wild_linear c ≡ false) where
  llr_in : In binary32 (neg (whole 20)) (whole 20) (luma_llr n (linear_to_lab c).l)
  llr_in = luma_llr_in n g (linear_to_lab c).l (lab-within c f.r f.g f.b h).l

  pub luma_score_in : In binary32 (neg (whole 20)) (whole 20) (luma_score n palette hues c)
  unfolding luma_score
  luma_score_in = either (weighted hues)
    where
      either : (b : Bool) → In binary32 (neg (whole 20)) (whole 20) (cond b (weighed (luma_llr n (linear_to_lab c).l) (reliability n (linear_to_lab c) palette hues)) (luma_llr n (linear_to_lab c).l))
      either true = weighed_in (luma_llr n (linear_to_lab c).l) (reliability n (linear_to_lab c) palette hues) llr_in (reliability_in n (linear_to_lab c) palette hues)
      either false = llr_in

-- the scores that an accepted call leaves
pub luma_in : (q : Request) → Held q.noise → (scored_of q).answer ≡ gives (report_of q) → (i : ℕ) → i < length q.xs → In binary32 (neg (whole 20)) (whole 20) (get_or (scored_of q).luma i nan)
luma_in q f e i l =
    let d = at_done q e in
    let a = d.fit in
    let s = luma_score_in q.noise (good q.noise f a.inputs.noise-tame a.sigmas) q.palette q.layout.hues (module_colours q i) (module_components q.model q.xs q.ys q.raw i) (a.modules-tame i l) in
    rw (ap (λ (t : Final). get_or t.luma i nan) d.left ∙ d.wrote.scored i l) s

-- and the corrected colours, which pass sentence 8 in turn
pub colour-tame : (q : Request) → (scored_of q).answer ≡ gives (report_of q) → (i : ℕ) → i < length q.xs → wild_linear (linear_at (scored_of q).colours i) ≡ false
colour-tame q e i l =
    let d = at_done q e in
    rw (ap (λ (t : Final). linear_at t.colours i) d.left ∙ d.wrote.coloured i l) (d.fit.modules-tame i l)

-- Inside the margin the hue of the colour that a sample is within half a sigma of leads, so each bit score has the sign of that hue's symbol; the weight, 0.9931 at least, and the clamp keep that sign: the
-- smallest float times the least weight is not 0. Assumes nothing.
use mathlib.Core.Path.{◌≡◌, refl, sym, ◌∙◌}
use mathlib.Core.Logic.{◌⊎◌, inl, inr}
use mathlib.Core.Bool.{true, false}
use mathlib.Core.List.{List}
use Prim.Native.Nat.{ℕ, zero, suc, ◌≤◌, ◌<◌}
use native.Mathlib.Omega.{arith}
use lib.IntN.{negsuc}
use lib.ListN.{length, get_or}
use lib.Ieee.{Float, nan, fin, binary32, neg, mul, lt, le, of_bits, fits}
use Rattle.floatlaws.specs.Value.{unit-pos, mag, hi, lo, Num}
use Rattle.floatlaws.specs.Order.{Le, Lt, sides, le_trans, above-none, hi_neg, lo_neg}
use Rattle.floatlaws.specs.Ops.{hi_positive, mul-swap}
use Rattle.floatlaws.proofs.Mono.{mul-both, mul_mono, mul_anti'}
use Rattle.floatlaws.specs.Finite.{Fin, num, neg-fin, mul-num, mul-num-pos}
use Rattle.floatlaws.specs.Interval.{none, in_pos}
use Rattle.float.specs.Select.{abs, clamp}
use Rattle.float.proofs.Select.{clamp-num, clamp_gt, clamp_lt}
use Rattle.color.specs.declared.Lab.{Lab}
use Rattle.color.specs.declared.palette.Ab.{Ab}
use Rattle.color.specs.Color.{whole}
use Rattle.color.specs.Palette.{hue_ab, palette_lab}
use Rattle.modulate.specs.declared.Cell.{Cell}
use Rattle.modulate.specs.Score.{bit_of_hue, bit_llr}
use Rattle.reading.specs.Read.{reads}
use Rattle.reading.proofs.Sign.{read-zero, read_one}
use Rattle.modulate.proofs.Decided.{Leads, for_zero, for_one, bit_lt}
use Rattle.lists.proofs.Laws.{reached}
use Rattle.refine.proofs.Sign.{below_none}
use Rattle.stats.specs.declared.ChannelStats.{ChannelStats}
use Rattle.stats.specs.Arithmetic.{◌⊖◌, ◌⊗◌}
use Rattle.stats.specs.Noise.{sigma_ab_at, denominator, hue_log_likelihood, put_likelihood, hue_log_likelihoods}
use Rattle.margin.specs.Margin.{near, far}
use Rattle.stats.proofs.Range.{twenty_is}
use Rattle.stats.proofs.Reliable.{zero_is}
use Rattle.margin.proofs.Clear.{Apart}
use Rattle.guarantee.proofs.Range.{Tame, both, either}
use Rattle.guarantee.proofs.Luma.{twenty-order}
use Rattle.guarantee.proofs.Sigma.{Scale, Any, sigma_in}
use Rattle.guarantee.proofs.Weight.{Bounded, Near, Weight, least_weight}
use Rattle.guarantee.proofs.Score.{weight-fin}
use Rattle.guarantee.proofs.Hue as hue

-- ---- the list of likelihoods, entry by entry

pub likelihood_at : (n : ChannelStats) (sample : Lab) (palette : List Float) (hues : ℕ) (out : List Float) → hues ≤ length out → (h : ℕ) → h < hues →
    get_or (hue_log_likelihoods n sample palette hues out) h nan ≡ hue_log_likelihood sample (denominator n sample) palette h
unfolding put_likelihood
likelihood_at n sample palette hues out l h k = (reached nan (λ i v. hue_log_likelihood sample (denominator n sample) palette i) out hues l).done h k

-- ---- the own hue leads

pub record BoundedAb (p : Ab) : Type 0 where
  pub a : Any p.a
  pub b : Any p.b

module _ (n : ChannelStats) (t : Tame n) (palette : List Float) (hues : ℕ) (points : (h : ℕ) → h < hues → BoundedAb (hue_ab palette h)) (sample : Lab) (P : Bounded sample)
    (i own : ℕ) (below : own < hues) (C : Bounded (palette_lab palette hues i)) (apart : Apart n palette hues i own) (close : Near n sample (palette_lab palette hues i)) where
  abbrev colour : Lab
  colour = palette_lab palette hues i

  pub scale : Scale (sigma_ab_at n (palette_lab palette hues i).l)
  scale = sigma_in n t (palette_lab palette hues i).l C.l

  pub sample_scale : Scale (sigma_ab_at n sample.l)
  sample_scale = sigma_in n t sample.l P.l

  abbrev pub runner_up : Float
  runner_up = hue.between scale sample_scale

  module _ (h : ℕ) (l : h < hues) where
    axis_a : hue.Difference (sample.a ⊖ (hue_ab palette h).a)
    axis_a = hue.difference P.a (points h l).a

    axis_b : hue.Difference (sample.b ⊖ (hue_ab palette h).b)
    axis_b = hue.difference P.b (points h l).b

  top : Fin binary32 (hue_log_likelihood sample (denominator n sample) palette own)
  unfolding hue_log_likelihood denominator
  top = hue.own-fin scale sample_scale (axis_a own below) (axis_b own below)

  ahead : Lt binary32 runner_up (hue_log_likelihood sample (denominator n sample) palette own)
  unfolding hue_log_likelihood denominator near
  ahead =
      let e = both (le (abs (colour.a ⊖ (hue_ab palette own).a)) (sigma_ab_at n colour.l)) (le (abs (colour.b ⊖ (hue_ab palette own).b)) (sigma_ab_at n colour.l)) apart.at_own in
      hue.own-ahead scale sample_scale (axis_a own below) (axis_b own below)
      (hue.at_own scale close.a C.a (points own below).a e.0) (hue.at_own scale close.b C.b (points own below).b e.1)

  behind : (h : ℕ) → h < hues → (h ≡ own → ⊥) → Num binary32 (hue_log_likelihood sample (denominator n sample) palette h) × Le binary32 (hue_log_likelihood sample (denominator n sample) palette h) runner_up
  unfolding hue_log_likelihood denominator far
  behind h l d = (
    hue.likelihood scale sample_scale (axis_a h l) (axis_b h l),
    hue.other-behind scale sample_scale (axis_a h l) (axis_b h l)
        (by (either (lt (whole 4 ⊗ sigma_ab_at n colour.l) (abs (colour.a ⊖ (hue_ab palette h).a))) (lt (whole 4 ⊗ sigma_ab_at n colour.l) (abs (colour.b ⊖ (hue_ab palette h).b))) (apart.off-others h l d))),
  )
    where
      by : (lt (whole 4 ⊗ sigma_ab_at n colour.l) (abs (colour.a ⊖ (hue_ab palette h).a)) ≡ true) ⊎ (lt (whole 4 ⊗ sigma_ab_at n colour.l) (abs (colour.b ⊖ (hue_ab palette h).b)) ≡ true) →
          (hi binary32 (hue.far_edge (sigma_ab_at n colour.l)) ≤ mag binary32 (sample.a ⊖ (hue_ab palette h).a)) ⊎ (hi binary32 (hue.far_edge (sigma_ab_at n colour.l)) ≤ mag binary32 (sample.b ⊖ (hue_ab palette h).b))
      by (inl e) = inl (hue.off-other scale close.a C.a (points h l).a e)
      by (inr e) = inr (hue.off-other scale close.b C.b (points h l).b e)

  pub leads : (out : List Float) → hues ≤ length out → Leads (hue_log_likelihoods n sample palette hues out) hues own runner_up
  leads out l =
      record {
        here = below;
        top = rw (likelihood_at n sample palette hues out l own below) top;
        runner-up = hue.between-fin scale sample_scale;
        ahead = rw (likelihood_at n sample palette hues out l own below) ahead;
        others = λ h k d. rw (likelihood_at n sample palette hues out l h k) (behind h k d);
      }

-- ---- a score that is not 0 keeps its sign when it is weighed and held to ±20

-- the smallest float above 0
abbrev tiny : Float
tiny = fin false 1 (negsuc 148)

tiny-fin : Fin binary32 tiny
unfolding fits
tiny-fin = record { fit = tt; finite = tt }

tiny_hi : hi binary32 tiny ≡ 1
unfolding hi mag
tiny_hi = refl

tiny_lo : lo binary32 tiny ≡ 0
unfolding lo mag
tiny_lo = refl

-- it survives the least weight
tiny-weighed : 0 < hi binary32 (tiny ⊗ least_weight)
unfolding mul of_bits fits
tiny-weighed = hi_positive binary32 (tiny ⊗ least_weight) (mul-num tiny-fin weight-fin) tt

tiny-weighed-minus : 0 < lo binary32 (neg tiny ⊗ least_weight)
unfolding hi lo mag neg mul of_bits
tiny-weighed-minus = omega arith

least-plain : lo binary32 least_weight ≡ 0
unfolding lo of_bits
least-plain = refl

module _ {v w : Float} (N : Num binary32 v) (W : Weight w) where
  weight-above : 0 < hi binary32 w
  unfolding of_bits
  weight-above = in_pos W tt

  weight-plain : lo binary32 w ≡ 0
  unfolding of_bits
  weight-plain = none W tt

  weighed : Num binary32 (v ⊗ w)
  weighed = rw (mul-swap binary32 v w) (mul-num-pos W.is weight-above N)

  held : Num binary32 (clamp (neg (whole 20)) (whole 20) (v ⊗ w))
  held = clamp-num (num (neg-fin twenty_is.is)) twenty_is.num twenty-order weighed

  pub stays-above : 0 < hi binary32 v → 0 < hi binary32 (clamp (neg (whole 20)) (whole 20) (v ⊗ w))
  stays-above h =
      let o = above-none binary32 v h in
      let u : Le binary32 tiny v = record { le = omega (arith, tiny_hi, tiny_lo) } in
      let m = sides (mul-both (num tiny-fin) N (num weight-fin) (num W.is) (mul-num tiny-fin weight-fin) weighed tiny_lo least-plain u W.low) in
      let g : Lt binary32 (whole 0) (v ⊗ w) = record { lt = omega (arith, m.0, m.1, tiny-weighed, above-none binary32 (tiny ⊗ least_weight) tiny-weighed, zero_is.hi, zero_is.lo) } in
      let c = clamp_gt (num (neg-fin twenty_is.is)) twenty_is.num weighed g (record { lt = omega (arith, zero_is.hi, zero_is.lo, twenty_is.hi, twenty_is.lo, unit-pos binary32) }) in
      omega (arith, c.lt, zero_is.hi, zero_is.lo)

  pub stays-below : 0 < lo binary32 v → 0 < lo binary32 (clamp (neg (whole 20)) (whole 20) (v ⊗ w))
  stays-below h =
      let o = below_none v h in
      let e = neg-fin tiny-fin in
      let u : Le binary32 v (neg tiny) = record { le = omega (arith, tiny_hi, tiny_lo, hi_neg binary32 tiny, lo_neg binary32 tiny) } in
      let a = mul_mono N (num e) (num W.is) weighed (mul-num e W.is) weight-plain u in
      let b = mul_anti' (num weight-fin) (num W.is) (num e) (mul-num e weight-fin) (mul-num e W.is) (hi_neg binary32 tiny ∙ tiny_lo) W.low in
      let m = sides (le_trans a b) in
      let z = below_none (v ⊗ w) (omega (arith, m.1, tiny-weighed-minus)) in
      let g : Lt binary32 (v ⊗ w) (whole 0) = record { lt = omega (arith, m.1, tiny-weighed-minus, zero_is.hi, zero_is.lo) } in
      let c = clamp_lt (num (neg-fin twenty_is.is)) twenty_is.num weighed g (record { lt = omega (arith, zero_is.hi, zero_is.lo, twenty_is.hi, twenty_is.lo, hi_neg binary32 (whole 20), lo_neg binary32 (whole 20), unit-pos binary32) }) in
      omega (arith, c.lt, zero_is.hi, zero_is.lo)

-- ---- so the bit that is read is the same

module _ (ll : List Float) (cell : Cell) (k b h : ℕ) (y : Float) (p : Leads ll k h y) {w : Float} (W : Weight w) where
  abbrev pub held_score : Float
  held_score = clamp (neg (whole 20)) (whole 20) (bit_llr ll cell k b ⊗ w)

  by : (n : ℕ) → bit_of_hue cell k b h ≡ n → n < 2 → (reads held_score ≡ reads (bit_llr ll cell k b)) × ((0 < hi binary32 held_score) ⊎ (0 < lo binary32 held_score))
  by zero e l =
      let d = for_zero ll cell k b h y p e in
      let u = stays-above d.is W d.above in
      (read-zero held_score (held d.is W) u ∙ sym (read-zero (bit_llr ll cell k b) d.is d.above), inl u)
  by (suc zero) e l =
      let d = for_one ll cell k b h y p e in
      let u = stays-below d.is W d.below in
      (read_one held_score (held d.is W) u ∙ sym (read_one (bit_llr ll cell k b) d.is d.below), inr u)
  by (suc (suc n)) e l = absurd (omega arith)

  pub read_held : reads held_score ≡ reads (bit_llr ll cell k b)
  read_held = (by (bit_of_hue cell k b h) refl (bit_lt cell k b h)).0

  -- and the score is not 0
  pub never-zero : (0 < hi binary32 held_score) ⊎ (0 < lo binary32 held_score)
  never-zero = (by (bit_of_hue cell k b h) refl (bit_lt cell k b h)).1

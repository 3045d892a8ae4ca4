-- The luma score inside the margin, over any threshold: half a sigma from a dark colour, L is at most what the margin check tested, so `luma_llr` is at least the threshold; from a light one L is at
-- least that, so it is at most minus the threshold; and the weight takes 0.7 % of it at most. At 13 that leaves 12, at 9 it leaves 8.5. Assumes nothing.
use mathlib.Core.Path.{◌≡◌, refl, ◌∙◌}
use mathlib.Core.Bool.{true}
use mathlib.Core.List.{List}
use Prim.Native.Nat.{ℕ, ◌+◌}
use native.Mathlib.Omega.{arith}
use lib.Dec.{T}
use lib.Ieee.{Float, binary32, neg, add, sub, mul, div, le, round, of_bits, fits}
use Rattle.floatlaws.specs.Value.{unit-pos, lo, both-sides, Num}
use Rattle.floatlaws.specs.Order.{Le, Lt, of_le, to_le, sides, le_trans, neg-num, neg_anti, hi_neg, lo_neg}
use Rattle.floatlaws.proofs.Near.{above, under}
use Rattle.floatlaws.proofs.Ops.{add_rounds, sub-rounds}
use Rattle.floatlaws.proofs.Mono.{mul_mono, mul_mono', mul_anti'}
use Rattle.floatlaws.specs.Finite.{Fin, num, neg-fin, mul-num}
use Rattle.floatlaws.specs.Const.{Const, const, is_const}
use Rattle.floatlaws.specs.Interval.{In, within, point, none}
use Rattle.floatlaws.proofs.Interval.{add_in, sub_in, div_in}
use Rattle.float.specs.Select.{abs}
use Rattle.float.proofs.Select.{abs-sides, abs-num}
use Rattle.color.specs.Color.{whole, fraction}
use Rattle.color.specs.Palette.{palette_lab}
use Rattle.stats.specs.declared.ChannelStats.{ChannelStats}
use Rattle.margin.specs.declared.Threshold.{Threshold}
use Rattle.margin.specs.declared.Threshold.TheVariants.{Thirteen, Nine}
use Rattle.stats.specs.Arithmetic.{◌⊕◌, ◌⊖◌, ◌⊗◌, ◌⊘◌}
use Rattle.stats.specs.Noise.{luma_llr}
use Rattle.margin.specs.Margin.{dark_clear, light_clear}
use Rattle.margin.specs.Calls.{least_of}
use Rattle.margin.proofs.Wider.{least-num}
use Rattle.refine.proofs.Sign.{eight_is}
use Rattle.guarantee.proofs.Range.{Level, Sigma, Tame, to_T, of_T}
use Rattle.guarantee.proofs.Luma.{Lightness, two_is, llr_in, llr_falls}
use Rattle.guarantee.proofs.Sigma.{wider}
use Rattle.guarantee.proofs.Half.{Close, scale-plain, halved, half_hi, half_lo}
use Rattle.guarantee.proofs.Weight.{Weight, least_weight}

-- ---- a number that is close to one in range is in range

widest : Const binary32 (whole 1024) 1024 0 1
unfolding fraction round is_const
widest = const binary32 (whole 1024) 1024 0 1 tt

-- what lies between the ends is between
in_lightness : {a b l : Float} → In binary32 a b l → Le binary32 (neg (whole 1024)) a → Le binary32 b (whole 1024) → Lightness l
in_lightness p u v = within (neg-fin widest.is) widest.is (num p.is) (le_trans u p.low) (le_trans p.high v)

module _ {s c : Float} (S : Sigma s) (C : Level c) where
  half_in : In binary32 (fraction 75 100 ⊘ whole 2) (whole 1000 ⊘ whole 2) (s ⊘ whole 2)
  unfolding div fraction round
  half_in = div_in S (point two_is.is) tt

  -- L + sigma_l/2 and L - sigma_l/2
  upper : In binary32 (neg (whole 256) ⊕ fraction 75 100 ⊘ whole 2) (whole 256 ⊕ whole 1000 ⊘ whole 2) (c ⊕ s ⊘ whole 2)
  unfolding add neg div fraction round
  upper = add_in C half_in tt

  lower : In binary32 (neg (whole 256) ⊖ whole 1000 ⊘ whole 2) (whole 256 ⊖ fraction 75 100 ⊘ whole 2) (c ⊖ s ⊘ whole 2)
  unfolding sub neg div fraction round
  lower = sub_in C half_in tt

  upper-lightness : Lightness (c ⊕ s ⊘ whole 2)
  unfolding le add neg div fraction round
  upper-lightness = in_lightness upper (of_le (num (neg-fin widest.is)) (num upper.from) tt) (of_le (num upper.to) widest.num tt)

  lower-lightness : Lightness (c ⊖ s ⊘ whole 2)
  unfolding le sub neg div fraction round
  lower-lightness = in_lightness lower (of_le (num (neg-fin widest.is)) (num lower.from) tt) (of_le (num lower.to) widest.num tt)

  module _ {l : Float} (p : Close s l c) where
    -- the sample's L is at most L + sigma_l/2, and at least L - sigma_l/2
    below-upper : Le binary32 l (c ⊕ s ⊘ whole 2)
    below-upper =
        above (num p.is) (add_rounds (num C.is) (halved (wider S)) (num upper.is))
        (omega (arith, p.up, half_hi (wider S), half_lo (wider S), scale-plain (wider S)))

    above_lower : Le binary32 (c ⊖ s ⊘ whole 2) l
    above_lower =
        under (num p.is) (sub-rounds (num C.is) (halved (wider S)) (num lower.is))
        (omega (arith, p.down, half_hi (wider S), half_lo (wider S), scale-plain (wider S)))

    pub sample_lightness : Lightness l
    sample_lightness =
        within (neg-fin widest.is) widest.is (num p.is) (le_trans lower-lightness.low above_lower) (le_trans below-upper upper-lightness.high)

-- ---- the score

module _ (n : ChannelStats) (t : Tame n) (palette : List Float) (hues : ℕ) (threshold : Float) (N : Num binary32 threshold) where
  -- a dark colour's is at least the threshold
  pub dark_llr : (h : ℕ) → Level (palette_lab palette hues h).l → dark_clear threshold n palette hues h ≡ true → {l : Float} → Close n.sigma_l l (palette_lab palette hues h).l →
      Le binary32 threshold (luma_llr n l)
  unfolding dark_clear
  dark_llr h C e {l} p =
      let u = upper-lightness t.sigma-l C in
      le_trans (of_le N (num (llr_in n t u).is) (to_T (le threshold (luma_llr n ((palette_lab palette hues h).l ⊕ n.sigma_l ⊘ whole 2))) e))
      (llr_falls n t (sample_lightness t.sigma-l C p) u (below-upper t.sigma-l C p))

  -- a light one's at most minus the threshold
  pub light_llr : (h : ℕ) → Level (palette_lab palette hues (hues + h)).l → light_clear threshold n palette hues h ≡ true → {l : Float} → Close n.sigma_l l (palette_lab palette hues (hues + h)).l →
      Le binary32 (luma_llr n l) (neg threshold)
  unfolding light_clear
  light_llr h C e {l} p =
      let u = lower-lightness t.sigma-l C in
      le_trans (llr_falls n t u (sample_lightness t.sigma-l C p) (above_lower t.sigma-l C p))
      (of_le (num (llr_in n t u).is) (neg-num N) (to_T (le (luma_llr n ((palette_lab palette hues (hues + h)).l ⊖ n.sigma_l ⊘ whole 2)) (neg threshold)) e))

-- ---- the score, weighed: at least the threshold times the least weight in magnitude

pub weight-fin : Fin binary32 least_weight
unfolding of_bits fits
weight-fin = record { fit = tt; finite = tt }

module _ {threshold v w : Float} (F : Fin binary32 threshold) (plus : lo binary32 threshold ≡ 0) (P : Fin binary32 v) (W : Weight w) where
  weight-plain : lo binary32 w ≡ 0
  unfolding of_bits
  weight-plain = none W tt

  pub weighed-dark : Le binary32 threshold v → Le binary32 (threshold ⊗ least_weight) (v ⊗ w)
  weighed-dark h =
      le_trans
      (mul_mono' (num weight-fin) (num W.is) (num F) (mul-num F weight-fin) (mul-num F W.is) plus W.low)
      (mul_mono (num F) (num P) (num W.is) (mul-num F W.is) (mul-num P W.is) weight-plain h)

  pub weighed-light : Le binary32 v (neg threshold) → Le binary32 (v ⊗ w) (neg threshold ⊗ least_weight)
  weighed-light h =
      let G = neg-fin F in
      le_trans
      (mul_mono (num P) (num G) (num W.is) (mul-num P W.is) (mul-num G W.is) weight-plain h)
      (mul_anti' (num weight-fin) (num W.is) (num G) (mul-num G weight-fin) (mul-num G W.is) (hi_neg binary32 threshold ∙ plus) W.low)

-- ---- at a setting

-- what the weight leaves of a threshold is at least `least`
pub record Enough (threshold least : Float) : Type 0 where
  pub is : Fin binary32 threshold
  pub plain : lo binary32 threshold ≡ 0
  pub as_is : Le binary32 least threshold
  pub dark : Le binary32 least (threshold ⊗ least_weight)
  pub light : Le binary32 (neg threshold ⊗ least_weight) (neg least)

-- 12 at 13, so that refinement passes over the score; 8.5 at 9, so that it keeps the sign
unfoldable pub least_score : Threshold → Float
least_score Thirteen = whole 12
least_score Nine = fraction 17 2

pub twelve_is : Const binary32 (whole 12) 12 0 1
unfolding fraction round is_const
twelve_is = const binary32 (whole 12) 12 0 1 tt

half_is : Const binary32 (fraction 17 2) 17 0 2
unfolding fraction round is_const
half_is = const binary32 (fraction 17 2) 17 0 2 tt

-- a threshold's own figures, and the three tests, are computed
enough_by : {threshold least : Float} {m d : ℕ} → Fin binary32 threshold → lo binary32 threshold ≡ 0 → Const binary32 least m 0 d → T (le least threshold) → T (le least (threshold ⊗ least_weight)) →
    T (le (neg threshold ⊗ least_weight) (neg least)) → Enough threshold least
enough_by t p l a b c =
    record {
      is = t;
      plain = p;
      as_is = of_le l.num (num t) a;
      dark = of_le l.num (mul-num t weight-fin) b;
      light = of_le (mul-num (neg-fin t) weight-fin) (num (neg-fin l.is)) c;
    }

least-fin : (least : Threshold) → Fin binary32 (least_of least)
unfolding fraction round
least-fin Thirteen = record { fit = (least-num Thirteen).fit; finite = tt }
least-fin Nine = record { fit = (least-num Nine).fit; finite = tt }

pub enough : (least : Threshold) → Enough (least_of least) (least_score least)
unfolding least_score le neg mul of_bits fraction round lo
enough Thirteen = enough_by (least-fin Thirteen) refl twelve_is tt tt tt
enough Nine = enough_by (least-fin Nine) refl half_is tt tt tt

-- a score of at least `least` for dark, at most minus it for light
pub record Dark (least v : Float) : Type 0 where
  pub is : Num binary32 v
  pub at_least : Le binary32 least v

pub record Light (least v : Float) : Type 0 where
  pub is : Num binary32 v
  pub at_most : Le binary32 v (neg least)

module _ {threshold least v : Float} (E : Enough threshold least) (P : Fin binary32 v) where
  -- as it is, with chroma off
  pub dark_as_is : Le binary32 threshold v → Dark least v
  dark_as_is h = record { is = num P; at_least = le_trans E.as_is h }

  pub light_as_is : Le binary32 v (neg threshold) → Light least v
  light_as_is h = record { is = num P; at_most = le_trans h (neg_anti E.as_is) }

  -- weighed
  module _ {w : Float} (W : Weight w) where
    pub dark-weighed : Le binary32 threshold v → Dark least (v ⊗ w)
    dark-weighed h = record { is = mul-num P W.is; at_least = le_trans E.dark (weighed-dark E.is E.plain P W h) }

    pub light-weighed : Le binary32 v (neg threshold) → Light least (v ⊗ w)
    light-weighed h = record { is = mul-num P W.is; at_most = le_trans (weighed-light E.is E.plain P W h) E.light }

-- at 9: such a score is above 8 in magnitude and has the level's sign
pub dark-above : {v : Float} → Dark (least_score Nine) v → Lt binary32 (whole 8) v
unfolding least_score
dark-above {v} p = record { lt = omega (arith, p.at_least, half_is.hi, half_is.lo, eight_is.hi, eight_is.lo, unit-pos binary32) }

pub light-below : {v : Float} → Light (least_score Nine) v → Lt binary32 v (neg (whole 8))
unfolding least_score
light-below {v} p =
    record { lt = omega (arith, p.at_most, half_is.hi, half_is.lo, eight_is.hi, eight_is.lo, unit-pos binary32, hi_neg binary32 (fraction 17 2), lo_neg binary32 (fraction 17 2), hi_neg binary32 (whole 8), lo_neg binary32 (whole 8)) }

-- at 13 refinement passes over it: |v| is at least 12
pub dark-sure : {v : Float} → Dark (least_score Thirteen) v → le (whole 12) (abs v) ≡ true
unfolding least_score
dark-sure {v} p =
    let a = abs-sides binary32 v in
    let s = sides p.at_least in
    of_T (le (whole 12) (abs v)) (to_le twelve_is.num (abs-num p.is) (record { le = omega (arith, a.0, a.1, s.0, s.1, twelve_is.lo, both-sides binary32 v) }))

pub light-sure : {v : Float} → Light (least_score Thirteen) v → le (whole 12) (abs v) ≡ true
unfolding least_score
light-sure {v} p =
    let a = abs-sides binary32 v in
    let s = sides p.at_most in
    of_T (le (whole 12) (abs v)) (to_le twelve_is.num (abs-num p.is) (record { le = omega (arith, a.0, a.1, s.0, s.1, twelve_is.lo, lo_neg binary32 (whole 12), both-sides binary32 v) }))

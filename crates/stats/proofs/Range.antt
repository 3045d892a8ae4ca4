-- The range of a noise record that passes sentences 8 and 9, and of its `luma_llr`: at a lightness up to 2^36 in magnitude, as every colour that the stage accepts has it, each step of the formula is finite up to the product, the divisor is finite and
-- above zero, so the quotient is a number, and the clamp holds it to ±20. Assumes nothing.
use mathlib.Core.Path.{◌≡◌, refl, sym, subst}
use mathlib.Core.Bool.{Bool, true, false, not, ◌&&◌}
use Prim.Native.Nat.{ℕ, ◌^◌, ◌<◌}
use native.Mathlib.Omega.{arith}
use lib.Dec.{T}
use lib.Ieee.{Float, nan, inf, fin, binary32, neg, add, sub, mul, lt, le, eq, round, fits, is_nan}
use lib.Ieee.Fits.{cond-fits}
use Rattle.sentences.proofs.Laws.{neither}
use Rattle.floatlaws.specs.Value.{hi, Num}
use Rattle.floatlaws.specs.Order.{Le, of_le, of_not_lt}
use Rattle.floatlaws.specs.Finite.{Fin, num, neg-fin, mul-num, div-num}
use Rattle.floatlaws.specs.Const.{Const, const, is_const}
use Rattle.floatlaws.specs.Interval.{In, within, point, in_pos}
use Rattle.floatlaws.proofs.Interval.{add_in, sub_in, mul_in, mul_in_signed}
use Rattle.float.specs.Select.{clamp}
use Rattle.float.proofs.Select.{clamp-num, clamp_range}
use Rattle.color.specs.Color.{whole, fraction}
use Rattle.color.proofs.Bounded.{Within}
use Rattle.stats.specs.declared.ChannelStats.{ChannelStats}
use Rattle.stats.specs.Arithmetic.{◌⊕◌, ◌⊖◌, ◌⊗◌}
use Rattle.stats.specs.Noise.{luma_llr}
use Rattle.stats.specs.Calls.{wild_figure, bad_noise_numbers, bad_level_sigma, bad_sigmas}
use Rattle.stats.proofs.Tests.{both}

-- ---- the constants

two_is : Const binary32 (whole 2) 2 0 1
unfolding fraction round is_const
two_is = const binary32 (whole 2) 2 0 1 tt

pub twenty_is : Const binary32 (whole 20) 20 0 1
unfolding fraction round is_const
twenty_is = const binary32 (whole 20) 20 0 1 tt

least_is : Const binary32 (fraction 75 100) 3 0 4
unfolding fraction round is_const
least_is = const binary32 (fraction 75 100) 3 0 4 tt

most_is : Const binary32 (whole (2 ^ 40)) (2 ^ 40) 0 1
unfolding fraction round is_const
most_is = const binary32 (whole (2 ^ 40)) (2 ^ 40) 0 1 tt

-- ---- what passes sentences 8 and 9

pub to_T : (b : Bool) → b ≡ true → T b
to_T b e = subst T (sym e) tt

pub le_real : (x y : Float) → le x y ≡ true → T (not (is_nan x))
unfolding le lt eq is_nan
le_real nan y e = let z : ◌≡◌ {A = ℕ} 0 1 = cc in absurd (omega arith)
le_real (inf s) y e = tt
le_real (fin s m e') y e = tt

was_true : (b : Bool) → not b ≡ false → b ≡ true
was_true true e = refl
was_true false e = let z : ◌≡◌ {A = ℕ} 0 1 = cc in absurd (omega arith)

-- a figure of a record, as an f32 that sentence 8 lets pass
figure_in : (v : Float) → T (fits binary32 v) → wild_figure v ≡ false → Within 40 v
unfolding wild_figure
figure_in v t h =
    let m = whole (2 ^ 40) in
    let f = most_is.is in
    let p = both (le v m) (le (neg m) v) (was_true (le v m && le (neg m) v) h) in
    let n : Num binary32 v = record { fit = t; real = le_real v m p.0 } in
    within (neg-fin f) f n (of_le (num (neg-fin f)) n (to_T (le (neg m) v) p.1)) (of_le n (num f) (to_T (le v m) p.0))

sigma_in : (v : Float) → Within 40 v → lt v (fraction 75 100) ≡ false → In binary32 (fraction 75 100) (whole (2 ^ 40)) v
sigma_in v p h = within least_is.is p.to (num p.is) (of_not_lt (num p.is) least_is.num (rw h tt)) p.high

-- the record's figures are f32 values
pub record Held (n : ChannelStats) : Type 0 where
  pub l0 : T (fits binary32 n.l0)
  pub l1 : T (fits binary32 n.l1)
  pub sigma-l : T (fits binary32 n.sigma_l)
  pub sigma-ab : T (fits binary32 n.sigma_ab)
  pub sigma-ab-dark : T (fits binary32 n.sigma_ab_dark)
  pub sigma-ab-light : T (fits binary32 n.sigma_ab_light)

-- and stand in these ranges
pub record Good (n : ChannelStats) : Type 0 where
  pub l0 : Within 40 n.l0
  pub l1 : Within 40 n.l1
  pub sigma-l : In binary32 (fraction 75 100) (whole (2 ^ 40)) n.sigma_l
  pub sigma-ab : In binary32 (fraction 75 100) (whole (2 ^ 40)) n.sigma_ab
  pub sigma-ab-dark : Within 40 n.sigma_ab_dark
  pub sigma-ab-light : Within 40 n.sigma_ab_light
  pub dark-level : bad_level_sigma n.sigma_ab_dark ≡ false
  pub light-level : bad_level_sigma n.sigma_ab_light ≡ false

pub good : (n : ChannelStats) → Held n → bad_noise_numbers n ≡ false → bad_sigmas n ≡ false → Good n
unfolding bad_noise_numbers bad_sigmas
good n f h k =
    let a = neither (wild_figure n.l0) _ h in
    let b = neither (wild_figure n.l1) _ a.1 in
    let c = neither (wild_figure n.sigma_l) _ b.1 in
    let d = neither (wild_figure n.sigma_ab) _ c.1 in
    let e = neither (wild_figure n.sigma_ab_dark) (wild_figure n.sigma_ab_light) d.1 in
    let s = neither (lt n.sigma_l (fraction 75 100)) _ k in
    let t = neither (lt n.sigma_ab (fraction 75 100)) _ s.1 in
    let u = neither (bad_level_sigma n.sigma_ab_dark) (bad_level_sigma n.sigma_ab_light) t.1 in
    record {
      l0 = figure_in n.l0 f.l0 a.0;
      l1 = figure_in n.l1 f.l1 b.0;
      sigma-l = sigma_in n.sigma_l (figure_in n.sigma_l f.sigma-l c.0) s.0;
      sigma-ab = sigma_in n.sigma_ab (figure_in n.sigma_ab f.sigma-ab d.0) t.0;
      sigma-ab-dark = figure_in n.sigma_ab_dark f.sigma-ab-dark e.0;
      sigma-ab-light = figure_in n.sigma_ab_light f.sigma-ab-light e.1;
      dark-level = u.0;
      light-level = u.1;
    }

-- ---- a number held to ±m is an f32, if it was

pub held_fits : {m : Float} → Fin binary32 m → (x : Float) → T (fits binary32 x) → T (fits binary32 (clamp (neg m) m x))
unfolding clamp
held_fits {m} p x f = cond-fits binary32 (lt x (neg m)) (neg m) _ (neg-fin p).fit (cond-fits binary32 (lt m x) m x p.fit f)

-- ---- `luma_llr`

order : T (le (neg (whole 20)) (whole 20))
unfolding le neg fraction round
order = tt

pub clamped : (x : Float) → Num binary32 x → In binary32 (neg (whole 20)) (whole 20) (clamp (neg (whole 20)) (whole 20) x)
clamped x p =
    let m = neg-fin twenty_is.is in
    let o : Le binary32 (neg (whole 20)) (whole 20) = of_le (num m) twenty_is.num order in
    let r = clamp_range (num m) twenty_is.num o p in
    within m twenty_is.is (clamp-num (num m) twenty_is.num o p) r.0 r.1

module _ (n : ChannelStats) (g : Good n) where
  abbrev far : Float
  far = whole (2 ^ 40)

  step : Fin binary32 (n.l1 ⊖ n.l0)
  unfolding sub neg fraction round
  step = (sub_in g.l1 g.l0 tt).is

  spread : In binary32 (whole 2 ⊗ fraction 75 100 ⊗ fraction 75 100) (whole 2 ⊗ far ⊗ far) (whole 2 ⊗ n.sigma_l ⊗ n.sigma_l)
  unfolding mul fraction round
  spread = mul_in (mul_in (point two_is.is) g.sigma-l tt) g.sigma-l tt

  spread-above : 0 < hi binary32 (whole 2 ⊗ n.sigma_l ⊗ n.sigma_l)
  unfolding mul fraction round
  spread-above = in_pos spread tt

  module _ (l : Float) (p : Within 36 l) where
    lead : Fin binary32 (n.l0 ⊕ n.l1 ⊖ whole 2 ⊗ l)
    unfolding add sub mul neg fraction round
    lead = (sub_in (add_in g.l0 g.l1 tt) (mul_in_signed (point two_is.is) p tt) tt).is

    pub luma_llr_in : In binary32 (neg (whole 20)) (whole 20) (luma_llr n l)
    unfolding luma_llr
    luma_llr_in = clamped _ (div-num (mul-num step lead) spread.is spread-above)

-- `luma_llr` does not rise with L, inside the margin: 2 × L rises, so the lead (l0 + l1) - 2 × L falls, l1 - l0 and 2 × sigma² are above zero, and the clamp keeps the order. So a dark colour that
-- the margin check finds clear at L + sigma_l/2 is clear at every L up to there, and a light one at every L from L - sigma_l/2 on. Assumes nothing.
use mathlib.Core.Path.{◌≡◌}
use Prim.Native.Nat.{◌<◌}
use native.Mathlib.Omega.{arith}
use lib.Ieee.{Float, binary32, neg, add, sub, mul, le, round}
use Rattle.floatlaws.specs.Value.{hi, lo, Num}
use Rattle.floatlaws.specs.Order.{Le, of_le, le_refl, above-none}
use Rattle.floatlaws.specs.Finite.{Fin, num, neg-fin, div-num}
use Rattle.floatlaws.proofs.Mono.{sub_mono, mul_mono', div_mono}
use Rattle.floatlaws.specs.Const.{Const, const, is_const}
use Rattle.floatlaws.specs.Interval.{In, within, point, none, in_pos}
use Rattle.floatlaws.proofs.Interval.{add_in, sub_in, mul_in, mul_in_signed}
use Rattle.floatlaws.proofs.Exact.{sub-above}
use Rattle.float.proofs.Select.{clamp_mono}
use Rattle.color.specs.Color.{whole, fraction}
use Rattle.stats.specs.declared.ChannelStats.{ChannelStats}
use Rattle.stats.specs.Arithmetic.{◌⊕◌, ◌⊖◌, ◌⊗◌, ◌⊘◌}
use Rattle.stats.specs.Noise.{luma_llr}
use Rattle.stats.proofs.Range.{twenty_is, clamped}
use Rattle.stats.proofs.Reliable.{zero_is}
use Rattle.guarantee.proofs.Range.{Tame}

pub two_is : Const binary32 (whole 2) 2 0 1
unfolding fraction round is_const
two_is = const binary32 (whole 2) 2 0 1 tt

pub twenty-order : Le binary32 (neg (whole 20)) (whole 20)
unfolding le neg fraction round
twenty-order = of_le (num (neg-fin twenty_is.is)) twenty_is.num tt

-- an L up to half a sigma beyond 256
abbrev pub Lightness : Float → Type 0
Lightness l = In binary32 (neg (whole 1024)) (whole 1024) l

module _ (n : ChannelStats) (t : Tame n) where
  -- 2 × sigma²
  spread : In binary32 (whole 2 ⊗ fraction 75 100 ⊗ fraction 75 100) (whole 2 ⊗ whole 1000 ⊗ whole 1000) (whole 2 ⊗ n.sigma_l ⊗ n.sigma_l)
  unfolding mul fraction round
  spread = mul_in (mul_in (point two_is.is) t.sigma-l tt) t.sigma-l tt

  spread-above : 0 < hi binary32 (whole 2 ⊗ n.sigma_l ⊗ n.sigma_l)
  unfolding mul fraction round
  spread-above = in_pos spread tt

  -- l1 - l0 is above zero
  step : In binary32 (whole 0) (whole 256 ⊖ neg (whole 256)) (n.l1 ⊖ n.l0)
  unfolding sub neg fraction round
  step =
      let r = sub_in t.l1 t.l0 tt in
      let a = sub-above (num t.l1.is) (num t.l0.is) (num r.is) t.rising in
      within zero_is.is r.to (num r.is) (record { le = omega (arith, a, above-none binary32 (n.l1 ⊖ n.l0) a, zero_is.hi, zero_is.lo) }) r.high

  module _ {l : Float} (p : Lightness l) where
    twice : In binary32 (whole 2 ⊗ neg (whole 1024)) (whole 2 ⊗ whole 1024) (whole 2 ⊗ l)
    unfolding mul neg fraction round
    twice = mul_in_signed (point two_is.is) p tt

    sums : In binary32 (neg (whole 256) ⊕ neg (whole 256)) (whole 256 ⊕ whole 256) (n.l0 ⊕ n.l1)
    unfolding add neg fraction round
    sums = add_in t.l0 t.l1 tt

    lead : In binary32 (neg (whole 256) ⊕ neg (whole 256) ⊖ whole 2 ⊗ whole 1024) (whole 256 ⊕ whole 256 ⊖ whole 2 ⊗ neg (whole 1024)) (n.l0 ⊕ n.l1 ⊖ whole 2 ⊗ l)
    unfolding add sub mul neg fraction round
    lead = sub_in sums twice tt

    product : Fin binary32 ((n.l1 ⊖ n.l0) ⊗ (n.l0 ⊕ n.l1 ⊖ whole 2 ⊗ l))
    unfolding add sub mul neg fraction round
    product = (mul_in_signed step lead tt).is

    quotient : Num binary32 ((n.l1 ⊖ n.l0) ⊗ (n.l0 ⊕ n.l1 ⊖ whole 2 ⊗ l) ⊘ (whole 2 ⊗ n.sigma_l ⊗ n.sigma_l))
    quotient = div-num (num product) spread.is spread-above

    -- a number within ±20
    pub llr_in : In binary32 (neg (whole 20)) (whole 20) (luma_llr n l)
    unfolding luma_llr
    llr_in = clamped _ quotient

  two_plain : lo binary32 (whole 2) ≡ 0
  two_plain = omega (arith, two_is.lo)

  step_plain : lo binary32 (n.l1 ⊖ n.l0) ≡ 0
  unfolding fraction round
  step_plain = none step tt

  -- the larger L has no larger score
  pub llr_falls : {l l' : Float} → Lightness l → Lightness l' → Le binary32 l l' → Le binary32 (luma_llr n l') (luma_llr n l)
  unfolding luma_llr
  llr_falls {l} {l'} p p' h =
      let b = num (sums p).is in
      let c = num (twice p).is in
      let c' = num (twice p').is in
      let d = num (lead p).is in
      let d' = num (lead p').is in
      let double = mul_mono' (num p.is) (num p'.is) two_is.num c c' two_plain h in
      let less = sub_mono b b c' c d' d (le_refl binary32 (n.l0 ⊕ n.l1)) double in
      let prod = mul_mono' d' d (num step.is) (num (product p')) (num (product p)) step_plain less in
      let quot = div_mono (num (product p')) (num (product p)) (num spread.is) (quotient p') (quotient p) spread-above prod in
      clamp_mono (num (neg-fin twenty_is.is)) twenty_is.num twenty-order (quotient p') (quotient p) quot

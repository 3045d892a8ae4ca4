-- Inside the margin, a sample within half a sigma of a palette colour has a weight of at least 0.9931 (3F7E3C08): its distance from that colour is at most 1/4 + 1/4 + 1/4, the smallest distance is no
-- larger, and each step from the distance to the weight keeps the order. Assumes nothing.
use mathlib.Core.Bool.{false, not, ◌&&◌}
use mathlib.Core.List.{List}
use Prim.Native.Nat.{ℕ, ◌*◌, ◌<◌, zero-le}
use native.Mathlib.Omega.{arith}
use lib.Dec.{T}
use lib.Ieee.{Float, inf, binary32, neg, add, sub, mul, div, le, round, of_bits, fits}
use lib.Ieee.Fits.{add-fits}
use lib.Ieee.Positive.{positive}
use lib.Ieee.Scale.{finite}
use Rattle.loops.proofs.Laws.{for_up_to}
use Rattle.floatlaws.specs.Value.{negative}
use Rattle.floatlaws.specs.Order.{sides, le_trans, hi_neg, lo_neg}
use Rattle.floatlaws.proofs.Ops.{div-neg}
use Rattle.floatlaws.proofs.Mono.{div_mono}
use Rattle.floatlaws.specs.Finite.{num, neg-fin, div-num}
use Rattle.floatlaws.specs.Const.{Const, const, is_const}
use Rattle.floatlaws.specs.Interval.{In, within, point}
use Rattle.floatlaws.proofs.Interval.{add_in, sub_in, mul_in, div_in}
use Rattle.float.specs.Root.{sqrt_of}
use Rattle.float.proofs.Select.{Least, least_start, least_step}
use Rattle.float.proofs.Roots.{sqrt_in}
use Rattle.color.specs.declared.Lab.{Lab}
use Rattle.color.specs.Color.{whole, fraction}
use Rattle.color.specs.Palette.{palette_lab}
use Rattle.stats.specs.declared.ChannelStats.{ChannelStats}
use Rattle.stats.specs.Arithmetic.{◌⊕◌, ◌⊖◌, ◌⊘◌, squared}
use Rattle.stats.specs.Noise.{sigma_ab_at, distance, closer, nearest, weight, reliability}
use Rattle.stats.proofs.Reliable.{zero_is, one_is}
use Rattle.guarantee.proofs.Range.{Tame}
use Rattle.guarantee.proofs.Sigma.{Scale, Any, wider, sigma_in}
use Rattle.guarantee.proofs.Half.{Close, scale-above, square_in, ratio-square}

-- ---- from the distance to the weight

three_is : Const binary32 (whole 3) 3 0 1
unfolding fraction round is_const
three_is = const binary32 (whole 3) 3 0 1 tt

quarters_is : Const binary32 (fraction 3 4) 3 0 4
unfolding fraction round is_const
quarters_is = const binary32 (fraction 3 4) 3 0 4 tt

-- 0.9931035
abbrev pub least_weight : Float
least_weight = of_bits binary32 0x3f7e_3c08

abbrev pub Weight : Float → Type 0
Weight w = In binary32 least_weight (whole 1) w

root_in : {d : Float} → In binary32 (whole 0) (fraction 3 4) d → In binary32 (sqrt_of (whole 0)) (sqrt_of (fraction 3 4)) (sqrt_of d)
unfolding fraction round
root_in p = sqrt_in p tt

-- the values at the ends, computed
abbrev far : Float
far = sqrt_of (fraction 3 4) ⊘ whole 3

abbrev here : Float
here = sqrt_of (whole 0) ⊘ whole 3

third_in : {d : Float} → In binary32 (whole 0) (fraction 3 4) d → In binary32 here far (sqrt_of d ⊘ whole 3)
unfolding sqrt_of div fraction round
third_in p = div_in (root_in p) (point three_is.is) tt

fourth_in : {d : Float} → In binary32 (whole 0) (fraction 3 4) d → In binary32 (squared (squared here)) (squared (squared far)) (squared (squared (sqrt_of d ⊘ whole 3)))
unfolding sqrt_of mul div fraction round
fourth_in p = let q = mul_in (third_in p) (third_in p) tt in mul_in q q tt

ends_in : {d : Float} → In binary32 (whole 0) (fraction 3 4) d → In binary32 (weight (fraction 3 4)) (weight (whole 0)) (weight d)
unfolding weight sqrt_of add mul div fraction round
ends_in p = div_in (point one_is.is) (add_in (point one_is.is) (fourth_in p) tt) tt

-- the weight is at least 0.9931
pub weight_in : {d : Float} → In binary32 (whole 0) (fraction 3 4) d → Weight (weight d)
unfolding weight sqrt_of add mul div le of_bits fraction round
weight_in p =
    let w = ends_in p in
    within w.from one_is.is (num w.is) w.low w.high

-- ---- a distance is not below zero

-- the numbers of a colour, up to 2^21 in magnitude
pub record Bounded (c : Lab) : Type 0 where
  pub l : Any c.l
  pub a : Any c.a
  pub b : Any c.b

-- a number of either sign over a scale
pub div-signed : {b x s : Float} → In binary32 (neg b) b x → Scale s → T (not (negative b) && positive (fraction 1 2) && finite (b ⊘ whole 2000) && finite (b ⊘ fraction 1 2)) →
    In binary32 (neg (b ⊘ fraction 1 2)) (b ⊘ fraction 1 2) (x ⊘ s)
div-signed {b} {x} {s} p S t =
    let a = scale-above S in
    let d = num S.is in
    let q = div_in (point p.to) S t in
    let r = div-num (num p.is) S.is a in
    let m = num p.from in
    let o = div-num m S.is a in
    let u = div_mono (num p.is) (num p.to) d r (num q.is) a p.high in
    let v = sides (div_mono m (num p.is) d o r a p.low) in
    let w = div-neg (num p.to) d a (num q.is) o in
    let e = sides q.high in
    within (neg-fin q.to) q.to r
    (record { le = omega (arith, v.0, v.1, w.0, w.1, e.0, e.1, hi_neg binary32 (b ⊘ fraction 1 2), lo_neg binary32 (b ⊘ fraction 1 2)) })
    (le_trans u q.high)

-- a difference over a scale, squared, is at most 2^46
abbrev Term : Float → Type 0
Term v = In binary32 (whole 0) (whole 70368744177664) v

term_in : {x y s : Float} → Any x → Any y → Scale s → Term (squared ((x ⊖ y) ⊘ s))
unfolding sub mul div neg fraction round
term_in p q S = square_in (div-signed (sub_in p q tt) S tt) tt

module _ (n : ChannelStats) (t : Tame n) (sample c : Lab) (P : Bounded sample) (C : Bounded c) where
  scale : Scale (sigma_ab_at n c.l)
  scale = sigma_in n t c.l C.l

  distance_in : In binary32 (whole 0) (whole 70368744177664 ⊕ whole 70368744177664 ⊕ whole 70368744177664) (distance n sample c)
  unfolding distance add fraction round
  distance_in = add_in (add_in (term_in P.l C.l (wider t.sigma-l)) (term_in P.a C.a scale) tt) (term_in P.b C.b scale) tt

-- ---- within half a sigma of c

pub record Near (n : ChannelStats) (sample c : Lab) : Type 0 where
  pub l : Close n.sigma_l sample.l c.l
  pub a : Close (sigma_ab_at n c.l) sample.a c.a
  pub b : Close (sigma_ab_at n c.l) sample.b c.b

-- the distance is at most 3/4
pub own-distance : (n : ChannelStats) → Tame n → (sample c : Lab) → Any c.l → Near n sample c → In binary32 (whole 0) (fraction 3 4) (distance n sample c)
unfolding distance add mul fraction round
own-distance n t sample c C p =
    let s = sigma_in n t c.l C in
    add_in (add_in (ratio-square (wider t.sigma-l) p.l) (ratio-square s p.a) tt) (ratio-square s p.b) tt

-- ---- the nearest of the palette's colours is no further away

module _ (n : ChannelStats) (t : Tame n) (palette : List Float) (hues : ℕ) (colours : (i : ℕ) → i < 2 * hues → Bounded (palette_lab palette hues i)) (sample : Lab) (P : Bounded sample) where
  abbrev away : ℕ → Float
  away i = distance n sample (palette_lab palette hues i)

  away-fits : (i : ℕ) → T (fits binary32 (away i))
  unfolding distance
  away-fits i = add-fits binary32 _ _

  least : Least binary32 away (2 * hues) (nearest n sample palette hues)
  unfolding closer
  least = for_up_to (Least binary32 away) (closer n sample palette hues) (2 * hues) 0 (inf false) zero-le (least_start binary32 away) (λ i l h d p. least_step (away-fits i) p)

  module _ (i : ℕ) (h : i < 2 * hues) (q : Near n sample (palette_lab palette hues i)) where
    own : In binary32 (whole 0) (fraction 3 4) (away i)
    own = own-distance n t sample (palette_lab palette hues i) (colours i h).l q

    nearest_in : In binary32 (whole 0) (fraction 3 4) (nearest n sample palette hues)
    nearest_in =
        within zero_is.is quarters_is.is least.num
        (least.ge (whole 0) zero_is.num (λ j l d. (distance_in n t sample (palette_lab palette hues j) P (colours j l)).low))
        (le_trans (least.le i h (num own.is)) own.high)

    pub reliable : Weight (reliability n sample palette hues)
    unfolding reliability
    reliable = weight_in nearest_in

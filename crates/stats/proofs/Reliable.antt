-- `reliability` is a number from 0 to 1, for every record, sample and palette: the smallest distance starts at +∞ and `min` passes over a NaN, so it is never below zero and never a NaN,
-- and 1 divided by 1 and more is at most 1. Assumes nothing.
use mathlib.Core.Path.{◌≡◌, sym, ◌∙◌, subst}
use mathlib.Core.List.{List}
use mathlib.Core.Logic.{inl, inr}
use mathlib.Core.Bool.{false, not}
use Prim.Native.Nat.{ℕ, ◌+◌, ◌*◌, ◌≤◌, ◌<◌, zero-le}
use native.Mathlib.Nat.{mul-one, one-mul, zero-mul, mul-le-mul_left, le_of_eq, le_trans}
use native.Mathlib.Omega.{arith}
use lib.Dec.{T}
use lib.Ieee.{Float, inf, binary32, round, fits, is_nan}
use lib.Ieee.Fits.{add-fits, div-fits}
use Rattle.loops.proofs.Laws.{for_up_to}
use Rattle.floatlaws.specs.Value.{unit, unit-pos, hi, lo, Num}
use Rattle.floatlaws.specs.Order.{Le, sides}
use Rattle.floatlaws.proofs.Near.{above, under}
use Rattle.floatlaws.specs.Finite.{add-num, div_num'}
use Rattle.floatlaws.proofs.Ops.{add_rounds, div-rounds}
use Rattle.floatlaws.specs.Const.{Const, const, is_const}
use Rattle.floatlaws.specs.Interval.{In, within}
use Rattle.float.proofs.Select.{Least, least_start, least_step}
use Rattle.color.specs.declared.Lab.{Lab}
use Rattle.color.specs.Color.{whole, fraction}
use Rattle.color.specs.Palette.{palette_lab}
use Rattle.stats.specs.declared.ChannelStats.{ChannelStats}
use Rattle.stats.specs.Arithmetic.{◌⊕◌, ◌⊖◌, ◌⊘◌, squared}
use Rattle.stats.specs.Noise.{sigma_ab_at, distance, closer, nearest, weight, reliability}
use Rattle.stats.proofs.Plus.{Plus, Plain, square, square-plain, add-plus, add-plain, div-plus, sqrt-plus}

pub zero_is : Const binary32 (whole 0) 0 0 1
unfolding fraction round is_const
zero_is = const binary32 (whole 0) 0 0 1 tt

pub one_is : Const binary32 (whole 1) 1 0 1
unfolding fraction round is_const
one_is = const binary32 (whole 1) 1 0 1 tt

three_is : Const binary32 (whole 3) 3 0 1
unfolding fraction round is_const
three_is = const binary32 (whole 3) 3 0 1 tt

one_hi : hi binary32 (whole 1) ≡ unit binary32
one_hi = sym (mul-one (hi binary32 (whole 1))) ∙ one_is.hi ∙ one-mul (unit binary32)

one_lo : lo binary32 (whole 1) ≡ 0
one_lo = omega (arith, one_is.lo)

three-above : 0 < hi binary32 (whole 3)
three-above = omega (arith, three_is.hi, unit-pos binary32)

-- ---- a squared distance is not below zero, or no number

term : (x y s : Float) → Plain (squared ((x ⊖ y) ⊘ s))
term x y s = square-plain ((x ⊖ y) ⊘ s) (div-fits binary32 (x ⊖ y) s)

distance-plain : (n : ChannelStats) (sample c : Lab) → Plain (distance n sample c)
unfolding distance
distance-plain n sample c =
    let s = sigma_ab_at n c.l in
    let dl = squared ((sample.l ⊖ c.l) ⊘ n.sigma_l) in
    let da = squared ((sample.a ⊖ c.a) ⊘ s) in
    let db = squared ((sample.b ⊖ c.b) ⊘ s) in
    add-plain (dl ⊕ da) db (add-plain dl da (term sample.l c.l n.sigma_l) (term sample.a c.a s)) (term sample.b c.b s)

-- the smallest distance: `min` from +∞ on is a number, at most each distance that is one, and at least what is at most all of these
distance-fits : (n : ChannelStats) (sample c : Lab) → T (fits binary32 (distance n sample c))
unfolding distance
distance-fits n sample c = add-fits binary32 _ _

pub nearest-least : (n : ChannelStats) (sample : Lab) (palette : List Float) (hues : ℕ) →
    Least binary32 (λ i. distance n sample (palette_lab palette hues i)) (2 * hues) (nearest n sample palette hues)
unfolding closer
nearest-least n sample palette hues =
    for_up_to (Least binary32 (λ i. distance n sample (palette_lab palette hues i))) (closer n sample palette hues) (2 * hues) 0 (inf false) zero-le
    (least_start binary32 (λ i. distance n sample (palette_lab palette hues i))) (λ i q r d p. least_step (distance-fits n sample (palette_lab palette hues i)) p)

-- so it is not below zero
at_least-zero : (x : Float) → Num binary32 x → Plain x → Le binary32 (whole 0) x
at_least-zero x p (inl e) = absurd (unfold is_nan in (subst (λ (y : Float). T (not (is_nan y))) e p.real))
at_least-zero x p (inr q) = omega (arith, zero_is.hi, zero_is.lo, q.none)

pub nearest-plus : (n : ChannelStats) (sample : Lab) (palette : List Float) (hues : ℕ) → Plus (nearest n sample palette hues)
nearest-plus n sample palette hues =
    let l = nearest-least n sample palette hues in
    let z = sides (l.ge (whole 0) zero_is.num (λ i h p. at_least-zero (distance n sample (palette_lab palette hues i)) p (distance-plain n sample (palette_lab palette hues i)))) in
    record { num = l.num; none = omega (arith, zero_is.lo) }

-- ---- the weight

-- 1 + q, for a q that is not below zero
one_more : (q : Float) → Plus q → Plus (whole 1 ⊕ q) × Le binary32 (whole 1) (whole 1 ⊕ q)
one_more q p =
    let s = add-num one_is.is p.num in
    let a = hi binary32 (whole 1) in
    let b = hi binary32 q in (
      add-plus (whole 1) q (record { num = one_is.num; none = one_lo }) p,
      above one_is.num (add_rounds one_is.num p.num s) (omega (arith, one_lo, p.none)),
    )

-- 1 divided by it
inverse : (s : Float) → Num binary32 s → Le binary32 (whole 1) s → In binary32 (whole 0) (whole 1) (whole 1 ⊘ s)
inverse s p h =
    let o = sides h in
    let c : 0 < hi binary32 s = omega (arith, one_hi, unit-pos binary32) in
    let q = div_num' one_is.is p c in
    let r = div-rounds one_is.num p c q in
    within zero_is.is one_is.is q
    (above zero_is.num r (low (hi binary32 (whole 0)) (lo binary32 (whole 0)) (hi binary32 s) (unit binary32) (hi binary32 (whole 1)) (lo binary32 (whole 1)) (omega (arith, zero_is.hi)) one_lo))
    (under one_is.num r (high (hi binary32 (whole 1)) (lo binary32 (whole 1)) (unit binary32) (hi binary32 s) one_hi one_lo o.0))
  where
    low : (z w c u a b : ℕ) → z ≡ 0 → b ≡ 0 → z * c + b * u ≤ a * u + w * c
    low z w c u a b e d = rw (e, d, zero-mul c, zero-mul u) zero-le

    high : (a b u c : ℕ) → a ≡ u → b ≡ 0 → a ≤ c → a * u + b * c ≤ a * c + b * u
    high a b u c e d h = rw (d, zero-mul c, zero-mul u) (omega (arith, mul-le-mul_left a (le_trans (le_of_eq (sym e)) h)))

pub weight_in : (d : Float) → Plus d → In binary32 (whole 0) (whole 1) (weight d)
unfolding weight
weight_in d p =
    let t = div-plus (sqrt-plus p) three_is.is three-above in
    let q = square _ t.num in
    let s = one_more _ (square _ q.num) in
    inverse _ s.0.num s.1

pub reliability_in : (n : ChannelStats) (sample : Lab) (palette : List Float) (hues : ℕ) → In binary32 (whole 0) (whole 1) (reliability n sample palette hues)
unfolding reliability
reliability_in n sample palette hues = weight_in (nearest n sample palette hues) (nearest-plus n sample palette hues)

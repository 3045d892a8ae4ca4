-- An f64 rounds to an f32 from -1,048,576 to 1,048,576 exactly where it lies between these, or beyond them by half a step of an f32 at most, which is a part in 2 ^ 24: a tie goes to the even one. Assumes nothing.
use Rattle.std.proofs.Common.{◌≡◌, ℕ, ◌+◌, ◌-◌, ◌*◌, ◌^◌, ◌<◌, ◌≤◌, Bool, true, false, not, ◌&&◌, T, pos, negsuc, sym, refl, ◌∙◌, subst, arith, leb→le}
use lib.Ieee.{Float, nan, inf, fin, binary32, binary64, neg, le, lt, eq, round, fits, is_nan}
use Rattle.floatlaws.specs.Value.{unit, hi, lo, mag, limit, Num}
use Rattle.floatlaws.specs.Order.{Le, of_le, to_le, sides, neg-num, hi_neg, lo_neg, widen-sides}
use Rattle.floatlaws.specs.Near.{Rounds}
use Rattle.floatlaws.specs.Finite.{fin-under}
use Rattle.floatlaws.specs.Const.{Const, const, is_const}
use Rattle.floatlaws.specs.Error.{at_most}
use Rattle.float.specs.Single.{to_single}
use Rattle.float.proofs.Single.{single-rounds, single-num, single_mono}
use Rattle.color.specs.Color.{fraction, whole}
use Rattle.color.specs.Palette.{wild}

-- 1,048,576, and half a step above it
abbrev most : Float
most = fin false 1 (pos 20)

abbrev pub past : Float
past = fin false 16777217 (negsuc 3)

most_is : whole 1048576 ≡ most
unfolding fraction round
most_is = refl

most_32 : Const binary32 most 1048576 0 1
unfolding is_const
most_32 = const binary32 most 1048576 0 1 tt

most_64 : Const binary64 most 1048576 0 1
unfolding is_const
most_64 = const binary64 most 1048576 0 1 tt

past_64 : Const binary64 past 16777217 0 16
unfolding is_const
past_64 = const binary64 past 16777217 0 16 tt

rounded : to_single past ≡ most
unfolding to_single round
rounded = refl

rounded-neg : to_single (neg past) ≡ neg most
unfolding to_single round neg
rounded-neg = refl

normal : 2 ^ 23 ≤ hi binary32 most
unfolding hi mag
normal = leb→le (2 ^ 23) (hi binary32 most) tt

under-limit : hi binary32 most < limit binary32
under-limit = omega (arith, fin-under most_32.is)

-- ---- from the rounded number back

-- a number, in units of binary64, whose f32 is 1,048,576 at most
back : {z : Float} {P N : ℕ} → Rounds binary32 z P N (2 ^ 925) → hi binary32 z ≤ hi binary32 most → P ≤ hi binary64 past + N
back {z} {P} {N} r h =
    let q : (P - N) * 16777216 ≤ hi binary64 most * 16777217 =
    subst (λ (w : ℕ). (P - N) * 16777216 ≤ w * 16777217) (sym (widen-sides most most_32.is.fit tt).0) (at_most (hi binary32 most) r h normal under-limit) in
    part P N (hi binary64 most) (hi binary64 past) (unit binary64) q most_64.hi past_64.hi
  where
    part : (P N m t u : ℕ) → (P - N) * 16777216 ≤ m * 16777217 → m * 1 ≡ 1048576 * u → t * 16 ≡ 16777217 * u → P ≤ t + N
    part P N m t u q a b = omega arith

mirrored : {z : Float} {P N C : ℕ} → Rounds binary32 z P N C → Rounds binary32 (neg z) N P C
mirrored {z} r = record { num = neg-num r.num; below = r.below; hi = hi_neg binary32 z ∙ r.lo; lo = lo_neg binary32 z ∙ r.hi }

none : lo binary64 past ≡ 0
none = let e = past_64.lo in omega arith

module _ {v : Float} (p : Num binary64 v) where
  high : Le binary32 (to_single v) most → Le binary64 v past
  high h = record { le = omega (arith, none, back (single-rounds p) (sides h).0) }

  low : Le binary32 (neg most) (to_single v) → Le binary64 (neg past) v
  low h =
      let k : hi binary32 (neg (to_single v)) ≤ hi binary32 most = omega (arith, hi_neg binary32 (to_single v), lo_neg binary32 most, (sides h).1) in
      record { le = omega (arith, none, hi_neg binary64 past, lo_neg binary64 past, back (mirrored (single-rounds p)) k) }

  -- ---- and onwards: the order is kept
  from-high : Le binary64 v past → Le binary32 (to_single v) most
  from-high h = subst (λ (z : Float). Le binary32 (to_single v) z) rounded (single_mono p past_64.num h)

  from_low : Le binary64 (neg past) v → Le binary32 (neg most) (to_single v)
  from_low h = subst (λ (z : Float). Le binary32 z (to_single v)) rounded-neg (single_mono (neg-num past_64.num) p h)

same_test : (a b : Bool) → (T a → T b) → (T b → T a) → a ≡ b
same_test true true f g = refl
same_test true false f g = absurd (f tt)
same_test false true f g = absurd (g tt)
same_test false false f g = refl

module _ {v : Float} (p : Num binary64 v) where
  by_high : le (to_single v) most ≡ le v past
  by_high =
      same_test (le (to_single v) most) (le v past) (λ t. to_le p past_64.num (high p (of_le (single-num p) most_32.num t)))
      (λ t. to_le (single-num p) most_32.num (from-high p (of_le p past_64.num t)))

  by_low : le (neg most) (to_single v) ≡ le (neg past) v
  by_low =
      same_test (le (neg most) (to_single v)) (le (neg past) v)
      (λ t. to_le (neg-num past_64.num) p (low p (of_le (neg-num most_32.num) (single-num p) t)))
      (λ t. to_le (neg-num most_32.num) (single-num p) (from_low p (of_le (neg-num past_64.num) p t)))

  of_number : wild (to_single v) ≡ not (le v past && le (neg past) v)
  unfolding wild
  of_number = rw (most_is, by_high, by_low) refl

pub wild-single : (v : Float) → T (fits binary64 v) → wild (to_single v) ≡ not (le v past && le (neg past) v)
wild-single nan f = unfold wild to_single le lt eq in refl
wild-single (inf s) f = of_number (record { fit = f; real = unfold is_nan in tt })
wild-single (fin s m e) f = of_number (record { fit = f; real = unfold is_nan in tt })

-- `sigma_ab_at` of a record inside the margin is a number from 0.5 to 2,000, at every L up to 2^21 in magnitude: the pooled sigma, or d + fl(fl(m) × t) with t from 0 to 1 and m the difference of two
-- sigmas. Below the dark level's sigma d it goes by at most fl(m), which is that difference and a part in 2^24 of it. Assumes nothing.
use mathlib.Core.Path.{◌≡◌, refl}
use mathlib.Core.Logic.{inl, inr, ⊎_elim}
use mathlib.Core.Bool.{Bool, true, false, cond, ◌||◌}
use Prim.Native.Nat.{ℕ, zero, suc, ◌+◌, ◌-◌, ◌*◌, ◌^◌, ◌≤◌, ◌<◌}
use native.Mathlib.Nat.{mul-le-mul_left, mul_comm, zero-mul}
use native.Mathlib.Omega.{arith}
use lib.Ieee.{Float, binary32, neg, add, sub, mul, le, round}
use Rattle.floatlaws.specs.Value.{unit, limit, hi, lo, Num, one_side}
use Rattle.floatlaws.specs.Order.{Le, of_le, sides, le_trans as trans}
use Rattle.floatlaws.specs.Near.{near, Rounds}
use Rattle.floatlaws.proofs.Near.{above}
use Rattle.floatlaws.specs.Error.{near-kept}
use Rattle.floatlaws.specs.Ops.{mul-swap}
use Rattle.floatlaws.proofs.Ops.{add_rounds, sub-rounds, mul-rounds}
use Rattle.floatlaws.specs.Finite.{Fin, num, fin-under, div-num}
use Rattle.floatlaws.specs.Const.{Const, const, is_const}
use Rattle.floatlaws.specs.Interval.{In, within, none, in_pos}
use Rattle.floatlaws.proofs.Interval.{add_in, sub_in, mul_in_signed}
use Rattle.float.specs.Select.{max}
use Rattle.float.proofs.Select.{max-num, max-right, max_le, clamp-num, clamp_range}
use Rattle.color.specs.Color.{whole, fraction}
use Rattle.color.proofs.Rises.{fin_of_fraction}
use Rattle.stats.specs.declared.ChannelStats.{ChannelStats}
use Rattle.stats.specs.Arithmetic.{◌⊕◌, ◌⊖◌, ◌⊗◌, ◌⊘◌}
use Rattle.stats.specs.Noise.{between, sigma_ab_at}
use Rattle.stats.proofs.Reliable.{zero_is, one_is}
use Rattle.guarantee.proofs.Range.{Sigma, LevelSigma, Tame, least-sigma, most-sigma}

pub half_is : Const binary32 (fraction 1 2) 1 0 2
unfolding fraction round is_const
half_is = const binary32 (fraction 1 2) 1 0 2 tt

two_thousand : Const binary32 (whole 2000) 2000 0 1
unfolding fraction round is_const
two_thousand = const binary32 (whole 2000) 2000 0 1 tt

thousandth : Fin binary32 (fraction 1 1000)
unfolding fraction round
thousandth = fin_of_fraction 1 1000 tt

-- ---- a rounded difference is the difference and a part in 2^24 of it at most

few : (k K r d : ℕ) → r * 1 * 2 ≤ d * 2 + 1 * K → (k ≡ 0 → K ≡ 1) → (0 < k → 1 * K * 2 ^ 23 ≤ d) → r * 2 ^ 24 ≤ d * (2 ^ 24 + 1)
few zero K r d e z l = let q = z refl in omega arith
few (suc k) K r d e z l = let q = l (omega arith) in omega arith

one_power : (k : ℕ) → k ≡ 0 → 2 ^ k ≡ 1
one_power k e = rw e

one_above : 0 < 1
one_above = omega arith

lo_under : {z : Float} → Fin binary32 z → lo binary32 z < limit binary32
lo_under f = omega (arith, fin-under f)

pub lo_most : {z : Float} {P N : ℕ} → Rounds binary32 z P N 1 → Fin binary32 z → lo binary32 z * 2 ^ 24 ≤ (N - P) * (2 ^ 24 + 1)
unfolding limit
lo_most {z} {P} {N} r f =
    let k = near-kept binary32 (N - P) 1 one_above (rw r.lo at (lo_under f)) in
    rw r.lo (few k.k (2 ^ k.k) (near binary32 (N - P) 1) (N - P) k.err.0 (one_power k.k) k.least)

-- ---- t, from 0 to 1

-- an L, far beyond those of a card's colours
abbrev pub Any : Float → Type 0
Any l = In binary32 (neg (whole 2097152)) (whole 2097152) l

abbrev pub Part : Float → Type 0
Part t = In binary32 (whole 0) (whole 1) t

part-order : Le binary32 (whole 0) (whole 1)
unfolding le fraction round
part-order = of_le zero_is.num one_is.num tt

gap-most : Le binary32 (fraction 1 1000) (whole 256 ⊖ neg (whole 256))
unfolding le sub neg fraction round
gap-most = of_le (num thousandth) (num (fin_of_fraction 512 1 tt)) tt

module _ (n : ChannelStats) (t : Tame n) (l : Float) (p : Any l) where
  divisor : In binary32 (fraction 1 1000) (whole 256 ⊖ neg (whole 256)) (max (n.l1 ⊖ n.l0) (fraction 1 1000))
  unfolding sub neg fraction round
  divisor =
      let d = sub_in t.l1 t.l0 tt in
      let a = num d.is in
      let b = num thousandth in
      within thousandth d.to (max-num a b) (max-right a b) (max_le a b d.high gap-most)

  quotient : Num binary32 ((l ⊖ n.l0) ⊘ max (n.l1 ⊖ n.l0) (fraction 1 1000))
  unfolding sub neg fraction round
  quotient = div-num (num (sub_in p t.l0 tt).is) divisor.is (in_pos divisor tt)

  part_in : Part (between n l)
  unfolding between
  part_in =
      let r = clamp_range zero_is.num one_is.num part-order quotient in
      within zero_is.is one_is.is (clamp-num zero_is.num one_is.num part-order quotient) r.0 r.1

-- ---- d + m × t

module _ {d e t : Float} (D : Sigma d) (E : Sigma e) (P : Part t) where
  step : In binary32 (fraction 75 100 ⊖ whole 1000) (whole 1000 ⊖ fraction 75 100) (e ⊖ d)
  unfolding sub fraction round
  step = sub_in E D tt

  turn : In binary32 (whole 1 ⊗ (fraction 75 100 ⊖ whole 1000)) (whole 1 ⊗ (whole 1000 ⊖ fraction 75 100)) ((e ⊖ d) ⊗ t)
  unfolding sub mul fraction round
  turn = rw (mul-swap binary32 (e ⊖ d) t) (mul_in_signed P step tt)

  sum : In binary32 (fraction 75 100 ⊕ whole 1 ⊗ (fraction 75 100 ⊖ whole 1000)) (whole 1000 ⊕ whole 1 ⊗ (whole 1000 ⊖ fraction 75 100)) (d ⊕ (e ⊖ d) ⊗ t)
  unfolding add sub mul fraction round
  sum = add_in D turn tt

  part-most : hi binary32 t ≤ unit binary32
  part-most = omega (arith, sides P.high, one_is.hi)

  part-plain : lo binary32 t ≡ 0
  unfolding fraction round
  part-plain = none P tt

  -- the product lies no further below zero than m
  no_lower : lo binary32 ((e ⊖ d) ⊗ t) ≤ lo binary32 (e ⊖ d)
  no_lower = ⊎_elim (λ (z : hi binary32 (e ⊖ d) ≡ 0). below z) (λ (z : lo binary32 (e ⊖ d) ≡ 0). over z) (one_side binary32 (e ⊖ d))
    where
      r : Rounds binary32 ((e ⊖ d) ⊗ t) (hi binary32 (e ⊖ d) * hi binary32 t + lo binary32 (e ⊖ d) * lo binary32 t) (hi binary32 (e ⊖ d) * lo binary32 t + lo binary32 (e ⊖ d) * hi binary32 t) (unit binary32)
      r = mul-rounds (num step.is) (num P.is) (num turn.is)

      less : (a b h u z : ℕ) → z ≡ 0 → a ≡ 0 → h ≤ u → a * u + (a * z + b * h) ≤ a * h + b * z + b * u
      less a b h u z p q l = rw (p, q, zero-mul u, zero-mul h, mul_comm b 0, zero-mul b) (omega (arith, mul-le-mul_left b l))

      below : hi binary32 (e ⊖ d) ≡ 0 → lo binary32 ((e ⊖ d) ⊗ t) ≤ lo binary32 (e ⊖ d)
      below z = (sides (above (num step.is) r (less (hi binary32 (e ⊖ d)) (lo binary32 (e ⊖ d)) (hi binary32 t) (unit binary32) (lo binary32 t) part-plain z part-most))).1

      nothing : (o o' a b h u z : ℕ) → o ≡ 0 → z ≡ 0 → b ≡ 0 → o * u + (a * z + b * h) ≤ a * h + b * z + o' * u
      nothing o o' a b h u z p q l = rw (p, q, l, zero-mul u, zero-mul h, mul_comm a 0, zero-mul a) (omega arith)

      over : lo binary32 (e ⊖ d) ≡ 0 → lo binary32 ((e ⊖ d) ⊗ t) ≤ lo binary32 (e ⊖ d)
      over z =
          let s = sides (above zero_is.num r (nothing (hi binary32 (whole 0)) (lo binary32 (whole 0)) (hi binary32 (e ⊖ d)) (lo binary32 (e ⊖ d)) (hi binary32 t) (unit binary32) (lo binary32 t) (omega (arith, zero_is.hi)) part-plain z)) in
          omega (arith, s.1, zero_is.lo)

  sigma-plain : (x : Float) → Sigma x → lo binary32 x ≡ 0
  unfolding fraction round
  sigma-plain x X = none X tt

  sum_most : Le binary32 (whole 1000 ⊕ whole 1 ⊗ (whole 1000 ⊖ fraction 75 100)) (whole 2000)
  unfolding le add sub mul fraction round
  sum_most = of_le (num sum.to) two_thousand.num tt

  enough : (h z d o e o' M q Q U g s : ℕ) → M * 2 ^ 24 ≤ (o' + d - (e + o)) * (2 ^ 24 + 1) → q ≤ M → h * 2 ≡ 1 * U → g * 4 ≡ 3 * U → s * 1 ≡ 1000 * U → g ≤ e → g ≤ d → d ≤ s → o ≡ 0 → o' ≡ 0 →
      h * 1 + (o + q) ≤ d + Q + z * 1
  enough h z d o e o' M q Q U g s m l a b c u w v p p' = omega arith

  pub between_in : In binary32 (fraction 1 2) (whole 2000) (d ⊕ (e ⊖ d) ⊗ t)
  between_in =
      let m = lo_most (sub-rounds (num E.is) (num D.is) (num step.is)) step.is in
      let a = sides E.low in
      let b = sides D.high in
      within half_is.is two_thousand.is (num sum.is)
      (above half_is.num (add_rounds (num D.is) (num turn.is) (num sum.is))
      (enough (hi binary32 (fraction 1 2)) (lo binary32 (fraction 1 2)) (hi binary32 d) (lo binary32 d) (hi binary32 e) (lo binary32 e) (lo binary32 (e ⊖ d)) (lo binary32 ((e ⊖ d) ⊗ t)) (hi binary32 ((e ⊖ d) ⊗ t)) (unit binary32) (hi binary32 (fraction 75 100)) (hi binary32 (whole 1000))
      m no_lower half_is.hi least-sigma.hi most-sigma.hi a.0 (sides D.low).0 b.0 (sigma-plain d D) (sigma-plain e E)))
      (trans sum.high sum_most)

-- ---- the sigma

-- from 0.5 to 2,000
abbrev pub Scale : Float → Type 0
Scale s = In binary32 (fraction 1 2) (whole 2000) s

pub wider : {s : Float} → Sigma s → Scale s
unfolding le fraction round
wider p =
    within half_is.is two_thousand.is (num p.is)
    (trans (of_le half_is.num least-sigma.num tt) p.low) (trans p.high (of_le most-sigma.num two_thousand.num tt))

module _ (n : ChannelStats) (g : Tame n) (l : Float) (p : Any l) where
  mixed : LevelSigma n.sigma_ab_dark → LevelSigma n.sigma_ab_light → (b c : Bool) → le n.sigma_ab_dark (whole 0) ≡ b → le n.sigma_ab_light (whole 0) ≡ c →
      Scale (cond (b || c) n.sigma_ab (n.sigma_ab_dark ⊕ (n.sigma_ab_light ⊖ n.sigma_ab_dark) ⊗ between n l))
  mixed d e true c f h = wider g.sigma-ab
  mixed d e false true f h = wider g.sigma-ab
  mixed (inl z) e false false f h = let q : ◌≡◌ {A = ℕ} 0 1 = cc in absurd (omega arith)
  mixed (inr d) (inl z) false false f h = let q : ◌≡◌ {A = ℕ} 0 1 = cc in absurd (omega arith)
  mixed (inr d) (inr e) false false f h = between_in d e (part_in n g l p)

  pub sigma_in : Scale (sigma_ab_at n l)
  unfolding sigma_ab_at
  sigma_in = mixed g.dark g.light (le n.sigma_ab_dark (whole 0)) (le n.sigma_ab_light (whole 0)) refl refl

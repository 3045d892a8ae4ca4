-- The own hue's likelihood is above every other's. A sample within half a sigma of a colour that is within s of its hue point and more than 4 × s in a or b from another is, in each axis, within 25/16 × s
-- of the one, and in an axis 27/8 × s or more from the other; the squared distances differ more than twofold, and the divisor, though it has the sample's own sigma, is the same. Assumes nothing.
use mathlib.Core.Path.{◌≡◌, sym, ap, ◌∙◌, subst}
use mathlib.Core.Logic.{◌⊎◌, inl, inr, ⊎_elim}
use mathlib.Core.Bool.{true}
use Prim.Native.Nat.{ℕ, suc, ◌+◌, ◌-◌, ◌*◌, ◌^◌, ◌≤◌, ◌<◌}
use native.Mathlib.Nat.{add-mul, mul_comm, mul_assoc, mul_left_comm, mul_right_comm, mul-le-mul, mul-le-mul_right}
use native.Mathlib.Omega.{arith}
use lib.Dec.{T, ltb}
use lib.Ieee.{Float, binary32, emax, neg, add, sub, mul, div, lt, le, round}
use Rattle.floatlaws.specs.Value.{unit, unit-pos, limit, limit-above, mag, hi, lo, one_side, both-sides, Num}
use Rattle.floatlaws.specs.Order.{Le, Lt, of_le, of_lt, sides, le_lt_trans, neg-num, hi_neg, lo_neg}
use Rattle.floatlaws.specs.Near.{Rounds}
use Rattle.floatlaws.proofs.Near.{rounds_mono, rounds-self, above}
use Rattle.floatlaws.specs.Error.{Normal, at_most}
use Rattle.floatlaws.proofs.Error.{gap-plus, over, div-apart}
use Rattle.floatlaws.proofs.Ops.{add_rounds, sub-rounds, mul-plus, div-neg}
use Rattle.floatlaws.proofs.Mono.{add_mono, mul-both, div_mono}
use Rattle.floatlaws.proofs.Exact.{scale'}
use Rattle.floatlaws.specs.Finite.{Fin, num, neg-fin, fin-under, fin_of, sub-num, mul-num, div-num}
use Rattle.floatlaws.specs.Const.{Const, const, is_const}
use Rattle.floatlaws.specs.Interval.{In, point, none, in_pos, in_normal}
use Rattle.floatlaws.proofs.Interval.{add_in, sub_in, mul_in, div_in}
use Rattle.float.specs.Select.{abs}
use Rattle.float.proofs.Select.{abs_one, abs-num, abs-sides, of_abs_le}
use Rattle.color.specs.Color.{whole, fraction}
use Rattle.stats.specs.Arithmetic.{◌⊕◌, ◌⊖◌, ◌⊗◌, ◌⊘◌, squared}
use Rattle.guarantee.proofs.Range.{to_T}
use Rattle.guarantee.proofs.Luma.{two_is}
use Rattle.guarantee.proofs.Sigma.{Scale, Any}
use Rattle.guarantee.proofs.Half.{Close, square-abs, square_in, scale-plain}

-- ---- a negated number is rounded from the negated number

pub neg-rounds : {z : Float} {P N C : ℕ} → Rounds binary32 z P N C → Rounds binary32 (neg z) N P C
neg-rounds {z} r = record { num = neg-num r.num; below = r.below; hi = hi_neg binary32 z ∙ r.lo; lo = lo_neg binary32 z ∙ r.hi }

-- ---- squares, by size

module _ {z e : Float} (p : Num binary32 z) (q : Num binary32 e) (n : Num binary32 (squared z)) (m : Num binary32 (e ⊗ e)) where
  pub square-most : lo binary32 e ≡ 0 → hi binary32 z ≤ hi binary32 e → lo binary32 z ≤ hi binary32 e → Le binary32 (squared z) (e ⊗ e)
  square-most o h l =
      let a = abs-num p in
      let s = abs-sides binary32 z in
      let u : Le binary32 (abs z) e = record { le = omega (arith, s.0, s.1, o, side) } in
      rw (square-abs z) (mul-both a q a q (rw (square-abs z) at n) m s.1 s.1 u u)
    where
      by : (a b c d : ℕ) → (a ≡ 0) ⊎ (b ≡ 0) → a + b ≡ c → a ≤ d → b ≤ d → c ≤ d
      by a b c d (inl x) e u v = omega arith
      by a b c d (inr x) e u v = omega arith

      side : mag binary32 z ≤ hi binary32 e
      side = by (hi binary32 z) (lo binary32 z) (mag binary32 z) (hi binary32 e) (one_side binary32 z) (both-sides binary32 z) h l

  pub square-least : lo binary32 e ≡ 0 → hi binary32 e ≤ mag binary32 z → Le binary32 (e ⊗ e) (squared z)
  square-least o h =
      let a = abs-num p in
      let s = abs-sides binary32 z in
      let u : Le binary32 e (abs z) = record { le = omega (arith, s.0, s.1, o) } in
      rw (square-abs z) (mul-both q a q a m (rw (square-abs z) at n) o o u u)

-- ---- the edges: 25/16 × s and 27/8 × s, with their squares

abbrev pub near_edge : Float → Float
near_edge s = fraction 25 16 ⊗ s

abbrev pub far_edge : Float → Float
far_edge s = fraction 27 8 ⊗ s

abbrev pub near_square : Float → Float
near_square s = near_edge s ⊗ near_edge s

abbrev pub far_square : Float → Float
far_square s = far_edge s ⊗ far_edge s

abbrev pub near_sum : Float → Float
near_sum s = near_square s ⊕ near_square s

near_is : Const binary32 (fraction 25 16) 25 0 16
unfolding fraction round is_const
near_is = const binary32 (fraction 25 16) 25 0 16 tt

far_is : Const binary32 (fraction 27 8) 27 0 8
unfolding fraction round is_const
far_is = const binary32 (fraction 27 8) 27 0 8 tt

four_is : Const binary32 (whole 4) 4 0 1
unfolding fraction round is_const
four_is = const binary32 (whole 4) 4 0 1 tt

near-plain : lo binary32 (fraction 25 16) ≡ 0
near-plain = omega (arith, near_is.lo)

far-plain : lo binary32 (fraction 27 8) ≡ 0
far-plain = omega (arith, far_is.lo)

many-places : 13 ≤ suc (emax binary32)
many-places = omega arith

scale-most : hi binary32 (whole 2000) * 1 ≡ 2000 * unit binary32
unfolding fraction round is_const
scale-most = (const binary32 (whole 2000) 2000 0 1 tt).hi

scale-many : T (ltb (2 ^ 23) (hi binary32 (fraction 1 2)))
unfolding hi mag fraction round
scale-many = tt

normal_of : {n : ℕ} → Normal binary32 n → 2 ^ 23 ≤ n
normal_of v = omega (arith, v.least)

module _ {s : Float} (S : Scale s) where
  near-edge : In binary32 (near_edge (fraction 1 2)) (near_edge (whole 2000)) (near_edge s)
  unfolding mul fraction round
  near-edge = mul_in (point near_is.is) S tt

  far-edge : In binary32 (far_edge (fraction 1 2)) (far_edge (whole 2000)) (far_edge s)
  unfolding mul fraction round
  far-edge = mul_in (point far_is.is) S tt

  near-rounds : Rounds binary32 (near_edge s) (hi binary32 (fraction 25 16) * hi binary32 s) 0 (unit binary32)
  near-rounds = mul-plus near_is.num (num S.is) (num near-edge.is) near-plain (scale-plain S)

  far-rounds : Rounds binary32 (far_edge s) (hi binary32 (fraction 27 8) * hi binary32 s) 0 (unit binary32)
  far-rounds = mul-plus far_is.num (num S.is) (num far-edge.is) far-plain (scale-plain S)

  edges_apart : 32 * hi binary32 (near_edge s) ≤ 15 * hi binary32 (far_edge s)
  unfolding hi mag mul fraction round
  edges_apart =
      gap-plus 32 15 near-rounds far-rounds (in_normal near-edge tt) (in_normal far-edge tt)
      (enough (hi binary32 (fraction 25 16)) (hi binary32 (fraction 27 8)) (hi binary32 s) (unit binary32) near_is.hi far_is.hi)
    where
      enough : (x y k u : ℕ) → x * 16 ≡ 25 * u → y * 8 ≡ 27 * u → 32 * (x * k * u) * (2 ^ 24 + 1) + 15 * (y * k * u) ≤ 15 * (y * k * u) * 2 ^ 24
      enough x y k u p q =
          let e : x * 54 ≡ y * 25 = omega arith in
          let r : x * k * u * 54 ≡ y * k * u * 25 = mul_right_comm (x * k) u 54 ∙ ap (λ (z : ℕ). z * u) (mul_right_comm x k 54 ∙ ap (λ (z : ℕ). z * k) e ∙ mul_right_comm y 25 k) ∙ mul_right_comm (y * k) 25 u in
          omega arith

  near-square : In binary32 (near_square (fraction 1 2)) (near_square (whole 2000)) (near_square s)
  unfolding mul fraction round
  near-square = mul_in near-edge near-edge tt

  far-square : In binary32 (far_square (fraction 1 2)) (far_square (whole 2000)) (far_square s)
  unfolding mul fraction round
  far-square = mul_in far-edge far-edge tt

  near-edge-plain : lo binary32 (near_edge s) ≡ 0
  unfolding mul fraction round
  near-edge-plain = none near-edge tt

  far-edge-plain : lo binary32 (far_edge s) ≡ 0
  unfolding mul fraction round
  far-edge-plain = none far-edge tt

  near-square-plain : lo binary32 (near_square s) ≡ 0
  unfolding mul fraction round
  near-square-plain = none near-square tt

  far-square-plain : lo binary32 (far_square s) ≡ 0
  unfolding mul fraction round
  far-square-plain = none far-square tt

  squares-apart : 9 * hi binary32 (near_square s) ≤ 2 * hi binary32 (far_square s)
  unfolding hi mag mul fraction round
  squares-apart =
      gap-plus 9 2 (mul-plus (num near-edge.is) (num near-edge.is) (num near-square.is) near-edge-plain near-edge-plain) (mul-plus (num far-edge.is) (num far-edge.is) (num far-square.is) far-edge-plain far-edge-plain)
      (in_normal near-square tt) (in_normal far-square tt)
      (enough (hi binary32 (near_edge s)) (hi binary32 (far_edge s)) (unit binary32) edges_apart)
    where
      enough : (x y u : ℕ) → 32 * x ≤ 15 * y → 9 * (x * x * u) * (2 ^ 24 + 1) + 2 * (y * y * u) ≤ 2 * (y * y * u) * 2 ^ 24
      enough x y u h =
          let r : x * 32 * (x * 32) * u ≤ y * 15 * (y * 15) * u = mul-le-mul_right u (mul-le-mul {n₁ = x * 32} {m₁ = x * 32} {n₂ = y * 15} {m₂ = y * 15} (omega arith) (omega arith)) in
          let e : x * 32 * (x * 32) * u ≡ x * x * u * 32 * 32 = simp (mul_assoc, mul_comm, mul_left_comm) in
          let f : y * 15 * (y * 15) * u ≡ y * y * u * 15 * 15 = simp (mul_assoc, mul_comm, mul_left_comm) in
          omega arith

  -- the sum of two near squares
  sum_in : In binary32 (near_sum (fraction 1 2)) (near_sum (whole 2000)) (near_sum s)
  unfolding add mul fraction round
  sum_in = add_in near-square near-square tt

  sum_plain : lo binary32 (near_sum s) ≡ 0
  unfolding add mul fraction round
  sum_plain = none sum_in tt

  sum_normal : Normal binary32 (hi binary32 (near_sum s))
  unfolding hi mag add mul fraction round
  sum_normal = in_normal sum_in tt

  far-normal : Normal binary32 (hi binary32 (far_square s))
  unfolding hi mag mul fraction round
  far-normal = in_normal far-square tt

  none-twice : (a : ℕ) → a ≡ 0 → a + a ≡ 0
  none-twice a e = omega arith

  -- twice it is at most a far square
  twofold : 2 * hi binary32 (near_sum s) ≤ hi binary32 (far_square s)
  twofold =
      let q = num near-square.is in
      let a : Rounds binary32 (near_sum s) (hi binary32 (near_square s) + hi binary32 (near_square s)) 0 1 =
      subst (λ (N : ℕ). Rounds binary32 (near_sum s) (hi binary32 (near_square s) + hi binary32 (near_square s)) N 1) (none-twice (lo binary32 (near_square s)) near-square-plain) (add_rounds q q (num sum_in.is)) in
      let b : Rounds binary32 (far_square s) (hi binary32 (far_square s)) 0 1 =
      subst (λ (N : ℕ). Rounds binary32 (far_square s) (hi binary32 (far_square s)) N 1) far-square-plain (rounds-self (num far-square.is)) in
      omega (arith, gap-plus 2 1 a b sum_normal far-normal (enough (hi binary32 (near_square s)) (hi binary32 (far_square s)) squares-apart))
    where
      enough : (x y : ℕ) → 9 * x ≤ 2 * y → 2 * ((x + x) * 1) * (2 ^ 24 + 1) + 1 * (y * 1) ≤ 1 * (y * 1) * 2 ^ 24
      enough x y h = omega arith

  -- ---- from a colour c's number, its hue point's h and the sample's x

  normal-scale : 2 ^ 23 ≤ hi binary32 s
  normal-scale = normal_of (in_normal S scale-many)

  small-scale : hi binary32 s < limit binary32
  small-scale = omega (arith, fin-under S.is)

  module _ {x c : Float} (p : Close s x c) where
    -- the exact distances: |c - h| is at most s and a part in 2^24 of it, so |x - h| is at most 25/16 × s
    near-sum : (X C X' C' H H' : ℕ) → (C + H' - (C' + H)) * 2 ^ 24 ≤ hi binary32 s * 1 * (2 ^ 24 + 1) → 2 * (X + C') + lo binary32 s ≤ 2 * (C + X') + hi binary32 s →
        16 * (X + H') ≤ 16 * (X' + H) + 25 * hi binary32 s
    near-sum X C X' C' H H' a b = omega (arith, scale-plain S)

    rise : (p q s k u : ℕ) → k * 16 ≡ 25 * u → 16 * p ≤ 16 * q + 25 * s → p * u + 0 * 1 ≤ k * s * 1 + q * u
    rise p q s k u e h =
        let a : 16 * p * u ≤ (16 * q + 25 * s) * u = mul-le-mul_right u h in
        let b : 16 * p * u ≡ p * u * 16 = simp (mul_assoc, mul_comm, mul_left_comm) in
        let c : (16 * q + 25 * s) * u ≡ q * u * 16 + s * (25 * u) = simp (add-mul, mul_assoc, mul_comm, mul_left_comm) in
        let d : s * (25 * u) ≡ k * s * 16 = ap (λ (z : ℕ). s * z) (sym e) ∙ simp (mul_assoc, mul_comm, mul_left_comm) in
        omega arith

    far_sum : (X C X' C' H H' f o : ℕ) → f ≡ hi binary32 s * 2 ^ 2 → o ≡ 0 → f * 1 + (C' + H) < C + H' + o * 1 → 2 * (C + X') + lo binary32 s ≤ 2 * (X + C') + hi binary32 s →
        27 * hi binary32 s + 8 * (X' + H) ≤ 8 * (X + H')
    far_sum X C X' C' H H' f o d e a b = omega (arith, scale-plain S)

    reach : (p q s k u : ℕ) → k * 8 ≡ 27 * u → 27 * s + 8 * q ≤ 8 * p → k * s * 1 + q * u ≤ p * u + 0 * 1
    reach p q s k u e h =
        let a : (27 * s + 8 * q) * u ≤ 8 * p * u = mul-le-mul_right u h in
        let b : 8 * p * u ≡ p * u * 8 = simp (mul_assoc, mul_comm, mul_left_comm) in
        let c = add-mul (27 * s) (8 * q) u in
        let f : 27 * s * u ≡ s * (27 * u) = simp (mul_assoc, mul_left_comm) in
        let g : 8 * q * u ≡ q * u * 8 = simp (mul_assoc, mul_comm, mul_left_comm) in
        let d : s * (27 * u) ≡ k * s * 8 = ap (λ (z : ℕ). s * z) (sym e) ∙ simp (mul_assoc, mul_comm, mul_left_comm) in
        omega arith

    module _ {h : Float} (C : Any c) (H : Any h) where
      offset : Fin binary32 (c ⊖ h)
      unfolding sub neg fraction round
      offset = (sub_in C H tt).is

      offset-rounds : Rounds binary32 (c ⊖ h) (hi binary32 c + lo binary32 h) (lo binary32 c + hi binary32 h) 1
      offset-rounds = sub-rounds (num C.is) (num H.is) (num offset)

      sample_num : Num binary32 (x ⊖ h)
      sample_num = sub-num p.is (num H.is)

      sample_rounds : Rounds binary32 (x ⊖ h) (hi binary32 x + lo binary32 h) (lo binary32 x + hi binary32 h) 1
      sample_rounds = sub-rounds (num p.is) (num H.is) sample_num

      flipped : 2 * (lo binary32 x + hi binary32 c) + lo binary32 s ≤ 2 * (lo binary32 c + hi binary32 x) + hi binary32 s
      flipped = omega (arith, p.down)

      flipped_up : 2 * (lo binary32 c + hi binary32 x) + lo binary32 s ≤ 2 * (lo binary32 x + hi binary32 c) + hi binary32 s
      flipped_up = omega (arith, p.up)

      -- within s of the hue point: the sample is within 25/16 × s
      pub at_own : le (abs (c ⊖ h)) s ≡ true → (hi binary32 (x ⊖ h) ≤ hi binary32 (near_edge s)) × (lo binary32 (x ⊖ h) ≤ hi binary32 (near_edge s))
      at_own e =
          let o = of_abs_le (of_le (abs-num (num offset)) (num S.is) (to_T (le (abs (c ⊖ h)) s) e)) in
          let a : hi binary32 (c ⊖ h) ≤ hi binary32 s = (sides o.1).0 in
          let b : hi binary32 (neg (c ⊖ h)) ≤ hi binary32 s = omega (arith, (sides o.0).1, lo_neg binary32 s, hi_neg binary32 (c ⊖ h)) in
          let u = at_most (hi binary32 s) offset-rounds a normal-scale small-scale in
          let v = at_most (hi binary32 s) (neg-rounds offset-rounds) b normal-scale small-scale in
          let f = near-sum (hi binary32 x) (hi binary32 c) (lo binary32 x) (lo binary32 c) (hi binary32 h) (lo binary32 h) u p.up in
          let g = near-sum (lo binary32 x) (lo binary32 c) (hi binary32 x) (hi binary32 c) (lo binary32 h) (hi binary32 h) v flipped in
          let q = rounds_mono sample_rounds near-rounds (rise (hi binary32 x + lo binary32 h) (lo binary32 x + hi binary32 h) (hi binary32 s) (hi binary32 (fraction 25 16)) (unit binary32) near_is.hi f) in
          let r = rounds_mono (neg-rounds sample_rounds) near-rounds (rise (lo binary32 x + hi binary32 h) (hi binary32 x + lo binary32 h) (hi binary32 s) (hi binary32 (fraction 25 16)) (unit binary32) near_is.hi g) in
          ((sides q).0, omega (arith, (sides r).0, hi_neg binary32 (x ⊖ h)))

      four_hi : hi binary32 (whole 4) ≡ 2 ^ 2 * unit binary32
      four_hi = omega (arith, four_is.hi)

      four-num : Num binary32 (whole 4 ⊗ s)
      four-num = mul-num four_is.is S.is

      room : (hi binary32 s + lo binary32 s) * 2 ^ 2 < limit binary32
      room = enough (hi binary32 s) (lo binary32 s) (unit binary32) (limit binary32) (hi binary32 (whole 2000)) (limit-above binary32 13 many-places) (sides S.high).0 (scale-plain S) (scale-most) (unit-pos binary32)
        where
          enough : (a b u l k : ℕ) → 2 ^ 13 * u ≤ l → a ≤ k → b ≡ 0 → k * 1 ≡ 2000 * u → 0 < u → (a + b) * 2 ^ 2 < l
          enough a b u l k r h o e z = omega arith

      four : (hi binary32 (whole 4 ⊗ s) ≡ hi binary32 s * 2 ^ 2) × (lo binary32 (whole 4 ⊗ s) ≡ lo binary32 s * 2 ^ 2)
      four = scale' 2 S.is four_is.num four-num four_hi (omega (arith, four_is.lo)) room

      four_lo : lo binary32 (whole 4 ⊗ s) ≡ 0
      four_lo = omega (arith, four.1, scale-plain S)

      -- more than 4 × s from another hue point: the sample is 27/8 × s from it or more
      pub off-other : lt (whole 4 ⊗ s) (abs (c ⊖ h)) ≡ true → hi binary32 (far_edge s) ≤ mag binary32 (x ⊖ h)
      off-other e = ⊎_elim over_it under_it (abs_one (c ⊖ h))
        where
          beyond : Lt binary32 (whole 4 ⊗ s) (abs (c ⊖ h))
          beyond = of_lt four-num (abs-num (num offset)) (to_T (lt (whole 4 ⊗ s) (abs (c ⊖ h))) e)

          over_it : abs (c ⊖ h) ≡ c ⊖ h → hi binary32 (far_edge s) ≤ mag binary32 (x ⊖ h)
          over_it z =
              let a = over four-num offset-rounds (rw z at beyond) in
              let f = far_sum (hi binary32 x) (hi binary32 c) (lo binary32 x) (lo binary32 c) (hi binary32 h) (lo binary32 h) (hi binary32 (whole 4 ⊗ s)) (lo binary32 (whole 4 ⊗ s)) four.0 four_lo a p.down in
              let q = rounds_mono far-rounds sample_rounds (reach (hi binary32 x + lo binary32 h) (lo binary32 x + hi binary32 h) (hi binary32 s) (hi binary32 (fraction 27 8)) (unit binary32) far_is.hi f) in
              omega (arith, (sides q).0, both-sides binary32 (x ⊖ h))

          under_it : abs (c ⊖ h) ≡ neg (c ⊖ h) → hi binary32 (far_edge s) ≤ mag binary32 (x ⊖ h)
          under_it z =
              let a = over four-num (neg-rounds offset-rounds) (rw z at beyond) in
              let f = far_sum (lo binary32 x) (lo binary32 c) (hi binary32 x) (hi binary32 c) (lo binary32 h) (hi binary32 h) (hi binary32 (whole 4 ⊗ s)) (lo binary32 (whole 4 ⊗ s)) four.0 four_lo a flipped_up in
              let q = rounds_mono far-rounds (neg-rounds sample_rounds) (reach (lo binary32 x + hi binary32 h) (hi binary32 x + lo binary32 h) (hi binary32 s) (hi binary32 (fraction 27 8)) (unit binary32) far_is.hi f) in
              omega (arith, (sides q).0, hi_neg binary32 (x ⊖ h), both-sides binary32 (x ⊖ h))

-- ---- the likelihoods: minus the sum of two squares, over 2 × s' × s'

-- a difference of two numbers of colours
abbrev pub Difference : Float → Type 0
Difference x = In binary32 (neg (whole 4194304)) (whole 4194304) x

pub difference : {x h : Float} → Any x → Any h → Difference (x ⊖ h)
unfolding sub neg fraction round
difference p q = sub_in p q tt

module _ {x y : Float} (X : Difference x) (Y : Difference y) where
  square-of : {z : Float} → Difference z → In binary32 (whole 0) (whole 17592186044416) (squared z)
  unfolding mul fraction round
  square-of p = square_in p tt

  total_in : In binary32 (whole 0) (whole 35184372088832) (squared x ⊕ squared y)
  unfolding add fraction round
  total_in = add_in (square-of X) (square-of Y) tt

  square-plain : {z : Float} → Difference z → lo binary32 (squared z) ≡ 0
  unfolding fraction round
  square-plain p = none (square-of p) tt

module _ {s s' : Float} (S : Scale s) (S' : Scale s') where
  spread : In binary32 (whole 2 ⊗ fraction 1 2 ⊗ fraction 1 2) (whole 2 ⊗ whole 2000 ⊗ whole 2000) (whole 2 ⊗ s' ⊗ s')
  unfolding mul fraction round
  spread = mul_in (mul_in (point two_is.is) S' tt) S' tt

  spread-above : 0 < hi binary32 (whole 2 ⊗ s' ⊗ s')
  unfolding mul fraction round
  spread-above = in_pos spread tt

  far-part : In binary32 (far_square (fraction 1 2) ⊘ (whole 2 ⊗ whole 2000 ⊗ whole 2000)) (far_square (whole 2000) ⊘ (whole 2 ⊗ fraction 1 2 ⊗ fraction 1 2)) (far_square s ⊘ (whole 2 ⊗ s' ⊗ s'))
  unfolding div mul fraction round
  far-part = div_in (far-square S) spread tt

  far-part-normal : Normal binary32 (hi binary32 (far_square s ⊘ (whole 2 ⊗ s' ⊗ s')))
  unfolding hi mag div mul fraction round
  far-part-normal = in_normal far-part tt

  -- what lies between the own hue's likelihood and the others'
  abbrev pub between : Float
  between = neg (far_square s ⊘ (whole 2 ⊗ s' ⊗ s'))

  pub between-fin : Fin binary32 between
  between-fin = neg-fin far-part.is

  module _ {x y : Float} (X : Difference x) (Y : Difference y) where
    total : Num binary32 (squared x ⊕ squared y)
    total = num (total_in X Y).is

    part : Num binary32 ((squared x ⊕ squared y) ⊘ (whole 2 ⊗ s' ⊗ s'))
    part = div-num total spread.is spread-above

    pub likelihood : Num binary32 (neg (squared x ⊕ squared y) ⊘ (whole 2 ⊗ s' ⊗ s'))
    likelihood = div-num (neg-num total) spread.is spread-above

    flip : (hi binary32 (neg (squared x ⊕ squared y) ⊘ (whole 2 ⊗ s' ⊗ s')) ≡ lo binary32 ((squared x ⊕ squared y) ⊘ (whole 2 ⊗ s' ⊗ s')))
        × (lo binary32 (neg (squared x ⊕ squared y) ⊘ (whole 2 ⊗ s' ⊗ s')) ≡ hi binary32 ((squared x ⊕ squared y) ⊘ (whole 2 ⊗ s' ⊗ s')))
    flip = div-neg total (num spread.is) spread-above part likelihood

    flip-far : (hi binary32 between ≡ lo binary32 (far_square s ⊘ (whole 2 ⊗ s' ⊗ s')))
        × (lo binary32 between ≡ hi binary32 (far_square s ⊘ (whole 2 ⊗ s' ⊗ s')))
    flip-far = (hi_neg binary32 _, lo_neg binary32 _)

    -- near in both axes: above it
    abbrev Within : Float → Type 0
    Within z = (hi binary32 z ≤ hi binary32 (near_edge s)) × (lo binary32 z ≤ hi binary32 (near_edge s))

    pub own-ahead : Within x → Within y → Lt binary32 between (neg (squared x ⊕ squared y) ⊘ (whole 2 ⊗ s' ⊗ s'))
    own-ahead u v =
        let e = num (near-edge S).is in
        let q = num (near-square S).is in
        let a = square-most (num X.is) e (mul-num X.is X.is) q (near-edge-plain S) u.0 u.1 in
        let b = square-most (num Y.is) e (mul-num Y.is Y.is) q (near-edge-plain S) v.0 v.1 in
        let m = add_mono (mul-num X.is X.is) q (mul-num Y.is Y.is) q total (num (sum_in S).is) a b in
        let w = num (sum_in S).is in
        let d = div-num w spread.is spread-above in
        let f = div_mono total w (num spread.is) part d spread-above m in
        let g = div-apart w (num (far-square S).is) (num spread.is) spread-above d (num far-part.is) (sum_plain S) (far-square-plain S) (twofold S) far-part-normal in
        let o = le_lt_trans f g in
        record { lt = omega (arith, o.lt, flip.0, flip.1, flip-far.0, flip-far.1) }

    part-fin : Fin binary32 ((squared x ⊕ squared y) ⊘ (whole 2 ⊗ s' ⊗ s'))
    unfolding add div mul fraction round
    part-fin = (div_in (total_in X Y) spread tt).is

    pub own-fin : Fin binary32 (neg (squared x ⊕ squared y) ⊘ (whole 2 ⊗ s' ⊗ s'))
    own-fin = fin_of likelihood (omega (arith, flip.0, fin-under part-fin)) (omega (arith, flip.1, fin-under part-fin))

    -- far in one axis: at most it
    pub other-behind : (hi binary32 (far_edge s) ≤ mag binary32 x) ⊎ (hi binary32 (far_edge s) ≤ mag binary32 y) → Le binary32 (neg (squared x ⊕ squared y) ⊘ (whole 2 ⊗ s' ⊗ s')) between
    other-behind far =
        let o = div_mono (num (far-square S).is) total (num spread.is) (num far-part.is) part spread-above (most far) in
        record { le = omega (arith, o.le, flip.0, flip.1, flip-far.0, flip-far.1) }
      where
        sum_rounds : Rounds binary32 (squared x ⊕ squared y) (hi binary32 (squared x) + hi binary32 (squared y)) (lo binary32 (squared x) + lo binary32 (squared y)) 1
        sum_rounds = add_rounds (mul-num X.is X.is) (mul-num Y.is Y.is) total

        most : (hi binary32 (far_edge s) ≤ mag binary32 x) ⊎ (hi binary32 (far_edge s) ≤ mag binary32 y) → Le binary32 (far_square s) (squared x ⊕ squared y)
        most (inl f) =
            let a = sides (square-least (num X.is) (num (far-edge S).is) (mul-num X.is X.is) (num (far-square S).is) (far-edge-plain S) f) in
            above (num (far-square S).is) sum_rounds (omega (arith, a.0, square-plain X Y X, square-plain X Y Y))
        most (inr f) =
            let a = sides (square-least (num Y.is) (num (far-edge S).is) (mul-num Y.is Y.is) (num (far-square S).is) (far-edge-plain S) f) in
            above (num (far-square S).is) sum_rounds (omega (arith, a.0, square-plain X Y X, square-plain X Y Y))

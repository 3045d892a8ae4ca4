-- What lies within half a sigma of a colour: the rounded difference is at most half the sigma, since that half is a float, so divided by the sigma it is at most 1/2, and its square at most 1/4.
-- Assumes nothing.
use mathlib.Core.Path.{◌≡◌, refl}
use mathlib.Core.Bool.{Bool, true, false, not, ◌&&◌, cond}
use Prim.Native.Nat.{ℕ, zero, suc, ◌+◌, ◌-◌, ◌*◌, ◌^◌, ◌≤◌, ◌<◌}
use native.Mathlib.Nat.{mul-le-mul_left, mul_comm, mul_left_comm, zero-mul, le_trans, le_of_eq}
use native.Mathlib.Omega.{arith}
use borrow.Author.Tests.{ltb-true, ltb-false}
use lib.Dec.{T, leb, ltb, leb→le}
use lib.IntN.{ℤ, pos, negsuc, nat_abs, sub_ℕ, ◌-ℤ◌}
use lib.Signed.{le_z}
use lib.Ieee.{Float, nan, inf, fin, binary32, neg, mul, round, fits}
use lib.Ieee.Scale.{finite}
use Rattle.floatlaws.specs.Value.{unit, unit-pos, hi, lo, mag, negative, Num}
use Rattle.floatlaws.specs.Order.{sides, neg-num, hi_neg, lo_neg}
use Rattle.floatlaws.proofs.Near.{above, under}
use Rattle.floatlaws.proofs.Ops.{sub-rounds, div-rounds}
use Rattle.floatlaws.specs.Finite.{Fin, num, neg-fin, sub-num, div-num}
use Rattle.floatlaws.proofs.Exact.{div-halve}
use Rattle.floatlaws.specs.Interval.{In, within, none, in_pos}
use Rattle.floatlaws.proofs.Interval.{mul_in}
use Rattle.float.specs.Select.{abs}
use Rattle.float.proofs.Select.{abs-num, abs-sides, abs_le}
use Rattle.color.specs.Color.{whole, fraction}
use Rattle.stats.specs.Arithmetic.{◌⊖◌, ◌⊗◌, ◌⊘◌, squared}
use Rattle.stats.proofs.Reliable.{zero_is}
use Rattle.guarantee.specs.Within.{units, half_apart}
use Rattle.guarantee.proofs.Range.{to_T, both}
use Rattle.guarantee.proofs.Luma.{two_is}
use Rattle.guarantee.proofs.Sigma.{Scale, half_is}

-- ---- a whole number as the difference of two natural ones

unfoldable above_zero : ℤ → ℕ
above_zero (pos n) = n
above_zero (negsuc n) = 0

unfoldable below-zero : ℤ → ℕ
below-zero (pos n) = 0
below-zero (negsuc n) = suc n

sub_parts : (a b : ℕ) → above_zero (sub_ℕ a b) + b ≡ a + below-zero (sub_ℕ a b)
unfolding above_zero below-zero
sub_parts a b = by_order (ltb a b) refl
  where
    by_order : (t : Bool) → ltb a b ≡ t → above_zero (cond t (negsuc (b - suc a)) (pos (a - b))) + b ≡ a + below-zero (cond t (negsuc (b - suc a)) (pos (a - b)))
    by_order true e = let h = ltb-true a b e in omega arith
    by_order false e = let h = ltb-false a b e in omega arith

difference-parts : (x y : ℤ) → above_zero (x -ℤ y) + below-zero x + above_zero y ≡ below-zero (x -ℤ y) + above_zero x + below-zero y
unfolding above_zero below-zero
difference-parts (pos a) (pos zero) = omega arith
difference-parts (pos a) (pos (suc b)) = omega (arith, sub_parts a (suc b))
difference-parts (pos a) (negsuc b) = omega arith
difference-parts (negsuc a) (pos zero) = omega (arith, sub_parts 0 (suc a))
difference-parts (negsuc a) (pos (suc b)) = omega arith
difference-parts (negsuc a) (negsuc b) = omega (arith, sub_parts (suc b) (suc a))

size-parts : (z : ℤ) → nat_abs z ≡ above_zero z + below-zero z
unfolding above_zero below-zero
size-parts (pos n) = omega arith
size-parts (negsuc n) = omega arith

at_most : (n : ℕ) (z : ℤ) → T (le_z (pos n) z) → n + below-zero z ≤ above_zero z
unfolding above_zero below-zero
at_most n (pos m) t = let h = leb→le n m t in omega arith
at_most n (negsuc m) t = absurd t

-- twice the distance of a - b and c - d is at most p - q
module _ (a b c d p q : ℕ) (t : T (le_z (pos (2 * nat_abs (sub_ℕ a b -ℤ sub_ℕ c d))) (sub_ℕ p q))) where
  abbrev apart : ℤ
  apart = sub_ℕ a b -ℤ sub_ℕ c d

  twice_up : 2 * (a + d) + q ≤ 2 * (c + b) + p
  twice_up = omega (arith, at_most (2 * nat_abs apart) (sub_ℕ p q) t, size-parts apart, difference-parts (sub_ℕ a b) (sub_ℕ c d), sub_parts a b, sub_parts c d, sub_parts p q)

  twice-down : 2 * (c + b) + q ≤ 2 * (a + d) + p
  twice-down = omega (arith, at_most (2 * nat_abs apart) (sub_ℕ p q) t, size-parts apart, difference-parts (sub_ℕ a b) (sub_ℕ c d), sub_parts a b, sub_parts c d, sub_parts p q)

-- ---- the premise, taken apart

pub record Close (s x y : Float) : Type 0 where
  pub is : Fin binary32 x
  pub to : Fin binary32 y
  pub up : 2 * (hi binary32 x + lo binary32 y) + lo binary32 s ≤ 2 * (hi binary32 y + lo binary32 x) + hi binary32 s
  pub down : 2 * (hi binary32 y + lo binary32 x) + lo binary32 s ≤ 2 * (hi binary32 x + lo binary32 y) + hi binary32 s

pub close : (s x y : Float) → T (fits binary32 x) → T (fits binary32 y) → half_apart s x y ≡ true → Close s x y
unfolding units half_apart
close s x y f g e =
    let p = both (finite x && finite y) _ e in
    let q = both (finite x) (finite y) p.0 in
    let t = to_T _ p.1 in
    record {
      is = record { fit = f; finite = to_T (finite x) q.0 };
      to = record { fit = g; finite = to_T (finite y) q.1 };
      up = twice_up (hi binary32 x) (lo binary32 x) (hi binary32 y) (lo binary32 y) (hi binary32 s) (lo binary32 s) t;
      down = twice-down (hi binary32 x) (lo binary32 x) (hi binary32 y) (lo binary32 y) (hi binary32 s) (lo binary32 s) t;
    }

-- ---- squares of numbers of either sign

pub square-abs : (x : Float) → squared x ≡ squared (abs x)
unfolding mul abs
square-abs nan = refl
square-abs (inf true) = refl
square-abs (inf false) = refl
square-abs (fin true m e) = refl
square-abs (fin false m e) = refl

pub abs_in : {b x : Float} → In binary32 (neg b) b x → In binary32 (whole 0) b (abs x)
abs_in {b} {x} p =
    let s = abs-sides binary32 x in
    within zero_is.is p.to (abs-num (num p.is)) (record { le = omega (arith, s.0, s.1, zero_is.hi, zero_is.lo) }) (abs_le p.low p.high)

pub square_in : {b x : Float} → In binary32 (neg b) b x → T (not (negative (whole 0)) && not (negative (whole 0)) && finite (whole 0 ⊗ whole 0) && finite (b ⊗ b)) →
    In binary32 (whole 0 ⊗ whole 0) (b ⊗ b) (squared x)
square_in {b} {x} p t = rw (square-abs x) (mul_in (abs_in p) (abs_in p) t)

-- ---- within half a sigma

many : T (leb (2 ^ 24) (hi binary32 (fraction 1 2)))
unfolding hi mag fraction round
many = tt

least : 2 ^ 24 ≤ hi binary32 (fraction 1 2)
least = leb→le (2 ^ 24) (hi binary32 (fraction 1 2)) many

unit-above : 0 < unit binary32
unit-above = unit-pos binary32

module _ {s : Float} (S : Scale s) where
  pub scale-plain : lo binary32 s ≡ 0
  unfolding fraction round
  scale-plain = none S tt

  pub scale-above : 0 < hi binary32 s
  unfolding fraction round
  scale-above = in_pos S tt

  two_above : 0 < hi binary32 (whole 2)
  two_above = omega (arith, two_is.hi, unit-above)

  pub halved : Num binary32 (s ⊘ whole 2)
  halved = div-num (num S.is) two_is.is two_above

  two_hi : hi binary32 (whole 2) ≡ 2 ^ 1 * unit binary32
  two_hi = omega (arith, two_is.hi)

  normal : 2 ^ 24 ≤ hi binary32 s + lo binary32 s
  normal = omega (arith, least, sides S.low)

  -- s/2 is a float
  pub half_hi : hi binary32 (s ⊘ whole 2) * 2 ≡ hi binary32 s
  half_hi = (div-halve 1 S.is two_is.num halved two_hi normal).0

  nothing : (a b : ℕ) → a * 2 ^ 1 ≡ b → b ≡ 0 → a ≡ 0
  nothing a b e z = omega arith

  pub half_lo : lo binary32 (s ⊘ whole 2) ≡ 0
  half_lo = nothing (lo binary32 (s ⊘ whole 2)) (lo binary32 s) (div-halve 1 S.is two_is.num halved two_hi normal).1 scale-plain

  module _ {x y : Float} (c : Close s x y) where
    difference : Num binary32 (x ⊖ y)
    difference = sub-num c.is (num c.to)

    -- so the rounded difference is at most s/2
    pub half-most : (2 * hi binary32 (x ⊖ y) ≤ hi binary32 s) × (2 * lo binary32 (x ⊖ y) ≤ hi binary32 s)
    half-most =
        let r = sub-rounds (num c.is) (num c.to) difference in
        let a = sides (under halved r (omega (arith, c.up, half_hi, half_lo, scale-plain))) in
        let b = sides (above (neg-num halved) r (rw (hi_neg binary32 (s ⊘ whole 2), lo_neg binary32 (s ⊘ whole 2)) (omega (arith, c.down, half_hi, half_lo, scale-plain)))) in
        (omega (arith, a.0, half_hi), omega (arith, b.1, half_hi, lo_neg binary32 (s ⊘ whole 2)))

    -- and over s at most 1/2
    pub ratio_in : In binary32 (neg (fraction 1 2)) (fraction 1 2) ((x ⊖ y) ⊘ s)
    ratio_in =
        let q = div-num difference S.is scale-above in
        let r = div-rounds difference (num S.is) scale-above q in
        let h = hi binary32 (fraction 1 2) in
        within (neg-fin half_is.is) half_is.is q
        (above (num (neg-fin half_is.is)) r
        (rw (hi_neg binary32 (fraction 1 2), lo_neg binary32 (fraction 1 2)) (most (hi binary32 (x ⊖ y)) (lo binary32 (x ⊖ y)) h (lo binary32 (fraction 1 2)) (unit binary32) (hi binary32 s) half_is.hi (omega (arith, half_is.lo)) half-most.1)))
        (under half_is.num r (least-of (lo binary32 (x ⊖ y)) (hi binary32 (x ⊖ y)) h (lo binary32 (fraction 1 2)) (unit binary32) (hi binary32 s) half_is.hi (omega (arith, half_is.lo)) half-most.0))
      where
        product : (d h u s : ℕ) → h * 2 ≡ 1 * u → 2 * d ≤ s → d * u ≤ h * s
        product d h u s e l =
            let z : u ≡ h * 2 = omega arith in
            rw z (le_trans (le_of_eq (swap d h)) (mul-le-mul_left h l))
          where
            swap : (d h : ℕ) → d * (h * 2) ≡ h * (2 * d)
            swap d h = simp (mul_comm, mul_left_comm)

        most : (x d h z u s : ℕ) → h * 2 ≡ 1 * u → z ≡ 0 → 2 * d ≤ s → z * s + d * u ≤ x * u + h * s
        most x d h z u s e o l = rw (o, zero-mul s) (omega (arith, product d h u s e l))

        least-of : (x d h z u s : ℕ) → h * 2 ≡ 1 * u → z ≡ 0 → 2 * d ≤ s → d * u + z * s ≤ h * s + x * u
        least-of x d h z u s e o l = rw (o, zero-mul s) (omega (arith, product d h u s e l))

    pub ratio-square : In binary32 (whole 0 ⊗ whole 0) (fraction 1 2 ⊗ fraction 1 2) (squared ((x ⊖ y) ⊘ s))
    unfolding mul fraction round
    ratio-square = square_in ratio_in tt

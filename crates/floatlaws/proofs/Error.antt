-- The laws of specs/Error.antt that rest on rounding keeping the order (`near_mono`, specs/Near.antt). Assumes nothing.
use Rattle.std.specs.Prelude.{◌≡◌, Float}
use Rattle.std.proofs.Common.{le_trans, le_of_eq, lt_of_lt_of_le, not-le_of_lt, lt_of_not-le, lt_of_le_of_lt, le_of_lt, le_of_suc-le-suc, mul-one, mul_assoc, mul-pos, mul-le-mul_right, arith, lit≤, pow_pos}
use Prim.Native.Nat.{ℕ, suc, ◌+◌, ◌-◌, ◌*◌, ◌^◌, ◌≤◌, ◌<◌, zero-le}
use Rattle.std.proofs.Math.Nat.{sub-zero}
use Rattle.std.proofs.Math.Decide.{dec_le}
use Rattle.std.specs.Float.{Format, binary32, binary64}
use Rattle.std.specs.Float.Ieee.{prec, div}
use Rattle.std.specs.Float.Ieee.Scale.{overflow}
use Rattle.floatlaws.specs.Value.{unit, limit, hi, lo, Num}
use Rattle.floatlaws.specs.Order.{Lt, not-both, above-none}
use Rattle.floatlaws.specs.Near.{near, near_mono, Rounds}
use Rattle.floatlaws.proofs.Near.{above, under}
use Rattle.floatlaws.proofs.Ops.{div-plus}
use Rattle.floatlaws.specs.Error.{Within, relative, absolute, least, Normal, ratio, half-below}

pub normal : (f : Format) (a c : ℕ) → 0 < c → 2 ^ (prec f - 1) < near f a c → 2 ^ (prec f - 1) * c ≤ a
normal f a c C h = le_of_suc-le-suc (lt_of_not-le (λ (g : suc a ≤ 2 ^ (prec f - 1) * c). not-le_of_lt h (low_near (le_of_lt g))))
  where
    low_near : a ≤ 2 ^ (prec f - 1) * c → near f a c ≤ 2 ^ (prec f - 1)
    low_near g = le_trans (near_mono f a c (2 ^ (prec f - 1)) 1 C (pow_pos 0) (le_trans (le_of_eq (mul-one a)) g)) (le_of_eq (least f))

module _ {f : Format} {z : Float} {P N C : ℕ} (r : Rounds f z P N C) where
  pub relative_hi : Normal f (hi f z) → Within (hi f z * C * 2 ^ prec f) ((P - N) * 2 ^ prec f) (P - N)
  unfolding limit
  relative_hi n = rw r.hi (relative f (P - N) C r.below (rw r.hi at n.most) (normal f (P - N) C r.below (rw r.hi at n.least)))

  pub relative_lo : Normal f (lo f z) → Within (lo f z * C * 2 ^ prec f) ((N - P) * 2 ^ prec f) (N - P)
  unfolding limit
  relative_lo n = rw r.lo (relative f (N - P) C r.below (rw r.lo at n.most) (normal f (N - P) C r.below (rw r.lo at n.least)))

  pub absolute_hi : hi f z < limit f → P - N < 2 ^ prec f * C → Within (hi f z * C * 2) ((P - N) * 2) C
  unfolding limit
  absolute_hi h n = rw r.hi (absolute f (P - N) C r.below (rw r.hi at h) n)

  pub absolute_lo : lo f z < limit f → N - P < 2 ^ prec f * C → Within (lo f z * C * 2) ((N - P) * 2) C
  unfolding limit
  absolute_lo h n = rw r.lo (absolute f (N - P) C r.below (rw r.lo at h) n)

pub gap : {f : Format} {z z' : Float} {P N C P' N' C' : ℕ} (m n : ℕ) → Rounds f z P N C → Rounds f z' P' N' C' → Normal f (hi f z)
    → Normal f (hi f z')
    → m * ((P - N) * C') * (2 ^ prec f + 1) + n * ((P' - N') * C) ≤ n * ((P' - N') * C) * 2 ^ prec f → m * hi f z ≤ n * hi f z'
gap {f} {z} {z'} {P} {N} {C} {P'} {N'} {C'} m n r s u v h =
    ratio (2 ^ prec f) m n (hi f z) (hi f z') (P - N) C (P' - N') C' (mul-pos (mul-pos r.below s.below) (pow_pos (prec f)))
    (relative_hi r u).0 (relative_hi s v).1 h

-- of numbers that are not negative
pub gap-plus : {f : Format} {z z' : Float} {P C P' C' : ℕ} (m n : ℕ) → Rounds f z P 0 C → Rounds f z' P' 0 C' → Normal f (hi f z) → Normal f (hi f z')
    → m * (P * C') * (2 ^ prec f + 1) + n * (P' * C) ≤ n * (P' * C) * 2 ^ prec f → m * hi f z ≤ n * hi f z'
gap-plus {P = P} {P' = P'} m n r s u v h = gap m n r s u v (rw (sub-zero P, sub-zero P') h)

-- ---- from the rounded number back to the number
-- one that rounds above a value of the format is above it, and so for below
pub over : {f : Format} {x z : Float} {P N C : ℕ} → Num f x → Rounds f z P N C → Lt f x z → hi f x * C + N < P + lo f x * C
over p r l = lt_of_not-le (λ h. not-both l (under p r h))

pub short : {f : Format} {x z : Float} {P N C : ℕ} → Num f x → Rounds f z P N C → Lt f z x → P + lo f x * C < hi f x * C + N
short p r l = lt_of_not-le (λ h. not-both l (above p r h))

pub apart : {f : Format} {z z' : Float} {P N C P' N' C' : ℕ} → Rounds f z P N C → Rounds f z' P' N' C' → 2 * ((P - N) * C') ≤ (P' - N') * C
    → Normal f (hi f z') → hi f z < hi f z'
unfolding limit
apart {f} {z} {z'} {P} {N} {C} {P'} {N'} {C'} r s h v = go (dec_le (2 ^ (prec f - 1) * C) a)
  where
    a : ℕ
    a = P - N

    b : ℕ
    b = P' - N'

    four : (f : Format) → 4 ≤ 2 ^ prec f
    four binary32 = lit≤ tt
    four binary64 = lit≤ tt

    once : (x y : ℕ) → 2 * x ≤ y → x ≤ y
    once x y h = omega arith

    M : near f a C ≤ near f b C'
    M = near_mono f a C b C' r.below s.below (once (a * C') (b * C) h)

    under_top : near f b C' < overflow f
    under_top = rw s.hi at v.most

    wide_b : 2 ^ (prec f - 1) * C' ≤ b
    wide_b = normal f b C' s.below (rw s.hi at v.least)

    go : Dec (2 ^ (prec f - 1) * C ≤ a) → hi f z < hi f z'
    go (yes k) =
        rw (r.hi, s.hi)
        (half-below (2 ^ prec f) (near f a C) (near f b C') a C b C' (mul-pos (mul-pos r.below s.below) (pow_pos (prec f))) (four f)
        (relative f a C r.below (lt_of_le_of_lt M under_top) k).0 (relative f b C' s.below under_top wide_b).1 h
        (mul-pos (lt_of_lt_of_le (mul-pos (pow_pos (prec f - 1)) s.below) wide_b) r.below))
    go (no k) =
        lt_of_le_of_lt
        (le_trans (le_of_eq r.hi)
        (le_trans (near_mono f a C (2 ^ (prec f - 1)) 1 r.below (pow_pos 0) (le_trans (le_of_eq (mul-one a)) (le_of_lt (lt_of_not-le k))))
        (le_of_eq (least f))))
        v.least

-- of quotients by one divisor
pub div-apart : {f : Format} {x x' y : Float} → Num f x → Num f x' → Num f y → 0 < hi f y → Num f (div f x y) → Num f (div f x' y) → lo f x ≡ 0
    → lo f x' ≡ 0
    → 2 * hi f x ≤ hi f x' → Normal f (hi f (div f x' y)) → Lt f (div f x y) (div f x' y)
div-apart {f} {x} {x'} {y} p p' q c n n' a a' h v =
    let r = div-plus p q c n a in
    let s = div-plus p' q c n' a' in
    let l =
    apart r s (rw (sub-zero (hi f x * unit f), sub-zero (hi f x' * unit f))
    (le_trans (le_of_eq (ac (hi f x) (unit f) (hi f y))) (mul-le-mul_right (hi f y) (mul-le-mul_right (unit f) h)))) v in
    let z = above-none f (div f x' y) (lt_of_le_of_lt zero-le l) in
    omega arith
  where
    ac : (x u y : ℕ) → 2 * (x * u * y) ≡ 2 * x * u * y
    ac x u y = simp mul_assoc

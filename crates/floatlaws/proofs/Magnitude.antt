-- The laws of specs/Magnitude.antt that rest on rounding keeping the order (`near_mono`, specs/Near.antt). Assumes nothing.
use Rattle.std.specs.Prelude.{◌≡◌, ◌⊎◌, ℕ, ◌+◌, ◌-◌, ◌*◌, ◌≤◌, not, ◌&&◌, T, Float}
use Rattle.std.proofs.Common.{subst, inl, inr, lt_of_lt_of_le, mul-le-mul, mul-le-mul_right, arith}
use Rattle.std.specs.Float.{Format}
use Rattle.std.specs.Float.Ieee.{neg, add, sub, mul, div}
use Rattle.std.specs.Float.Ieee.Fits.{add-fits, mul-fits, div-fits, and_l, and_r}
use Rattle.std.specs.Float.Ieee.Positive.{positive}
use Rattle.std.specs.Float.Ieee.Scale.{finite}
use Rattle.floatlaws.specs.Value.{unit, hi, lo, negative, Num, one_side}
use Rattle.floatlaws.specs.Order.{Le, sides, neg-num}
use Rattle.floatlaws.specs.Near.{near_mono, Rounds}
use Rattle.floatlaws.proofs.Near.{near_le}
use Rattle.floatlaws.specs.Ops.{hi_positive}
use Rattle.floatlaws.proofs.Ops.{add_rounds, mul-rounds, div-rounds, mul-plus, div-plus}
use Rattle.floatlaws.specs.Finite.{Fin, num, add-num, mul-num, div_num'}
use Rattle.floatlaws.specs.Interval.{plain}
use Rattle.floatlaws.specs.Magnitude.{Within, of_sizes, neg-within, product-under, flip, both-neg}

-- ---- what rounds from a smaller magnitude, over the same denominator
smaller : {f : Format} {z w : Float} {P N Q C : ℕ} → Rounds f z P N C → Rounds f w Q 0 C → P ≤ Q + N → N ≤ Q + P → (hi f z ≤ hi f w) × (lo f z ≤ hi f w)
smaller {f} {z} {w} {P} {N} {Q} {C} r s h k =
    (rw (r.hi, s.hi) (near_le f (P - N) (Q - 0) C r.below (omega arith)), rw (r.lo, s.hi) (near_le f (N - P) (Q - 0) C r.below (omega arith)))

-- ---- the operations
module _ {f : Format} {a b x y : Float} (p : Within f a x) (q : Within f b y) where
  pub add-within : T (finite (add f a b) && not (negative (add f a b))) → Within f (add f a b) (add f x y)
  add-within t =
      let F : Fin f (add f a b) = record { fit = add-fits f a b; finite = and_l (finite (add f a b)) (not (negative (add f a b))) t } in
      let n = add-num p.is (num q.is) in
      let k = smaller (add_rounds (num p.is) (num q.is) n) (whole (add_rounds (num p.bound) (num q.bound) (num F))) (omega arith) (omega arith) in
      of_sizes F (and_r (finite (add f a b)) (not (negative (add f a b))) t) n k.0 k.1
    where
      whole : Rounds f (add f a b) (hi f a + hi f b) (lo f a + lo f b) 1 → Rounds f (add f a b) (hi f a + hi f b) 0 1
      whole r =
          let e : lo f a + lo f b ≡ 0 = omega (arith, plain f a p.sign, plain f b q.sign) in
          subst (λ (N : ℕ). Rounds f (add f a b) (hi f a + hi f b) N 1) e r

  pub mul-within : T (finite (mul f a b) && not (negative (mul f a b))) → Within f (mul f a b) (mul f x y)
  mul-within t =
      let F : Fin f (mul f a b) = record { fit = mul-fits f a b; finite = and_l (finite (mul f a b)) (not (negative (mul f a b))) t } in
      let n = mul-num p.is q.is in
      let P = product-under (hi f x) (lo f x) (hi f y) (lo f y) (hi f a) (hi f b) (one_side f x) (one_side f y) p.high p.low q.high q.low in
      let N = product-under (hi f x) (lo f x) (lo f y) (hi f y) (hi f a) (hi f b) (one_side f x) (flip (one_side f y)) p.high p.low q.low q.high in
      let k =
      smaller (mul-rounds (num p.is) (num q.is) n)
      (mul-plus (num p.bound) (num q.bound) (num F) (plain f a p.sign) (plain f b q.sign))
      (omega arith) (omega arith) in
      of_sizes F (and_r (finite (mul f a b)) (not (negative (mul f a b))) t) n k.0 k.1

module _ {f : Format} {a b x y : Float} (p : Within f a x) (q : Within f b y) where
  pub sub_within : T (finite (add f a b) && not (negative (add f a b))) → Within f (add f a b) (sub f x y)
  unfolding sub
  sub_within t = add-within p (neg-within q) t

module _ {f : Format} {a c : Float} (C : Fin f c) (least : T (positive c)) (t : T (finite (div f a c) && not (negative (div f a c)))) where
  div-above : {x y : Float} → Num f y → Le f c y → Within f a x → Within f (div f a c) (div f x y)
  div-above {x} {y} n h p =
      let F : Fin f (div f a c) = record { fit = div-fits f a c; finite = and_l (finite (div f a c)) (not (negative (div f a c))) t } in
      let k = hi_positive f c (num C) least in
      let i = (sides h).0 in
      let w = div_num' p.is n (lt_of_lt_of_le k i) in
      let r = div-rounds (num p.is) n (lt_of_lt_of_le k i) w in
      let s = div-plus (num p.bound) (num C) k (num F) (plain f a p.sign) in
      of_sizes F (and_r (finite (div f a c)) (not (negative (div f a c))) t) w
      (rw (r.hi, s.hi) (near_mono f (hi f x * unit f - lo f x * unit f) (hi f y) (hi f a * unit f - 0) (hi f c) r.below s.below (cross (hi f x * unit f) (lo f x * unit f) (hi f a * unit f) (mul-le-mul_right (unit f) p.high) i)))
      (rw (r.lo, s.hi) (near_mono f (lo f x * unit f - hi f x * unit f) (hi f y) (hi f a * unit f - 0) (hi f c) r.below s.below (cross (lo f x * unit f) (hi f x * unit f) (hi f a * unit f) (mul-le-mul_right (unit f) p.low) i)))
    where
      cross : {u v : ℕ} (m n k : ℕ) → m ≤ k → u ≤ v → (m - n) * u ≤ (k - 0) * v
      cross m n k h i = let l : m - n ≤ k - 0 = omega arith in mul-le-mul l i

  pub div-within : {x y : Float} → Num f y → Le f c y ⊎ Le f c (neg y) → Within f a x → Within f (div f a c) (div f x y)
  div-within n (inl h) p = div-above n h p
  div-within {x} {y} n (inr h) p = rw (both-neg f x y) (div-above (neg-num n) h (neg-within p))

-- The laws of specs/Mono.antt that rest on rounding keeping the order (`near_mono`, specs/Near.antt). Assumes nothing.
use Rattle.std.specs.Prelude.{◌≡◌, ℕ, ◌+◌, ◌≤◌, ◌<◌, pos, Float}
use Rattle.std.proofs.Common.{sym, le_trans, le_of_eq, add-mul, mul-le-mul, mul-le-mul_right, arith}
use Rattle.std.specs.Float.{Format}
use Rattle.std.specs.Float.Ieee.{add, sub, mul, div, of_int}
use Rattle.floatlaws.specs.Value.{unit, hi, lo, Num}
use Rattle.floatlaws.specs.Order.{Le, sides}
use Rattle.floatlaws.specs.Near.{Rounds}
use Rattle.floatlaws.proofs.Near.{rounds_mono}
use Rattle.floatlaws.specs.Ops.{mul-swap}
use Rattle.floatlaws.proofs.Ops.{add_rounds, sub-rounds, mul-rounds, div-rounds, int-rounds, mul-plus, div-plus}
use Rattle.floatlaws.specs.Mono.{grows}

-- ---- two numbers over the same denominator
pub same_den : {f : Format} {z z' : Float} {P N P' N' C : ℕ} → Rounds f z P N C → Rounds f z' P' N' C → P + N' ≤ P' + N → Le f z z'
same_den {P = P} {N = N} {P' = P'} {N' = N'} {C = C} r s h =
    rounds_mono r s (le_trans (le_of_eq (sym (add-mul P N' C))) (le_trans (mul-le-mul_right C h) (le_of_eq (add-mul P' N C))))

module _ {f : Format} {x x' y y' : Float} (p : Num f x) (p' : Num f x') (q : Num f y) (q' : Num f y') where
  pub add_mono : Num f (add f x y) → Num f (add f x' y') → Le f x x' → Le f y y' → Le f (add f x y) (add f x' y')
  add_mono r r' h k = same_den (add_rounds p q r) (add_rounds p' q' r') (omega arith)

  -- a difference grows with what is taken from and shrinks with what is taken
  pub sub_mono : Num f (sub f x y) → Num f (sub f x' y') → Le f x x' → Le f y' y → Le f (sub f x y) (sub f x' y')
  sub_mono r r' h k = same_den (sub-rounds p q r) (sub-rounds p' q' r') (omega arith)

module _ {f : Format} {x y z : Float} (p : Num f x) (q : Num f y) (s : Num f z) where
  pub mul_mono : Num f (mul f x z) → Num f (mul f y z) → lo f z ≡ 0 → Le f x y → Le f (mul f x z) (mul f y z)
  mul_mono r r' e h =
      same_den (mul-rounds p s r) (mul-rounds q s r') (rw e (let k = grows (hi f x) (lo f y) (hi f y) (lo f x) (hi f z) h.le in omega arith))

  pub mul_anti : Num f (mul f x z) → Num f (mul f y z) → hi f z ≡ 0 → Le f x y → Le f (mul f y z) (mul f x z)
  mul_anti r r' e h =
      same_den (mul-rounds q s r') (mul-rounds p s r) (rw e (let k = grows (hi f x) (lo f y) (hi f y) (lo f x) (lo f z) h.le in omega arith))

  -- the same with z first
  pub mul_mono' : Num f (mul f z x) → Num f (mul f z y) → lo f z ≡ 0 → Le f x y → Le f (mul f z x) (mul f z y)
  mul_mono' r r' e h = rw (mul-swap f z x, mul-swap f z y) (mul_mono (rw (mul-swap f z x) at r) (rw (mul-swap f z y) at r') e h)

  pub mul_anti' : Num f (mul f z x) → Num f (mul f z y) → hi f z ≡ 0 → Le f x y → Le f (mul f z y) (mul f z x)
  mul_anti' r r' e h = rw (mul-swap f z x, mul-swap f z y) (mul_anti (rw (mul-swap f z x) at r) (rw (mul-swap f z y) at r') e h)

  -- the numerator, over a divisor above zero
  pub div_mono : Num f (div f x z) → Num f (div f y z) → 0 < hi f z → Le f x y → Le f (div f x z) (div f y z)
  div_mono r r' c h = same_den (div-rounds p s c r) (div-rounds q s c r') (grows (hi f x) (lo f y) (hi f y) (lo f x) (unit f) h.le)

-- ---- both operands, which are not negative: a product grows with each factor, a quotient grows with the numerator and shrinks with the divisor
module _ {f : Format} {x x' y y' : Float} (p : Num f x) (p' : Num f x') (q : Num f y) (q' : Num f y') where
  pub mul-both : Num f (mul f x y) → Num f (mul f x' y') → lo f x ≡ 0 → lo f y ≡ 0 → Le f x x' → Le f y y' → Le f (mul f x y) (mul f x' y')
  mul-both r r' a b h k =
      let i = sides h in
      let j = sides k in
      same_den (mul-plus p q r a b) (mul-plus p' q' r' (omega arith) (omega arith)) (omega (arith, mul-le-mul i.0 j.0))

  pub div-both : Num f (div f x y) → Num f (div f x' y') → lo f x ≡ 0 → 0 < hi f y' → Le f x x' → Le f y' y → Le f (div f x y) (div f x' y')
  div-both r r' a c h k =
      let i = sides h in
      let j = sides k in
      rounds_mono (div-plus p q (omega arith) r a) (div-plus p' q' c r' (omega arith))
      (omega (arith, mul-le-mul (mul-le-mul_right (unit f) i.0) j.0))

-- ---- integers as floats
pub int_mono : (f : Format) (m n : ℕ) → m ≤ n → Le f (of_int f (pos m)) (of_int f (pos n))
int_mono f m n h = same_den (int-rounds f m) (int-rounds f n) (omega (arith, mul-le-mul_right (unit f) h))

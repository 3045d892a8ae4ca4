-- The laws of specs/Tests.antt that rest on rounding keeping the order (`near_mono`, specs/Near.antt). Assumes nothing.
use Rattle.std.specs.Prelude.{not, T, Float}
use Rattle.std.specs.Float.{Format}
use Rattle.std.specs.Float.Ieee.{add, sub, mul, div, le}
use Rattle.std.specs.Float.Ieee.Positive.{positive}
use Rattle.floatlaws.specs.Value.{negative}
use Rattle.floatlaws.specs.Order.{of_le, to_le, le_refl}
use Rattle.floatlaws.specs.Ops.{hi_positive}
use Rattle.floatlaws.specs.Finite.{Fin, num, add-num, sub-num, mul-num, div-num}
use Rattle.floatlaws.proofs.Mono.{add_mono, sub_mono, mul_mono, mul_anti, div_mono}
use Rattle.floatlaws.specs.Interval.{plain, minus}

module _ {f : Format} {x y z : Float} (p : Fin f x) (q : Fin f y) (r : Fin f z) where
  pub add_le : T (le x y) → T (le (add f x z) (add f y z))
  add_le t =
      let a = add-num p (num r) in let b = add-num q (num r) in to_le a b
      (add_mono (num p) (num q) (num r) (num r) a b (of_le (num p) (num q) t) (le_refl f z))

  pub sub-le : T (le x y) → T (le (sub f x z) (sub f y z))
  sub-le t =
      let a = sub-num p (num r) in let b = sub-num q (num r) in to_le a b
      (sub_mono (num p) (num q) (num r) (num r) a b (of_le (num p) (num q) t) (le_refl f z))

  pub sub_ge : T (le x y) → T (le (sub f z y) (sub f z x))
  sub_ge t =
      let a = sub-num r (num q) in let b = sub-num r (num p) in to_le a b
      (sub_mono (num r) (num r) (num q) (num p) a b (le_refl f z) (of_le (num p) (num q) t))

  pub mul_le : T (not (negative z)) → T (le x y) → T (le (mul f x z) (mul f y z))
  mul_le s t = let a = mul-num p r in let b = mul-num q r in to_le a b (mul_mono (num p) (num q) (num r) a b (plain f z s) (of_le (num p) (num q) t))

  pub mul_ge : T (negative z) → T (le x y) → T (le (mul f y z) (mul f x z))
  mul_ge s t = let a = mul-num p r in let b = mul-num q r in to_le b a (mul_anti (num p) (num q) (num r) a b (minus f z s) (of_le (num p) (num q) t))

  pub div_le : T (positive z) → T (le x y) → T (le (div f x z) (div f y z))
  div_le s t =
      let c = hi_positive f z (num r) s in
      let a = div-num (num p) r c in
      let b = div-num (num q) r c in
      to_le a b (div_mono (num p) (num q) (num r) a b c (of_le (num p) (num q) t))

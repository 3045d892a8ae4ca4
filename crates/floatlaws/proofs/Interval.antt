-- The laws of specs/Interval.antt that rest on rounding keeping the order (`near_mono`, specs/Near.antt). Assumes nothing.
use Rattle.std.specs.Prelude.{not, ◌&&◌, T, Float}
use Rattle.std.specs.Float.{Format}
use Rattle.std.specs.Float.Ieee.{add, sub, mul, div}
use Rattle.std.specs.Float.Ieee.Fits.{add-fits, sub-fits, mul-fits, div-fits, and_l, and_r}
use Rattle.std.specs.Float.Ieee.Positive.{positive}
use Rattle.std.specs.Float.Ieee.Scale.{finite}
use Rattle.floatlaws.specs.Value.{negative}
use Rattle.floatlaws.specs.Order.{le_trans}
use Rattle.floatlaws.specs.Finite.{Fin, num, add-num, sub-num, mul-num, div-num}
use Rattle.floatlaws.proofs.Mono.{add_mono, sub_mono, mul_mono, mul_mono', mul_anti, mul-both, div-both}
use Rattle.floatlaws.specs.Ops.{hi_positive}
use Rattle.floatlaws.specs.Interval.{In, within, plain, minus, none, in_pos, four}

-- ---- the operations, each with one test of its ends, which computes where they are closed
module _ {f : Format} {a b x a' b' y : Float} (p : In f a b x) (q : In f a' b' y) where
  pub add_in : T (finite (add f a a') && finite (add f b b')) → In f (add f a a') (add f b b') (add f x y)
  add_in t =
      let n = add-num p.is (num q.is) in
      let A : Fin f (add f a a') = record { fit = add-fits f a a'; finite = and_l (finite (add f a a')) (finite (add f b b')) t } in
      let B : Fin f (add f b b') = record { fit = add-fits f b b'; finite = and_r (finite (add f a a')) (finite (add f b b')) t } in
      within A B n
      (add_mono (num p.from) (num p.is) (num q.from) (num q.is) (num A) n p.low q.low)
      (add_mono (num p.is) (num p.to) (num q.is) (num q.to) n (num B) p.high q.high)

  pub sub_in : T (finite (sub f a b') && finite (sub f b a')) → In f (sub f a b') (sub f b a') (sub f x y)
  sub_in t =
      let n = sub-num p.is (num q.is) in
      let A : Fin f (sub f a b') = record { fit = sub-fits f a b'; finite = and_l (finite (sub f a b')) (finite (sub f b a')) t } in
      let B : Fin f (sub f b a') = record { fit = sub-fits f b a'; finite = and_r (finite (sub f a b')) (finite (sub f b a')) t } in
      within A B n
      (sub_mono (num p.from) (num p.is) (num q.to) (num q.is) (num A) n p.low q.high)
      (sub_mono (num p.is) (num p.to) (num q.is) (num q.from) n (num B) p.high q.low)

  pub mul_in : T (not (negative a) && not (negative a') && finite (mul f a a') && finite (mul f b b')) → In f (mul f a a') (mul f b b') (mul f x y)
  mul_in t =
      let n = mul-num p.is q.is in
      let k = four (not (negative a)) (not (negative a')) (finite (mul f a a')) (finite (mul f b b')) t in
      let A : Fin f (mul f a a') = record { fit = mul-fits f a a'; finite = k.2 } in
      let B : Fin f (mul f b b') = record { fit = mul-fits f b b'; finite = k.3 } in
      within A B n
      (mul-both (num p.from) (num p.is) (num q.from) (num q.is) (num A) n (plain f a k.0) (plain f a' k.1) p.low q.low)
      (mul-both (num p.is) (num p.to) (num q.is) (num q.to) n (num B) (none p k.0) (none q k.1) p.high q.high)

  pub div_in : T (not (negative a) && positive a' && finite (div f a b') && finite (div f b a')) → In f (div f a b') (div f b a') (div f x y)
  div_in t =
      let k = four (not (negative a)) (positive a') (finite (div f a b')) (finite (div f b a')) t in
      let c = in_pos q k.1 in
      let n = div-num (num p.is) q.is c in
      let A : Fin f (div f a b') = record { fit = div-fits f a b'; finite = k.2 } in
      let B : Fin f (div f b a') = record { fit = div-fits f b a'; finite = k.3 } in
      within A B n
      (div-both (num p.from) (num p.is) (num q.to) (num q.is) (num A) n (plain f a k.0) c p.low q.high)
      (div-both (num p.is) (num p.to) (num q.is) (num q.from) n (num B) (none p k.0) (hi_positive f a' (num q.from) k.1)
      p.high q.low)

  -- the second factor of either sign
  pub mul_in_signed : T (not (negative a) && negative a' && not (negative b') && (finite (mul f b a') && finite (mul f b b')))
      → In f (mul f b a') (mul f b b') (mul f x y)
  mul_in_signed t =
      let k = four (not (negative a)) (negative a') (not (negative b')) (finite (mul f b a') && finite (mul f b b')) t in
      let n = mul-num p.is q.is in
      let l = mul-num p.is q.from in
      let h = mul-num p.is q.to in
      let A : Fin f (mul f b a') = record { fit = mul-fits f b a'; finite = and_l (finite (mul f b a')) (finite (mul f b b')) k.3 } in
      let B : Fin f (mul f b b') = record { fit = mul-fits f b b'; finite = and_r (finite (mul f b a')) (finite (mul f b b')) k.3 } in
      within A B n
      (le_trans (mul_anti (num p.is) (num p.to) (num q.from) l (num A) (minus f a' k.1) p.high)
      (mul_mono' (num q.from) (num q.is) (num p.is) l n (none p k.0) q.low))
      (le_trans (mul_mono' (num q.is) (num q.to) (num p.is) n h (none p k.0) q.high)
      (mul_mono (num p.is) (num p.to) (num q.to) h (num B) (plain f b' k.2) p.high))

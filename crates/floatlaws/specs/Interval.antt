-- Intervals: `In f a b x` says that the finite x is from a to b, two finite values of the format. Each operation takes intervals to the interval of
-- its own results at the ends, since it keeps the order. With closed ends antt runs the operation there, so that a bound on a formula is the
-- formula at the ends and one test: `finite` of each end on the way (`unfold add in tt`), `le` at the last. A product's and a quotient's operands
-- are not negative. Assumes nothing.
use Rattle.std.specs.Prelude.{◌≡◌, refl, ◌-◌, ◌^◌, ◌<◌, Bool, true, false, not, ◌&&◌, cond, T, ltb, Float}
use Rattle.std.proofs.Common.{arith, lt_of_lt_of_le, ltb→lt}
use Rattle.std.specs.Float.{Format}
use Rattle.std.specs.Float.Ieee.{prec, neg}
use Rattle.std.specs.Float.Ieee.Fits.{and_l, and_r}
use Rattle.std.specs.Float.Ieee.Positive.{positive}
use Rattle.floatlaws.specs.Value.{mag, hi, lo, negative, Num}
use Rattle.floatlaws.specs.Order.{Le, le_refl, sides, neg_anti}
use Rattle.floatlaws.specs.Finite.{Fin, fin-under, neg-fin, num, between}
use Rattle.floatlaws.specs.Ops.{hi_positive}
use Rattle.floatlaws.specs.Error.{Normal}

pub record In (f : Format) (a b x : Float) : Type 0 where
  pub from : Fin f a
  pub to : Fin f b
  pub is : Fin f x
  pub low : Le f a x
  pub high : Le f x b

pub within : {f : Format} {a b x : Float} → Fin f a → Fin f b → Num f x → Le f a x → Le f x b → In f a b x
within p q r h k = record { from = p; to = q; is = between p r q h k; low = h; high = k }

pub point : {f : Format} {x : Float} → Fin f x → In f x x x
point {f} {x} p = record { from = p; to = p; is = p; low = le_refl f x; high = le_refl f x }

-- ---- the sign of an end
pub plain : (f : Format) (x : Float) → T (not (negative x)) → lo f x ≡ 0
unfolding lo
plain f x = go (negative x)
  where
    go : (s : Bool) → T (not s) → cond s (mag f x) 0 ≡ 0
    go true t = absurd t
    go false t = refl

pub minus : (f : Format) (x : Float) → T (negative x) → hi f x ≡ 0
unfolding hi
minus f x = go (negative x)
  where
    go : (s : Bool) → T s → cond s 0 (mag f x) ≡ 0
    go true t = refl
    go false t = absurd t

pub none : {f : Format} {a b x : Float} → In f a b x → T (not (negative a)) → lo f x ≡ 0
none {f} {a} p t = let s = sides p.low in omega (arith, plain f a t)

pub le_pos : {f : Format} {a x : Float} → Num f a → T (positive a) → Le f a x → 0 < hi f x
le_pos {f} {a} p t h = lt_of_lt_of_le (hi_positive f a p t) (sides h).0

pub in_pos : {f : Format} {a b x : Float} → In f a b x → T (positive a) → 0 < hi f x
in_pos p t = le_pos (num p.from) t p.low

-- an interval whose lower end is in the normal range
pub in_normal : {f : Format} {a b x : Float} → In f a b x → T (ltb (2 ^ (prec f - 1)) (hi f a)) → Normal f (hi f x)
in_normal {f} {a} p t =
    let s = sides p.low in record { least = lt_of_lt_of_le (ltb→lt (2 ^ (prec f - 1)) (hi f a) t) s.0; most = omega (arith, fin-under p.is) }

pub four : (a b c d : Bool) → T (a && b && c && d) → T a × T b × T c × T d
four a b c d t = (
  and_l a b (and_l (a && b) c (and_l (a && b && c) d t)),
  and_r a b (and_l (a && b) c (and_l (a && b && c) d t)),
  and_r (a && b) c
      (and_l (a && b && c) d t),
  and_r (a && b && c) d t,
)

pub neg_in : {f : Format} {a b x : Float} → In f a b x → In f (neg b) (neg a) (neg x)
neg_in p = record { from = neg-fin p.to; to = neg-fin p.from; is = neg-fin p.is; low = neg_anti p.high; high = neg_anti p.low }

-- Finite values (`Fin f x`), and where an operation's result is no NaN: a sum or a difference with a finite side, a product of finite factors or
-- with a factor that is finite and not 0, a quotient by a finite number above zero. Assumes nothing.
use Rattle.std.specs.Prelude.{◌≡◌, ℕ, zero, suc, ◌+◌, ◌-◌, ◌*◌, ◌<◌, Bool, true, false, ◌&&◌, cond, ℤ, T, ltb, eqb, Float}
use Rattle.std.proofs.Common.{lt_irrefl, lt_of_lt_of_le, not-le_of_lt, zero-mul, arith}
use Rattle.std.proofs.Math.Nat.{zero-div}
use Rattle.std.specs.Bool.{beq}
use Rattle.std.proofs.Math.Dec.{eqb-suc-zero}
use Rattle.std.specs.Float.{nan, inf, fin, Format}
use Rattle.std.specs.Float.Ieee.{up, down, unlike, round, sum, add, sub, mul, div, neg, is_nan, fits}
use Rattle.std.specs.Float.Ieee.Fits.{add-fits, mul-fits, div-fits, neg-fits}
use Rattle.std.specs.Float.Ieee.Scale.{overflow, finite}
use Rattle.floatlaws.specs.Value.{limit, mag, hi, lo, Num, mag-under, overflow_le_big, both-sides}
use Rattle.floatlaws.specs.Near.{round-num}
use Rattle.floatlaws.specs.Order.{Le, sides, neg-num}
use Rattle.floatlaws.specs.Ops.{Real}

pub record Fin (f : Format) (x : Float) : Type 0 where
  pub fit : T (fits f x)
  pub finite : T (finite x)

pub num : {f : Format} {x : Float} → Fin f x → Num f x
num {f} {x} p = record { fit = p.fit; real = go x p.finite }
  where
    go : (x : Float) → T (finite x) → Real x
    go nan t = absurd t
    go (inf s) t = absurd t
    go (fin s m e) t = unfold is_nan in tt

-- ---- in units: finite is below `limit`
pub fin-under : {f : Format} {x : Float} → Fin f x → hi f x + lo f x < limit f
unfolding limit
fin-under {f} {x = nan} p = absurd p.finite
fin-under {f} {x = inf s} p = absurd p.finite
fin-under {f} {x = fin s m e} p = rw (both-sides f (fin s m e)) (mag-under f s m e p.fit)

pub fin_of : {f : Format} {x : Float} → Num f x → hi f x < limit f → lo f x < limit f → Fin f x
unfolding limit hi lo mag is_nan
fin_of {f} {x} p h k = record { fit = p.fit; finite = go x p.real h k }
  where
    go : (x : Float) → Real x → hi f x < overflow f → lo f x < overflow f → T (finite x)
    go nan r h k = absurd r
    go (inf true) r h k = absurd (not-le_of_lt k (overflow_le_big f))
    go (inf false) r h k = absurd (not-le_of_lt h (overflow_le_big f))
    go (fin s m e) r h k = tt

-- what lies between two finite values is finite
pub between : {f : Format} {a z b : Float} → Fin f a → Num f z → Fin f b → Le f a z → Le f z b → Fin f z
between p q r h k =
    let i = sides h in
    let j = sides k in
    let u = fin-under p in
    let v = fin-under r in
    fin_of q (omega arith) (omega arith)

pub neg-fin : {f : Format} {x : Float} → Fin f x → Fin f (neg x)
neg-fin {f} {x} p = record { fit = neg-fits f x p.fit; finite = go x p.finite }
  where
    go : (x : Float) → T (finite x) → T (finite (neg x))
    go nan t = absurd t
    go (inf s) t = absurd t
    go (fin s m e) t = unfold neg in tt

-- ---- no NaN
cond-real : (b : Bool) (x y : Float) → Real x → Real y → Real (cond b x y)
cond-real true x y p q = p
cond-real false x y p q = q

sum_real : (f : Format) (s : Bool) (a : ℕ) (t : Bool) (b c : ℕ) → Real (sum f s a t b c)
unfolding sum
sum_real f s a t b c =
    cond-real (beq s t) (round f s (a + b) c) (cond (ltb a b) (round f t (b - a) c) (round f (s && ltb b a) (a - b) c))
    (round-num f s (a + b) c).real
    (cond-real (ltb a b) (round f t (b - a) c) (round f (s && ltb b a) (a - b) c) (round-num f t (b - a) c).real
    (round-num f (s && ltb b a) (a - b) c).real)

add-real : (f : Format) (x y : Float) → T (finite x) → Real y → Real (add f x y)
unfolding add is_nan
add-real f nan y p q = absurd p
add-real f (inf s) y p q = absurd p
add-real f (fin s m e) nan p q = absurd q
add-real f (fin s m e) (inf t) p q = tt
add-real f (fin s m e) (fin t n d) p q = sum_real f s (m * up e * down d) t (n * up d * down e) (down e * down d)

add_real' : (f : Format) (x y : Float) → Real x → T (finite y) → Real (add f x y)
unfolding add is_nan
add_real' f nan y p q = absurd p
add_real' f (inf s) nan p q = absurd q
add_real' f (inf s) (inf t) p q = absurd q
add_real' f (inf s) (fin t n d) p q = tt
add_real' f (fin s m e) nan p q = absurd q
add_real' f (fin s m e) (inf t) p q = absurd q
add_real' f (fin s m e) (fin t n d) p q = sum_real f s (m * up e * down d) t (n * up d * down e) (down e * down d)

pub add-num : {f : Format} {x y : Float} → Fin f x → Num f y → Num f (add f x y)
add-num {f} {x} {y} p q = record { fit = add-fits f x y; real = add-real f x y p.finite q.real }

pub add_num' : {f : Format} {x y : Float} → Num f x → Fin f y → Num f (add f x y)
add_num' {f} {x} {y} p q = record { fit = add-fits f x y; real = add_real' f x y p.real q.finite }

pub sub-num : {f : Format} {x y : Float} → Fin f x → Num f y → Num f (sub f x y)
unfolding sub
sub-num p q = add-num p (neg-num q)

pub sub_num' : {f : Format} {x y : Float} → Num f x → Fin f y → Num f (sub f x y)
unfolding sub
sub_num' p q = add_num' p (neg-fin q)

mul-real : (f : Format) (x y : Float) → T (finite x) → T (finite y) → Real (mul f x y)
unfolding mul
mul-real f nan y p q = absurd p
mul-real f (inf s) y p q = absurd p
mul-real f (fin s m e) nan p q = absurd q
mul-real f (fin s m e) (inf t) p q = absurd q
mul-real f (fin s m e) (fin t n d) p q = (round-num f (unlike s t) (m * up e * (n * up d)) (down e * down d)).real

pub mul-num : {f : Format} {x y : Float} → Fin f x → Fin f y → Num f (mul f x y)
mul-num {f} {x} {y} p q = record { fit = mul-fits f x y; real = mul-real f x y p.finite q.finite }

-- one factor finite and not 0
pub mag-zero : (f : Format) (s : Bool) (d : ℤ) → mag f (fin s 0 d) ≡ 0
unfolding mag
mag-zero f s d = simp (zero-mul, zero-div)

not-zero : (f : Format) (s : Bool) (m : ℕ) (e : ℤ) → 0 < mag f (fin s m e) → eqb m 0 ≡ false
not-zero f s zero e h = absurd (lt_irrefl 0 (rw (mag-zero f s e) at h))
not-zero f s (suc m) e h = eqb-suc-zero m

mul-real-pos : (f : Format) (x y : Float) → T (finite x) → 0 < mag f x → Real y → Real (mul f x y)
unfolding mul is_nan
mul-real-pos f nan y p h q = absurd p
mul-real-pos f (inf s) y p h q = absurd p
mul-real-pos f (fin s m e) nan p h q = absurd q
mul-real-pos f (fin s m e) (inf t) p h q = rw (not-zero f s m e h) tt
mul-real-pos f (fin s m e) (fin t n d) p h q = (round-num f (unlike s t) (m * up e * (n * up d)) (down e * down d)).real

pub mul-num-pos : {f : Format} {x y : Float} → Fin f x → 0 < hi f x → Num f y → Num f (mul f x y)
mul-num-pos {f} {x} {y} p h q =
    record { fit = mul-fits f x y; real = mul-real-pos f x y p.finite (lt_of_lt_of_le h (omega (arith, both-sides f x))) q.real }

div-real : (f : Format) (x y : Float) → Real x → T (finite y) → 0 < hi f y → Real (div f x y)
unfolding div hi is_nan
div-real f nan y p q h = absurd p
div-real f (inf s) nan p q h = absurd q
div-real f (inf s) (inf t) p q h = absurd q
div-real f (inf s) (fin t n d) p q h = tt
div-real f (fin s m e) nan p q h = absurd q
div-real f (fin s m e) (inf t) p q h = absurd q
div-real f (fin s m e) (fin true n d) p q h = absurd (lt_irrefl 0 h)
div-real f (fin s m e) (fin false n d) p q h =
    rw (not-zero f false n d h) (round-num f (unlike s false) (m * up e * down d) (n * up d * down e)).real

pub div-num : {f : Format} {x y : Float} → Num f x → Fin f y → 0 < hi f y → Num f (div f x y)
div-num {f} {x} {y} p q h = record { fit = div-fits f x y; real = div-real f x y p.real q.finite h }

-- by an infinity, where the numerator is finite
div_real' : (f : Format) (x y : Float) → T (finite x) → Real y → 0 < hi f y → Real (div f x y)
unfolding div hi is_nan
div_real' f nan y p q h = absurd p
div_real' f (inf s) y p q h = absurd p
div_real' f (fin s m e) nan p q h = absurd q
div_real' f (fin s m e) (inf t) p q h = tt
div_real' f (fin s m e) (fin true n d) p q h = absurd (lt_irrefl 0 h)
div_real' f (fin s m e) (fin false n d) p q h =
    rw (not-zero f false n d h) (round-num f (unlike s false) (m * up e * down d) (n * up d * down e)).real

pub div_num' : {f : Format} {x y : Float} → Fin f x → Num f y → 0 < hi f y → Num f (div f x y)
div_num' {f} {x} {y} p q h = record { fit = div-fits f x y; real = div_real' f x y p.finite q.real h }

-- both factors above zero
mul-real-both : (f : Format) (x y : Float) → Real x → Real y → 0 < mag f x → 0 < mag f y → Real (mul f x y)
unfolding mul is_nan
mul-real-both f nan y p q h k = absurd p
mul-real-both f (inf s) nan p q h k = absurd q
mul-real-both f (inf s) (inf t) p q h k = tt
mul-real-both f (inf s) (fin t n d) p q h k = rw (not-zero f t n d k) tt
mul-real-both f (fin s m e) y p q h k = mul-real-pos f (fin s m e) y tt h q

pub mul-num-both : {f : Format} {x y : Float} → Num f x → Num f y → 0 < hi f x → 0 < hi f y → Num f (mul f x y)
mul-num-both {f} {x} {y} p q h k =
    record {
      fit = mul-fits f x y;
      real = mul-real-both f x y p.real q.real (lt_of_lt_of_le h (omega (arith, both-sides f x)))
          (lt_of_lt_of_le k (omega (arith, both-sides f y)));
    }

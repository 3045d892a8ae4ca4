-- Lightness never falls as Y rises, for every Y that is no NaN. Each step of L = 116 f(Y) - 16 keeps the order: a rounded operation does, and so
-- does a nearest cube root; and at the border the line ends one unit below the root. Assumes nothing.
use mathlib.Core.Path.{◌≡◌, refl}
use mathlib.Core.Bool.{Bool, true, false, cond}
use Prim.Native.Nat.{ℕ, ◌<◌}
use lib.Dec.{T}
use lib.Ieee.{Float, binary32, add, mul, div, lt, le, round}
use lib.Ieee.Fits.{round-fits}
use lib.Ieee.Positive.{positive}
use lib.Ieee.Scale.{finite}
use Rattle.float.specs.Root.{cbrt_of}
use Rattle.float.proofs.Roots.{cbrt-num, cbrt_mono}
use Rattle.floatlaws.specs.Value.{hi, lo, Num}
use Rattle.floatlaws.specs.Order.{Le, Lt, of_le, to_le, of_lt, of_not_lt, not-both}
use Rattle.floatlaws.specs.Order as order
use Rattle.floatlaws.specs.Ops.{hi_positive, mul-swap}
use Rattle.floatlaws.specs.Finite.{Fin, num, add_num', sub_num', mul-num-pos, div-num}
use Rattle.floatlaws.proofs.Mono.{add_mono, sub_mono, mul_mono, mul_mono', div_mono}
use Rattle.color.specs.declared.Xyz.{Xyz}
use Rattle.color.specs.Color.{fraction, whole, white_y, delta3, line, lab_f, lightness, xyz_to_lab}

-- ---- the constants

pub fin_of_fraction : (n d : ℕ) → T (finite (fraction n d)) → Fin binary32 (fraction n d)
unfolding fraction
fin_of_fraction n d t = record { fit = round-fits binary32 false n d; finite = t }

-- finite, not negative, and above zero
pub record Plus (x : Float) : Type 0 where
  pub is : Fin binary32 x
  pub none : lo binary32 x ≡ 0
  pub some : 0 < hi binary32 x

pub plus : (n d : ℕ) → T (finite (fraction n d)) → T (positive (fraction n d)) → Plus (fraction n d)
plus n d t u =
    let p = fin_of_fraction n d t in
    let h = hi_positive binary32 (fraction n d) (num p) u in
    record { is = p; none = order.above-none binary32 (fraction n d) h; some = h }

border : Plus delta3
unfolding fraction round
border = plus 216 24389 tt tt

slope : Plus (fraction 841 108)
unfolding fraction round
slope = plus 841 108 tt tt

start : Plus (fraction 4 29)
unfolding fraction round
start = plus 4 29 tt tt

-- ---- f

slope-num : {t : Float} → Num binary32 t → Num binary32 (mul binary32 t (fraction 841 108))
slope-num {t} p = rw (mul-swap binary32 t (fraction 841 108)) (mul-num-pos slope.is slope.some p)

line-num : {t : Float} → Num binary32 t → Num binary32 (line t)
unfolding line
line-num p = add_num' (slope-num p) start.is

line_mono : {t u : Float} → Num binary32 t → Num binary32 u → Le binary32 t u → Le binary32 (line t) (line u)
unfolding line
line_mono p q l =
    let a = slope-num p in
    let b = slope-num q in
    let s = num start.is in
    add_mono a b s s (line-num p) (line-num q) (mul_mono p q (num slope.is) a b slope.none l) (order.le_refl binary32 (fraction 4 29))

-- the line ends below the root
join : Le binary32 (line delta3) (cbrt_of delta3)
unfolding line fraction round add mul cbrt_of le
join = of_le (line-num (num border.is)) (cbrt-num (num border.is)).0 tt

-- t is above the border, or at most that
above : {t : Float} → Num binary32 t → lt delta3 t ≡ true → Lt binary32 delta3 t
above p e = of_lt (num border.is) p (rw e tt)

at_most : {t : Float} → Num binary32 t → lt delta3 t ≡ false → Le binary32 t delta3
at_most p e = of_not_lt (num border.is) p (rw e tt)

pub lab_f_num : (t : Float) → Num binary32 t → Num binary32 (lab_f t)
unfolding lab_f
lab_f_num t p = go (lt delta3 t)
  where
    go : (b : Bool) → Num binary32 (cond b (cbrt_of t) (line t))
    go true = (cbrt-num p).0
    go false = line-num p

pub lab_f_mono : (t u : Float) → Num binary32 t → Num binary32 u → Le binary32 t u → Le binary32 (lab_f t) (lab_f u)
unfolding lab_f
lab_f_mono t u p q l = go (lt delta3 t) refl (lt delta3 u) refl
  where
    go : (a : Bool) → lt delta3 t ≡ a → (b : Bool) → lt delta3 u ≡ b → Le binary32 (cond a (cbrt_of t) (line t)) (cond b (cbrt_of u) (line u))
    go true e true d = cbrt_mono p q l
    go true e false d = absurd (not-both (above p e) (order.le_trans l (at_most q d)))
    go false e true d =
        let n = num border.is in
        order.le_trans (line_mono p n (at_most p e)) (order.le_trans join (cbrt_mono n q (order.le_of_lt (above q d))))
    go false e false d = line_mono p q l

-- ---- L

scale : Plus (whole 116)
unfolding fraction round
scale = plus 116 1 tt tt

shift : Plus (whole 16)
unfolding fraction round
shift = plus 16 1 tt tt

one : Plus white_y
unfolding fraction round
one = plus 1 1 tt tt

lightness-num : {x : Float} → Num binary32 x → Num binary32 (lightness x)
unfolding lightness
lightness-num p = sub_num' (mul-num-pos scale.is scale.some p) shift.is

lightness_mono : {x y : Float} → Num binary32 x → Num binary32 y → Le binary32 x y → Le binary32 (lightness x) (lightness y)
unfolding lightness
lightness_mono p q l =
    let a = mul-num-pos scale.is scale.some p in
    let b = mul-num-pos scale.is scale.some q in
    let s = num shift.is in
    sub_mono a b s s (lightness-num p) (lightness-num q) (mul_mono' p q (num scale.is) a b scale.none l) (order.le_refl binary32 (whole 16))

-- of two colours the one of larger Y is no darker
pub lightness_rises : (c d : Xyz) → Num binary32 c.y → Num binary32 d.y → T (le c.y d.y) → T (le (xyz_to_lab c).l (xyz_to_lab d).l)
unfolding xyz_to_lab
lightness_rises c d p q t =
    let y = div-num p one.is one.some in
    let z = div-num q one.is one.some in
    let a = lab_f_num (div binary32 c.y white_y) y in
    let b = lab_f_num (div binary32 d.y white_y) z in
    to_le (lightness-num a) (lightness-num b)
    (lightness_mono a b
    (lab_f_mono (div binary32 c.y white_y) (div binary32 d.y white_y) y z (div_mono p q (num one.is) y z one.some (of_le p q t))))

-- A colour that sentence 8 lets pass has a finite luminance, at most 2 ^ 22 in magnitude, and a finite Lab, each number at most 2 ^ 36: every
-- step keeps the order, so it takes the ends of an interval to the ends of one. Assumes nothing.
use mathlib.Core.Path.{◌≡◌}
use mathlib.Core.Bool.{Bool, true, false, not, ◌&&◌, ◌||◌}
use Prim.Native.Nat.{ℕ, ◌^◌}
use native.Mathlib.Omega.{arith}
use lib.Dec.{T}
use lib.Ieee.{Float, nan, inf, fin, binary32, add, sub, mul, div, neg, lt, eq, le, round, fits, is_nan}
use lib.Ieee.Fits.{div-fits}
use lib.Ieee.Scale.{finite}
use Rattle.float.specs.Root.{cbrt_of}
use Rattle.floatlaws.specs.Value.{Num}
use Rattle.floatlaws.specs.Order.{Le, of_le, le_trans}
use Rattle.floatlaws.specs.Finite.{Fin, num, neg-fin, div-num}
use Rattle.floatlaws.proofs.Mono.{div_mono}
use Rattle.floatlaws.specs.Interval.{In, within, point}
use Rattle.floatlaws.proofs.Interval.{add_in, sub_in, mul_in_signed}
use Rattle.sentences.proofs.Laws.{neither}
use Rattle.color.specs.declared.Linear.{Linear}
use Rattle.color.specs.declared.Xyz.{Xyz}
use Rattle.color.specs.declared.Lab.{Lab}
use Rattle.color.specs.Color.{fraction, whole, luminance, weighted, white_x, white_y, white_z, line, lab_f, lightness, linear_to_xyz, xyz_to_lab, linear_to_lab}
use Rattle.color.specs.Palette.{wild, wild_linear}
use Rattle.color.proofs.Rises.{Plus, plus, fin_of_fraction, lab_f_num, lab_f_mono}

-- from -2 ^ k to 2 ^ k
abbrev pub Within : ℕ → Float → Type 0
Within k x = In binary32 (neg (whole (2 ^ k))) (whole (2 ^ k)) x

bound : (k : ℕ) → T (finite (whole (2 ^ k))) → Fin binary32 (whole (2 ^ k))
bound k t = fin_of_fraction (2 ^ k) 1 t

-- an interval inside that one
wider : {a b x : Float} (k : ℕ) → T (finite (whole (2 ^ k))) → In binary32 a b x → T (le (neg (whole (2 ^ k))) a) → T (le b (whole (2 ^ k))) → Within k x
wider k t p l h =
    let q = bound k t in
    within (neg-fin q) q (num p.is) (le_trans (of_le (num (neg-fin q)) (num p.from) l) p.low) (le_trans p.high (of_le (num p.to) (num q) h))

-- ---- a number that sentence 8 lets pass

number : (v y : Float) → T (fits binary32 v) → T (le v y) → Num binary32 v
unfolding le lt eq is_nan
number nan y f t = absurd t
number (inf s) y f t = record { fit = f; real = tt }
number (fin s m e) y f t = record { fit = f; real = tt }

both : (a b : Bool) → not (a && b) ≡ false → T a × T b
both true true e = (tt, tt)
both true false e = let z : ◌≡◌ {A = ℕ} 0 1 = cc in absurd (omega arith)
both false b e = let z : ◌≡◌ {A = ℕ} 0 1 = cc in absurd (omega arith)

pub not-wild : (v : Float) → T (fits binary32 v) → wild v ≡ false → Within 20 v
unfolding wild fraction round
not-wild v f e =
    let M = whole (2 ^ 20) in
    let q = bound 20 tt in
    let t = both (le v M) (le (neg M) v) e in
    let n = number v M f t.0 in
    within (neg-fin q) q n (of_le (num (neg-fin q)) n t.1) (of_le n (num q) t.0)

-- ---- a row of the matrix, whose weights are from 0 to 1

abbrev Weight : Float → Type 0
Weight p = In binary32 (whole 0) (whole 1) p

weight : (n d : ℕ) → T (finite (fraction n d)) → T (le (whole 0) (fraction n d)) → T (le (fraction n d) (whole 1)) → Weight (fraction n d)
unfolding fraction round
weight n d t l h =
    let p = fin_of_fraction n d t in
    let a = fin_of_fraction 0 1 tt in
    let b = fin_of_fraction 1 1 tt in
    within a b (num p) (of_le (num a) (num p) l) (of_le (num p) (num b) h)

row_in : {p q s r g b : Float} → Weight p → Weight q → Weight s → Within 20 r → Within 20 g → Within 20 b → Within 22 (weighted p q s r g b)
unfolding fraction round add mul neg le
row_in {p} {q} {s} {r} {g} {b} P Q S R G B = wider 22 tt (add_in (add_in (mul_in_signed P R tt) (mul_in_signed Q G tt) tt) (mul_in_signed S B tt) tt) tt tt

-- ---- over the white point, and through f

over : {x : Float} (w : Float) → Plus w → T (finite (div binary32 (neg (whole (2 ^ 22))) w)) → T (finite (div binary32 (whole (2 ^ 22)) w)) → Within 22 x
    → In binary32 (div binary32 (neg (whole (2 ^ 22))) w) (div binary32 (whole (2 ^ 22)) w) (div binary32 x w)
over {x} w p s t i =
    let a = neg (whole (2 ^ 22)) in
    let b = whole (2 ^ 22) in
    let n = div-num (num i.is) p.is p.some in
    let A : Fin binary32 (div binary32 a w) = record { fit = div-fits binary32 a w; finite = s } in
    let B : Fin binary32 (div binary32 b w) = record { fit = div-fits binary32 b w; finite = t } in
    within A B n (div_mono (num i.from) (num i.is) (num p.is) (num A) n p.some i.low) (div_mono (num i.is) (num i.to) (num p.is) n (num B) p.some i.high)

over_x : {x : Float} → Within 22 x → Within 23 (div binary32 x white_x)
unfolding fraction round div neg le
over_x i = wider 23 tt (over white_x (plus 95047 (10 ^ 5) tt tt) tt tt i) tt tt

over_y : {x : Float} → Within 22 x → Within 23 (div binary32 x white_y)
unfolding fraction round div neg le
over_y i = wider 23 tt (over white_y (plus 1 1 tt tt) tt tt i) tt tt

over_z : {x : Float} → Within 22 x → Within 23 (div binary32 x white_z)
unfolding fraction round div neg le
over_z i = wider 23 tt (over white_z (plus 108883 (10 ^ 5) tt tt) tt tt i) tt tt

low_f : Le binary32 (neg (whole (2 ^ 26))) (lab_f (neg (whole (2 ^ 23))))
unfolding lab_f line fraction round add mul neg le lt
low_f = of_le (num (neg-fin (bound 26 tt))) (lab_f_num (neg (whole (2 ^ 23))) (num (neg-fin (bound 23 tt)))) tt

high_f : Le binary32 (lab_f (whole (2 ^ 23))) (whole (2 ^ 26))
unfolding lab_f line fraction round add mul neg le lt cbrt_of
high_f = of_le (lab_f_num (whole (2 ^ 23)) (num (bound 23 tt))) (num (bound 26 tt)) tt

f_in : {t : Float} → Within 23 t → Within 26 (lab_f t)
unfolding fraction round
f_in {t} i =
    let q = bound 26 tt in
    within (neg-fin q) q (lab_f_num t (num i.is))
    (le_trans low_f (lab_f_mono (neg (whole (2 ^ 23))) t (num i.from) (num i.is) i.low)) (le_trans (lab_f_mono t (whole (2 ^ 23)) (num i.is) (num i.to) i.high) high_f)

-- ---- the three numbers

l_in : {y : Float} → Within 26 y → Within 36 (lightness y)
unfolding lightness fraction round add sub mul neg le
l_in i = wider 36 tt (sub_in (mul_in_signed (point (fin_of_fraction 116 1 tt)) i tt) (point (fin_of_fraction 16 1 tt)) tt) tt tt

-- 500 and 200 are from 0 to 512
factor : (n : ℕ) → T (finite (whole n)) → T (le (whole 0) (whole n)) → T (le (whole n) (whole 512)) → In binary32 (whole 0) (whole 512) (whole n)
unfolding fraction round
factor n t l h =
    let p = fin_of_fraction n 1 t in
    let a = fin_of_fraction 0 1 tt in
    let b = fin_of_fraction 512 1 tt in
    within a b (num p) (of_le (num a) (num p) l) (of_le (num p) (num b) h)

ab_in : {k x y : Float} → In binary32 (whole 0) (whole 512) k → Within 26 x → Within 26 y → Within 36 (mul binary32 k (sub binary32 x y))
unfolding fraction round add sub mul neg le
ab_in p i j = wider 36 tt (mul_in_signed p (sub_in i j tt) tt) tt tt

-- ---- the theorem

pub record LabWithin (k : ℕ) (c : Lab) : Type 0 where
  pub l : Within k c.l
  pub a : Within k c.a
  pub b : Within k c.b

of_xyz : (c : Xyz) → Within 22 c.x → Within 22 c.y → Within 22 c.z → LabWithin 36 (xyz_to_lab c)
unfolding xyz_to_lab fraction round le
of_xyz c x y z =
    let fx = f_in (over_x x) in
    let fy = f_in (over_y y) in
    let fz = f_in (over_z z) in
    record { l = l_in fy; a = ab_in (factor 500 tt tt tt) fx fy; b = ab_in (factor 200 tt tt tt) fy fz }

record Tame (c : Linear) : Type 0 where
  r : Within 20 c.r
  g : Within 20 c.g
  b : Within 20 c.b

module _ (c : Linear) (fr : T (fits binary32 c.r)) (fg : T (fits binary32 c.g)) (fb : T (fits binary32 c.b)) (e : wild_linear c ≡ false) where
  tame : Tame c
  unfolding wild_linear
  tame =
      let p = neither (wild c.r) (wild c.g || wild c.b) e in
      let q = neither (wild c.g) (wild c.b) p.1 in
      record { r = not-wild c.r fr p.0; g = not-wild c.g fg q.0; b = not-wild c.b fb q.1 }

  pub luminance-within : Within 22 (luminance c)
  unfolding luminance fraction round le
  luminance-within = let t = tame in row_in (weight 2126 (10 ^ 4) tt tt tt) (weight 7152 (10 ^ 4) tt tt tt) (weight 722 (10 ^ 4) tt tt tt) t.r t.g t.b

  pub lab-within : LabWithin 36 (linear_to_lab c)
  unfolding linear_to_xyz fraction round le
  lab-within =
      let t = tame in
      of_xyz (linear_to_xyz c)
      (row_in (weight 4124564 (10 ^ 7) tt tt tt) (weight 3575761 (10 ^ 7) tt tt tt) (weight 1804375 (10 ^ 7) tt tt tt) t.r t.g t.b)
      (row_in (weight 2126729 (10 ^ 7) tt tt tt) (weight 7151522 (10 ^ 7) tt tt tt) (weight 721750 (10 ^ 7) tt tt tt) t.r t.g t.b)
      (row_in (weight 193339 (10 ^ 7) tt tt tt) (weight 1191920 (10 ^ 7) tt tt tt) (weight 9503041 (10 ^ 7) tt tt tt) t.r t.g t.b)

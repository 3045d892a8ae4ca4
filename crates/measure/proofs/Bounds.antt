-- How large the figures can be: the Lab of a colour that passes sentences 8 and 12 is within 2 ^ 36, so a chroma error is within 2 ^ 38; a median
-- lies among the elements, a distance from it is at most twice as large, and 1.4826 times that is within 2 ^ 40. Assumes nothing.
use mathlib.Core.Path.{◌≡◌, refl}
use mathlib.Core.Bool.{Bool, true, false, not, ◌&&◌}
use mathlib.Core.List.{List, [], ◌∷◌, ◌++◌, map}
use Prim.Native.Nat.{ℕ, zero, suc, ◌%◌, ◌^◌, ◌<◌}
use native.Mathlib.Decide.{ℕ_discrete}
use native.Mathlib.Omega.{arith}
use lib.Dec.{T}
use lib.IntN.{pos}
use lib.ListN.{length, get_or}
use lib.Ieee.{Float, nan, inf, fin, binary32, add, sub, mul, neg, le, round, is_nan}
use lib.Ieee.Scale.{finite}
use Rattle.floatlaws.specs.Value.{hi, negative}
use Rattle.floatlaws.specs.Order.{Le, of_le, le_trans}
use Rattle.floatlaws.specs.Finite.{Fin, num, neg-fin, mag-zero}
use Rattle.floatlaws.specs.Interval.{In, within, point}
use Rattle.floatlaws.proofs.Interval.{add_in, sub_in, mul_in, mul_in_signed}
use Rattle.float.specs.Select.{abs}
use Rattle.float.specs.Root.{sqrt_of}
use Rattle.float.proofs.Select.{abs-sides, abs-num, abs_le}
use Rattle.float.proofs.Roots.{sqrt_in}
use Rattle.color.specs.declared.Lab.{Lab}
use Rattle.color.specs.Color.{whole, fraction, length2, ab_distance}
use Rattle.color.proofs.Rises.{fin_of_fraction}
use Rattle.color.proofs.Bounded.{Within, LabWithin}
use Rattle.order.specs.Median.{median_of, zero32, half}
use Rattle.order.specs.Deviation.{scale, deviation, sigma_of}
use Rattle.order.specs.Law.{Numbers}
use Rattle.order.proofs.Law.{median-odd, median-even}
use Rattle.measure.specs.Measure.{less}
use Rattle.measure.specs.Columns.{RealDistances}
use Rattle.measure.proofs.Lists.{Each, none, one}
use Rattle.measure.proofs.Sigmas.{sigma-any}

abbrev top : ℕ → Float
top k = whole (2 ^ k)

-- an interval inside one from -2 ^ k to 2 ^ k
wider : {a b x : Float} (k : ℕ) → T (finite (top k)) → In binary32 a b x → T (le (neg (top k)) a) → T (le b (top k)) → Within k x
wider k t p l h =
    let q = fin_of_fraction (2 ^ k) 1 t in
    within (neg-fin q) q (num p.is) (le_trans (of_le (num (neg-fin q)) (num p.from) l) p.low) (le_trans p.high (of_le (num p.to) (num q) h))

-- what antt computes of the bound 2 ^ k
record Ready (k : ℕ) : Type 0 where
  ends : T (finite (top k))
  low : T (le (neg (top k)) zero32)
  high : T (le zero32 (top k))
  sums : T (finite (add binary32 (neg (top k)) (neg (top k))) && finite (add binary32 (top k) (top k)))
  halves :
      T (not (negative half) && negative (add binary32 (neg (top k)) (neg (top k))) && not (negative (add binary32 (top k) (top k)))
      && (finite (mul binary32 half (add binary32 (neg (top k)) (neg (top k)))) && finite (mul binary32 half (add binary32 (top k) (top k)))))
  half-low : T (le (neg (top k)) (mul binary32 half (add binary32 (neg (top k)) (neg (top k)))))
  half_high : T (le (mul binary32 half (add binary32 (top k) (top k))) (top k))
  next : T (finite (top (suc k)))
  diffs : T (finite (sub binary32 (neg (top k)) (top k)) && finite (sub binary32 (top k) (neg (top k))))
  diff-low : T (le (neg (top (suc k))) (sub binary32 (neg (top k)) (top k)))
  diff-high : T (le (sub binary32 (top k) (neg (top k))) (top (suc k)))

ready36 : Ready 36
unfolding fraction round add sub mul neg le
ready36 = record { ends = tt; low = tt; high = tt; sums = tt; halves = tt; half-low = tt; half_high = tt; next = tt; diffs = tt; diff-low = tt; diff-high = tt }

ready37 : Ready 37
unfolding fraction round add sub mul neg le
ready37 = record { ends = tt; low = tt; high = tt; sums = tt; halves = tt; half-low = tt; half_high = tt; next = tt; diffs = tt; diff-low = tt; diff-high = tt }

ready38 : Ready 38
unfolding fraction round add sub mul neg le
ready38 = record { ends = tt; low = tt; high = tt; sums = tt; halves = tt; half-low = tt; half_high = tt; next = tt; diffs = tt; diff-low = tt; diff-high = tt }

ready39 : Ready 39
unfolding fraction round add sub mul neg le
ready39 = record { ends = tt; low = tt; high = tt; sums = tt; halves = tt; half-low = tt; half_high = tt; next = tt; diffs = tt; diff-low = tt; diff-high = tt }

-- ---- every element of a list

each_at : {P : Float → Type 0} {xs : List Float} → Each P xs → (k : ℕ) → k < length xs → P (get_or xs k nan)
each_at none k h = absurd (omega arith)
each_at (one p e) zero h = p
each_at (one p e) (suc k) h = each_at e k (omega arith)

each_map : {P Q : Float → Type 0} {xs : List Float} (f : Float → Float) → ((x : Float) → P x → Q (f x)) → Each P xs → Each Q (map f xs)
each_map f h none = none
each_map f h (one p e) = one (h _ p) (each_map f h e)

pub each_append : {P : Float → Type 0} {xs ys : List Float} → Each P xs → Each P ys → Each P (xs ++ ys)
each_append none e = e
each_append (one p d) e = one p (each_append d e)

-- ---- the median

no_nan : (x : Float) → T (not (is_nan x)) → is_nan x ≡ false
no_nan x = go (is_nan x)
  where
    go : (b : Bool) → T (not b) → b ≡ false
    go true t = absurd t
    go false t = refl

fin-zero : Fin binary32 zero32
unfolding fraction round
fin-zero = fin_of_fraction 0 1 tt

fin-half : Fin binary32 half
unfolding fraction round
fin-half = fin_of_fraction 1 2 tt

empty : median_of [] ≡ zero32
unfolding median_of
empty = refl

module _ {k : ℕ} (r : Ready k) where
  zero_in : Within k zero32
  zero_in = wider k r.ends (point fin-zero) r.low r.high

  half_in : {x y : Float} → Within k x → Within k y → Within k (mul binary32 half (add binary32 x y))
  half_in i j = wider k r.ends (mul_in_signed (point fin-half) (add_in i j r.sums) r.halves) r.half-low r.half_high

  module _ (xs : List Float) (e : Each (Within k) xs) where
    numbers : Numbers xs
    numbers j h = no_nan (get_or xs j nan) (num (each_at e j h).is).real

    middle_in : 0 < length xs → Within k (median_of xs)
    middle_in p = go (ℕ_discrete (length xs % 2) 1)
      where
        go : Dec (length xs % 2 ≡ 1) → Within k (median_of xs)
        go (yes q) = let m = median-odd xs numbers q in rw m.is (each_at e m.place m.inside)
        go (no q) =
            let m = median-even xs numbers p (omega arith) in
            let l = m.low in
            let u = m.high in
            rw m.is (half_in (rw l.is (each_at e l.place l.inside)) (rw u.is (each_at e u.place u.inside)))

  median_in : (xs : List Float) → Each (Within k) xs → Within k (median_of xs)
  median_in [] e = rw empty zero_in
  median_in (x ∷ xs) e = middle_in (x ∷ xs) e (omega arith)

-- ---- differences and distances

nothing : hi binary32 zero32 ≡ 0
unfolding hi
nothing = mag-zero binary32 false (pos 0)

not-below : (x : Float) → Le binary32 zero32 (abs x)
not-below x = record { le = omega (arith, nothing, (abs-sides binary32 x).1) }

module _ {k : ℕ} (r : Ready k) where
  less_in : {x y : Float} → Within k x → Within k y → Within (suc k) (sub binary32 x y)
  less_in i j = wider (suc k) r.next (sub_in i j r.diffs) r.diff-low r.diff-high

  -- without the sign, from 0 on
  abs_in : {x : Float} → Within k x → In binary32 zero32 (top k) (abs x)
  abs_in {x} i = within fin-zero i.to (abs-num (num i.is)) (not-below x) (abs_le i.low i.high)

  size_in : {x : Float} → Within k x → Within k (abs x)
  size_in i =
      let a = abs_in i in
      let q = fin_of_fraction (2 ^ k) 1 r.ends in
      within i.from i.to (num a.is) (le_trans (of_le (num (neg-fin q)) (num fin-zero) r.low) a.low) a.high

-- ---- the scaled deviation

scale_in : {y : Float} → Within 39 y → Within 40 (mul binary32 scale y)
unfolding scale fraction round mul neg le
scale_in i = wider 40 tt (mul_in_signed (point (fin_of_fraction 14826 (10 ^ 4) tt)) i tt) tt tt

module _ {k : ℕ} (r : Ready k) (s : Ready (suc k)) (up : (y : Float) → Within (suc k) y → Within 39 y) where
  deviation_in : {m x : Float} → Within k m → Within k x → Within (suc k) (deviation m x)
  unfolding deviation
  deviation_in i j = size_in s (less_in r j i)

  module _ (xs : List Float) (e : Each (Within k) xs) where
    abbrev distances : List Float
    distances = map (deviation (median_of xs)) xs

    distances_in : Each (Within (suc k)) distances
    distances_in = let m : Within k (median_of xs) = median_in r xs e in each_map (deviation (median_of xs)) (λ x i. deviation_in m i) e

    sigma_in : Within 40 (sigma_of xs)
    sigma_in = rw (sigma-any xs) (scale_in (up (median_of distances) (median_in s distances distances_in)))

    real_in : RealDistances xs
    real_in = numbers s distances distances_in

up38 : {y : Float} → Within 38 y → Within 39 y
unfolding fraction round neg le
up38 i = wider 39 tt i tt tt

-- of lightnesses about their medians, and of chroma errors
pub spread-sigma_in : (xs : List Float) → Each (Within 37) xs → Within 40 (sigma_of xs)
spread-sigma_in xs e = sigma_in ready37 ready38 (λ y i. up38 i) xs e

pub error_sigma_in : (xs : List Float) → Each (Within 38) xs → Within 40 (sigma_of xs)
error_sigma_in xs e = sigma_in ready38 ready39 (λ y i. i) xs e

-- no distance from their median is a NaN
pub spread-real : (xs : List Float) → Each (Within 37) xs → RealDistances xs
spread-real xs e = real_in ready37 ready38 (λ y i. up38 i) xs e

pub error_real : (xs : List Float) → Each (Within 38) xs → RealDistances xs
error_real xs e = real_in ready38 ready39 (λ y i. i) xs e

pub level-median_in : (xs : List Float) → Each (Within 36) xs → Within 36 (median_of xs)
level-median_in xs e = median_in ready36 xs e

pub spread-in : (l : Float) (xs : List Float) → Within 36 l → Each (Within 36) xs → Each (Within 37) (map (less l) xs)
spread-in l xs i e = each_map (less l) (λ x j. less_in ready36 j i) e

pub up36 : {y : Float} → Within 36 y → Within 40 y
unfolding fraction round neg le
up36 i = wider 40 tt i tt tt

pub up20 : {y : Float} → Within 20 y → Within 40 y
unfolding fraction round neg le
up20 i = wider 40 tt i tt tt

pub number_in : (n : ℕ) → T (finite (whole n)) → T (le (neg (top 40)) (whole n)) → T (le (whole n) (top 40)) → T (finite (top 40)) → Within 40 (whole n)
number_in n t l h u = wider 40 u (point (fin_of_fraction n 1 t)) l h

-- ---- a chroma error

-- a square is that of the size
squared : (x : Float) → mul binary32 x x ≡ mul binary32 (abs x) (abs x)
unfolding mul abs
squared nan = refl
squared (inf true) = refl
squared (inf false) = refl
squared (fin true m e) = refl
squared (fin false m e) = refl

root_in : {x y : Float} → Within 37 x → Within 37 y → Within 38 (length2 x y)
unfolding length2 fraction round add mul neg le sqrt_of
root_in {x} {y} i j =
    let a = abs_in ready37 i in
    let b = abs_in ready37 j in
    rw (squared x, squared y) (wider 38 tt (sqrt_in (add_in (mul_in a a tt) (mul_in b b tt) tt) tt) tt tt)

pub error_in : (c d : Lab) → LabWithin 36 c → LabWithin 36 d → Within 38 (ab_distance c d)
unfolding ab_distance
error_in c d p q = root_in (less_in ready36 p.a q.a) (less_in ready36 p.b q.b)

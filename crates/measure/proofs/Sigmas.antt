-- The scaled median absolute deviation of a list whose distances are taken in place, in the order that finding its median leaves: the median of the distances is
-- the same in any order. And so the figures of the record. Assumes nothing.
use mathlib.Core.Path.{◌≡◌, refl, sym, ap, subst, ◌∙◌}
use mathlib.Core.Bool.{Bool, true, false, cond}
use native.Mathlib.Omega.{arith}
use borrow.Author.Tests.{ne_eqb, lt-ltb, le-ltb}
use mathlib.Core.List.{List, [], ◌∷◌, ◌++◌, map, Permᴰ}
use Prim.Native.Nat.{ℕ, ◌+◌, ◌*◌, ◌≤◌, ◌<◌}
use lib.ListN.{length, get_or}
use lib.Dec.{ltb}
use lib.Ieee.{Float, nan, binary32, of_bits, mul, round}
use Rattle.float.specs.Select.{max}
use Rattle.order.specs.Median.{Ordered, ordered, ordered_of, median_of, zero32}
use Rattle.order.specs.Deviation.{scale, deviation, sigma_of}
use Rattle.order.specs.Law.{Numbers}
use Rattle.order.proofs.Law.{median-permutes}
use Rattle.order.proofs.Distances.{deviation-any-order}
use Rattle.measure.specs.declared.Form.TheVariants.{Plain, Less}
use Rattle.measure.specs.Measure.{spread_about, raised_sigma, luma_sigma, chroma_sigma, figures_of, record_of}
use Rattle.stats.specs.declared.ChannelStats.{ChannelStats}
use Rattle.stats.specs.Noise.{nominal}
use Rattle.std.specs.Prelude.{None, Some}
use Rattle.std.proofs.lemmas.Option.{none-some, same_Some}
use Rattle.measure.specs.Columns.{m2, m3, m4, m5, marked, formed, picked_in, level_within, spread_in, RealDistances, RealSpreads, levelled, figures_in, record_in}
use Rattle.measure.proofs.Lists.{picked-few}
use Rattle.color.proofs.Numbers.{three_quarters, n0}
use Rattle.measure.proofs.Literals.{scaled}

none : sigma_of [] ≡ mul binary32 scale (median_of (map (deviation (median_of [])) []))
unfolding sigma_of median_of scale mul round
none = refl

some : (xs : List Float) → (length xs ≡ 0 → ⊥) → sigma_of xs ≡ mul binary32 scale (median_of (map (deviation (median_of xs)) xs))
unfolding sigma_of
some xs h = ap (λ (b : Bool). cond b zero32 (mul binary32 scale (median_of (map (deviation (median_of xs)) xs)))) (ne_eqb (length xs) 0 h)

pub sigma-any : (xs : List Float) → sigma_of xs ≡ mul binary32 scale (median_of (map (deviation (median_of xs)) xs))
sigma-any [] = none
sigma-any (x ∷ xs) = some (x ∷ xs) (λ q. omega arith)

plain : (xs : List Float) → map (formed Plain) xs ≡ xs
unfolding formed
plain [] = refl
plain (x ∷ xs) = ap (λ (l : List Float). x ∷ l) (plain xs)

spread : (l0 l1 : Float) (dark light : List Float) → map (formed (Less l0)) dark ++ map (formed (Less l1)) light ≡ spread_about l0 l1 dark light
unfolding formed
spread l0 l1 dark light = refl

-- ---- the functions' returns, over plain variables

-- 1.4826 times v, at least 0.75
abbrev raised : Float → Float
raised v = max (mul binary32 (of_bits binary32 1069401558) v) (of_bits binary32 0x3f40_0000)

sigma-from : (xs : List Float) (m v : Float) → m ≡ median_of xs → v ≡ median_of (map (deviation m) xs) → raised v ≡ raised_sigma xs
sigma-from xs m v em ev = cc (scaled, three_quarters, sigma-any xs)

-- what `median` gives of xs: the median, and ys, which is xs in another order
module _ (xs ys : List Float) (m : Float) (e : ordered m ys ≡ ordered_of xs) where
  pub found : m ≡ median_of xs
  found = ap (λ (o : Ordered). o.median) e

  reordered : Permᴰ ys xs
  reordered = subst (λ (zs : List Float). Permᴰ zs xs) (sym (ap (λ (o : Ordered). o.values) e)) (median-permutes xs)

  -- ds is the distances of ys from m, and v their median
  pub in_place : (ds us : List Float) (v w : Float) → w ≡ raised v → ordered v us ≡ ordered_of ds → ds ≡ map (deviation m) ys → RealDistances xs → w ≡ raised_sigma xs
  in_place ds us v w ew ev ed real =
      let numbers : Numbers (map (deviation m) xs) = subst (λ (a : Float). Numbers (map (deviation a) xs)) (sym found) real in
      let median : v ≡ median_of (map (deviation m) ys) = ap (λ (o : Ordered). o.median) ev ∙ ap median_of ed in
      ew ∙ sigma-from xs m v found (median ∙ deviation-any-order m xs ys reordered numbers)

-- the luma noise: y is the list in the room
module _ (n : ℕ) (l0 l1 : Float) (t y : List Float) (e : y ≡ spread_in n l0 l1 t) where
  pub luma-real : RealDistances (spread_in n l0 l1 t) → RealDistances y
  luma-real h = subst RealDistances (sym e) h

  pub luma : (r : Float) → r ≡ raised_sigma y → r ≡ luma_sigma l0 l1 (level_within false n t) (level_within true n t)
  unfolding luma_sigma
  luma r er = er ∙ ap raised_sigma e

-- the chroma noise
pub chroma-few : (n : ℕ) (lo hi : Float) (t : List Float) (k least : ℕ) (other : Float) → k ≡ 0 + length (picked_in n n lo hi t) → k < least → other ≡ chroma_sigma least other (picked_in n n lo hi t)
unfolding chroma_sigma
chroma-few n lo hi t k least other ek h = rw (lt-ltb (length (picked_in n n lo hi t)) least (omega arith))

module _ (n : ℕ) (lo hi : Float) (t y : List Float) (e : y ≡ map (formed Plain) (picked_in n n lo hi t)) where
  listed : y ≡ picked_in n n lo hi t
  listed = e ∙ plain (picked_in n n lo hi t)

  pub chroma-real : RealDistances (picked_in n n lo hi t) → RealDistances y
  chroma-real h = subst RealDistances (sym listed) h

  pub chroma : (k least : ℕ) (other r : Float) → k ≡ 0 + length (picked_in n n lo hi t) → least ≤ k → r ≡ raised_sigma y → r ≡ chroma_sigma least other (picked_in n n lo hi t)
  unfolding chroma_sigma
  chroma k least other r ek h er = rw (le-ltb (length (picked_in n n lo hi t)) least (omega arith)) (er ∙ ap raised_sigma listed)

pub few_in : (n at : ℕ) (lo hi : Float) (t : List Float) → 0 + length (picked_in n at lo hi t) ≤ n
few_in n at lo hi t = omega (arith, picked-few n 0 (λ i. marked lo hi (get_or t (2 * n + i) nan)) (λ i. get_or t (at + i) nan))

-- a level's list
module _ (n k : ℕ) (lo hi : Float) (t : List Float) (ek : k ≡ 0 + length (picked_in n 0 lo hi t)) where
  pub level-few : k < 3 → None ≡ levelled (picked_in n 0 lo hi t)
  level-few h = rw (lt-ltb (length (picked_in n 0 lo hi t)) 3 (omega arith))

  pub level : (y : List Float) (m : Float) → 3 ≤ k → y ≡ map (formed Plain) (picked_in n 0 lo hi t) → m ≡ median_of y → Some m ≡ levelled (picked_in n 0 lo hi t)
  level y m h ey em = rw (le-ltb (length (picked_in n 0 lo hi t)) 3 (omega arith)) (ap Some (em ∙ ap median_of (ey ∙ plain (picked_in n 0 lo hi t))))

-- a list that has a median, and one that has none
module _ (xs : List Float) where
  levelled-none : None ≡ levelled xs → ltb (length xs) 3 ≡ true
  levelled-none e = by (ltb (length xs) 3) e
    where
      by : (b : Bool) → None ≡ cond b None (Some (median_of xs)) → b ≡ true
      by true e = refl
      by false e = absurd (none-some (median_of xs) e)

  levelled-some : (l : Float) → Some l ≡ levelled xs → (ltb (length xs) 3 ≡ false) × (l ≡ median_of xs)
  levelled-some l e = by (ltb (length xs) 3) e
    where
      by : (b : Bool) → Some l ≡ cond b None (Some (median_of xs)) → (b ≡ false) × (l ≡ median_of xs)
      by true e = absurd (none-some l (sym e))
      by false e = (refl, same_Some l (median_of xs) e)

-- the record
pub figured : (n : ℕ) (t : List Float) (l0 l1 a b c d : Float) → a ≡ luma_sigma l0 l1 (level_within false n t) (level_within true n t)
    → b ≡ chroma_sigma 1 (of_bits binary32 0x3f40_0000) (picked_in n n m2 m5 t) → c ≡ chroma_sigma 8 (of_bits binary32 0) (picked_in n n m2 m3 t)
    → d ≡ chroma_sigma 8 (of_bits binary32 0) (picked_in n n m4 m5 t)
    → ◌≡◌ {A = ChannelStats} (record { l0 = l0; l1 = l1; sigma_l = a; sigma_ab = b; sigma_ab_dark = c; sigma_ab_light = d; samples = n }) (figures_in n l0 l1 t)
unfolding figures_in figures_of
figured n t l0 l1 a b c d ea eb ec ed = cc (three_quarters, n0)

module _ (palette : List Float) (n : ℕ) (t : List Float) where
  pub dark-few : None ≡ levelled (level_within false n t) → (r : ChannelStats) → r ≡ nominal palette → r ≡ record_in palette n t
  unfolding record_in record_of
  dark-few ed r e = rw (levelled-none (level_within false n t) ed) e

  module _ (l0 : Float) (ed : Some l0 ≡ levelled (level_within false n t)) where
    pub light-few : None ≡ levelled (level_within true n t) → (r : ChannelStats) → r ≡ nominal palette → r ≡ record_in palette n t
    unfolding record_in record_of
    light-few el r e = rw ((levelled-some (level_within false n t) l0 ed).0, levelled-none (level_within true n t) el) e

    module _ (l1 : Float) (el : Some l1 ≡ levelled (level_within true n t)) where
      dark_is : l0 ≡ median_of (level_within false n t)
      dark_is = (levelled-some (level_within false n t) l0 ed).1

      light_is : l1 ≡ median_of (level_within true n t)
      light_is = (levelled-some (level_within true n t) l1 el).1

      pub spreads_of : RealSpreads n (median_of (level_within false n t)) (median_of (level_within true n t)) t → RealSpreads n l0 l1 t
      spreads_of real = rw (dark_is, light_is) real

      pub both-levels : (r : ChannelStats) → r ≡ figures_in n l0 l1 t → r ≡ record_in palette n t
      unfolding record_in record_of figures_in
      both-levels r e =
          rw ((levelled-some (level_within false n t) l0 ed).0, (levelled-some (level_within true n t) l1 el).0)
          (e ∙ ap (λ (a : Float). figures_in n a l1 t) dark_is ∙ ap (λ (a : Float). figures_in n (median_of (level_within false n t)) a t) light_is)

-- the lists of the two levels, one behind the other
module _ (n k : ℕ) (t : List Float) where
  pub second_fits : k ≡ 0 + length (level_within false n t) → length (level_within false n t) + length (level_within true n t) ≤ n → k + length (level_within true n t) ≤ n
  second_fits ek h = omega arith

  pub both_lists : (l0 l1 : Float) (y z : List Float) → y ≡ map (formed (Less l0)) (level_within false n t) → z ≡ y ++ map (formed (Less l1)) (level_within true n t) → z ≡ spread_in n l0 l1 t
  both_lists l0 l1 y z ey ez = ez ∙ (rw ey (spread l0 l1 (level_within false n t) (level_within true n t)))

-- `local::Samples::spread` meets its contract: the deviation of the samples in use. Assumes nothing.
use mathlib.Core.Bool.{Bool}
use mathlib.Core.List.{List}
use mathlib.Core.Path.{◌≡◌, sym, ap, ◌∙◌}
use Prim.Native.Nat.{ℕ, ◌*◌, ◌≤◌}
use native.Mathlib.Omega.{arith}
use borrow.Author.Rules.{rules}
use lib.Ieee.{Float, binary32, mul}
use lib.ListN.{length, take}
use lib.Seq.{length-take-le}
use Rattle.color.specs.Color.{fraction}
use Rattle.float.specs.Select.{max}
use Rattle.order.specs.Deviation.{sigma_of, mad_sigma, spread, Spread}
use Rattle.local.proofs.Literals.{fiftieth}
use Rattle.local.specs.Local.{deviations_of, spread_of}
use Rattle.local.specs.declared.Single.{Single}
use Rattle.local.specs.declared.Window.{Window}
use Rattle.local.proofs.Samples.spread.Goals as goal

prefix : (n : ℕ) (xs : List Float) → n ≤ length xs → n ≡ length (take n xs)
prefix n xs h = sym (length-take-le n xs h)

twice : (n : ℕ) (xs : List Float) → n ≤ length xs → n ≤ 49 → 2 * length (take n xs) ≤ 98
twice n xs h m = rw (length-take-le n xs h) (let z : 2 * n ≤ 98 = omega arith in z)

module _ (xs scratch s : List Float) (r : Float) where
  sigma : spread r s ≡ mad_sigma xs scratch → r ≡ sigma_of xs
  unfolding mad_sigma
  sigma e = ap (λ (o : Spread). o.sigma) e

whole : (w : Window) (f : Single) (light : List Bool) (gap r v g : Float) (dev scratch s : List Float) (n : ℕ) → n ≡ w.count → dev ≡ deviations_of w f light
    → spread r s ≡ mad_sigma (take n dev) scratch → g ≡ fraction 2 100 → v ≡ max r (mul binary32 g gap) → v ≡ spread_of w f light gap
unfolding spread_of
whole w f light gap r v g dev scratch s n en ed e eg h = h ∙ rw (sigma (take n dev) scratch s r e, en, ed, eg)

pub slice_bounds-mad_sigma_core-end : goal.slice_bounds-mad_sigma_core-end
slice_bounds-mad_sigma_core-end c = prefix _ _ (search rules)

pub mad_sigma_core-sigma-requires : goal.mad_sigma_core-sigma-requires
mad_sigma_core-sigma-requires c = twice c.args.self.now.window.now.count c.deviations-dev.result (search rules) (search rules)

pub returns : goal.returns
returns c = search (whole, fiftieth)

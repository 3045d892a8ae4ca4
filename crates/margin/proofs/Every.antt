-- A call of `all` over a range says whether a test holds at every number of it. Assumes nothing.
use mathlib.Core.Path.{◌≡◌, refl, ◌∙◌}
use mathlib.Core.Bool.{Bool, true, false, not, cond, ◌&&◌}
use Prim.Native.Nat.{ℕ, zero, suc, ◌-◌}
use native.Mathlib.Numerals.{add-one}
use Rattle.std.specs.List.{list_all, range_with_len}
use Rattle.loops.specs.Loops.{some_of, any_up}
use Rattle.margin.specs.Margin.{fails_at, every}

module _ (p : ℕ → Bool) where
  first : (b x y : Bool) → x ≡ not y → b && x ≡ not (cond (not b) true y)
  first true x y e = e
  first false x y e = refl

  listed : (k i : ℕ) → list_all p (range_with_len i k) ≡ not (some_of k i (fails_at p))
  unfolding some_of
  listed zero i = refl
  listed (suc k) i = first (p i) _ (some_of k (suc i) (fails_at p)) (rw (add-one i) (listed k (suc i)))

  pub every_listed : (n : ℕ) (r : Bool) → r ≡ list_all p (range_with_len 0 (n - 0)) → r ≡ every 0 n p
  unfolding any_up
  every_listed n r e = e ∙ listed (n - 0) 0

-- A call of `any` over a range says whether a test holds at some number of it. Assumes nothing.
use mathlib.Core.Path.{◌≡◌, refl, ◌∙◌}
use mathlib.Core.Bool.{Bool, true, false, cond, ◌||◌}
use Prim.Native.Nat.{ℕ, zero, suc, ◌-◌}
use native.Mathlib.Numerals.{add-one}
use Rattle.std.specs.List.{list_any, range_with_len}
use Rattle.loops.specs.Loops.{some_of, any_up}

module _ (p : ℕ → Bool) where
  first : (b x y : Bool) → x ≡ y → b || x ≡ cond b true y
  first true x y e = refl
  first false x y e = e

  listed : (k i : ℕ) → list_any p (range_with_len i k) ≡ some_of k i p
  unfolding some_of
  listed zero i = refl
  listed (suc k) i = first (p i) _ (some_of k (suc i) p) (rw (add-one i) (listed k (suc i)))

  pub sought : (from to : ℕ) (r : Bool) → r ≡ list_any p (range_with_len from (to - from)) → r ≡ any_up from to p
  unfolding any_up
  sought from to r e = e ∙ listed (to - from) from

-- Two floats that are each the nearest to a number are the same: of two sizes the number cannot lie on either side of their middle at once. Assumes nothing.
use mathlib.Core.Path.{◌≡◌, sym, ◌∙◌, subst}
use Prim.Native.Nat.{ℕ, suc, ◌≤◌, ◌<◌}
use native.Mathlib.Nat.{add_comm, le_antisymm, le_of_suc-le-suc, lt_of_not-le, lt_irrefl, lt_trans}
use lib.Ieee.{Float, binary32}
use Rattle.floatlaws.specs.Value.{mag}
use Rattle.floatlaws.specs.Bits.{same_float}
use Rattle.color.specs.Srgb.{Root, power_of, own_power, Nearer, NearestTo}

not-below : (x : Root) (a b : ℕ) → Nearer x a b → Nearer x b a → b ≤ a
not-below x a b A B =
    le_of_suc-le-suc (lt_of_not-le (λ (l : suc a ≤ b). lt_irrefl (own_power x) (lt_trans (A.0 l) (subst (λ (c : ℕ). power_of x c < own_power x) (add_comm b a) (B.1 l)))))

pub only : (x : Root) (r s : Float) → NearestTo x r → NearestTo x s → r ≡ s
only x r s R S =
    same_float R.is S.is (R.sign ∙ sym S.sign) (le_antisymm (not-below x (mag binary32 s) (mag binary32 r) (S.nearest r R.is) (R.nearest s S.is))
    (not-below x (mag binary32 r) (mag binary32 s) (R.nearest s S.is) (S.nearest r R.is)))

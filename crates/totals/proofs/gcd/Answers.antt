-- `totals::gcd` meets its contract: what is left of Euclid's loop gives the same. Assumes nothing.
use mathlib.Core.Path.{◌≡◌}
use Prim.Native.Nat.{ℕ, ◌%◌, ◌<◌}
use native.Mathlib.Nat.{mod-lt}
use native.Mathlib.Omega.{arith}
use Rattle.loops.proofs.Laws.{begin_while}
use Rattle.totals.specs.LowestTerms.{gcd}
use Rattle.totals.proofs.Divisor.{again, last}
use Rattle.totals.proofs.gcd.Goals as goal

less : (x y : ℕ) → (y ≡ 0 → ⊥) → x % y < y
less x y h = mod-lt x (above y h)
  where
    above : (y : ℕ) → (y ≡ 0 → ⊥) → 0 < y
    above y h = omega arith

pub loop-y-smaller : goal.loop-y-smaller
loop-y-smaller c = search (less)

pub loop-y-preserved : goal.loop-y-preserved
loop-y-preserved c = search (again)

pub returns : goal.returns
unfolding gcd
returns c = search (last)

pub loop-y-init : goal.loop-y-init
loop-y-init c = search (begin_while)

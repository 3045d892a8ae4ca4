-- `equations::coefficients` meets its contract: what is left of the terms from k on copies the rest. Assumes nothing.
use mathlib.Core.Path.{◌≡◌, ◌∙◌}
use mathlib.Core.List.{List}
use Prim.Native.Nat.{ℕ, ◌+◌, ◌-◌, ◌<◌, ◌≤◌}
use native.Mathlib.Omega.{arith}
use lib.ListN.{length, get_or, take, drop, length-drop}
use lib.Seq.{length-take-le, get_or-take, get_or-drop}
use lib.Ieee.{Float, nan, of_bits}
use Rattle.loops.proofs.Laws.{turn_to, loops}
use Rattle.equations.specs.Once.{taken_at}
use borrow.Author.Rules.{rules}
use Rattle.equations.proofs.coefficients.Goals as goal

-- the t numbers from the place `from` on
module _ (x : List Float) (from t k : ℕ) (h : from + t ≤ length x) where
  long : length (take (from + t - from) (drop from x)) ≡ t
  long = length-take-le (from + t - from) (drop from x) (omega (arith, length-drop from x)) ∙ (omega arith)

  inside : k < length (take (from + t - from) (drop from x)) → k < t
  inside i = omega (arith, long)

  past : length (take (from + t - from) (drop from x)) ≤ k → t ≤ k
  past i = omega (arith, long)

  at : k < length (take (from + t - from) (drop from x)) → get_or (take (from + t - from) (drop from x)) k nan ≡ get_or x (from + k) nan
  at i = get_or-take (from + t - from) (drop from x) k nan (omega (arith, long)) ∙ get_or-drop from x k nan

pub loop-k-init : goal.loop-k-init
unfolding of_bits
loop-k-init c = search (loops, rules)

pub loop-k-preserved : goal.loop-k-preserved
unfolding taken_at
loop-k-preserved c = search (turn_to, inside, at, rules)

pub returns : goal.returns
returns c = search (loops, past, rules)

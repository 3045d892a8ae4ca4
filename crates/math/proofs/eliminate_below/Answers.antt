-- `math::eliminate_below` meets its contract: what is left of the rows gives the same system, d being what stood on the diagonal before the first of them. Assumes nothing.
use mathlib.Core.Path.{◌≡◌}
use Prim.Native.Nat.{ℕ, ◌+◌}
use borrow.Author.Rules.{rules}
use mathlib.Core.List.{List}
use lib.Ieee.{Float}
use Rattle.loops.specs.Loops.{for_up}
use Rattle.loops.proofs.Laws.{loops}
use Rattle.math.specs.Gauss.{System, system, at, eliminate_row, eliminate_below}
use Rattle.math.proofs.eliminate_below.Goals as goal

-- d is what stands on the diagonal
finish : (n col : ℕ) (a b : List Float) (d : Float) (s : System) → d ≡ at n a col col → s ≡ for_up (col + 1) n (eliminate_row n col d) (system a b)
    → s ≡ eliminate_below n col (system a b)
finish n col a b d s e h = cc

pub returns : goal.returns
returns c = search (finish, loops)

pub loop-r-init : goal.loop-r-init
loop-r-init c = search (loops, rules)

pub loop-r-preserved : goal.loop-r-preserved
loop-r-preserved c = search (loops, rules)

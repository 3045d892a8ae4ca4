-- `math::finish_core` meets its contract: the diagonal is nudged, and the system solved. Assumes nothing.
use mathlib.Core.Path.{◌≡◌, ap, ◌∙◌}
use mathlib.Core.Bool.{Bool}
use mathlib.Core.List.{List}
use Prim.Native.Nat.{ℕ}
use borrow.Author.Rules.{rules}
use lib.Ieee.{Float}
use Rattle.math.specs.Gauss.{system, settled, gauss}
use Rattle.math.specs.Normal.{nudged, finish}
use Rattle.math.proofs.Accepted.{square-fits}
use Rattle.math.proofs.finish_core.Goals as goal

solves : (terms : ℕ) (ata atb x ata' a b y : List Float) (r : Bool) → settled r a b y ≡ gauss terms ata' atb x → ata' ≡ nudged terms ata → settled r a b y ≡ finish terms (system ata atb) x
unfolding finish
solves terms ata atb x ata' a b y r h e = h ∙ ap (λ (m : List Float). gauss terms m atb x) e

pub nudge-requires : goal.nudge-requires
nudge-requires c = search (square-fits, rules)

pub solve_core-requires : goal.solve_core-requires
solve_core-requires c = search (square-fits, rules)

pub returns : goal.returns
returns c = search (solves)

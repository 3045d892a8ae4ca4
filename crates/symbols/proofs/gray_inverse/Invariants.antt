-- `symbols::gray_inverse` meets its contract: what was put in and what is left to put in make the whole. Assumes nothing.
use mathlib.Core.Path.{◌≡◌}
use lib.Bits.{bit_xor}
use Rattle.symbols.specs.Gray.{gray_inverse}
use Rattle.symbols.proofs.gray_inverse.Given as goal

abbrev pub invariant-loop-left : goal.invariant-loop-left
invariant-loop-left l = bit_xor l.n (gray_inverse l.left) ≡ gray_inverse l.g

abbrev pub decreases-loop-left : goal.decreases-loop-left
decreases-loop-left l = l.left

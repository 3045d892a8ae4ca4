-- `page::field_byte` meets its contract: what is left of the number, as many places nearer its right end, has the same byte there. Assumes nothing.
use mathlib.Core.Path.{◌≡◌}
use Prim.Native.Nat.{ℕ, ◌-◌}
use Rattle.page.specs.Steps.{field_byte}
use Rattle.page.proofs.field_byte.Given as goal

-- i places on, `left` is left of the number
pub record Nearer (n k left i : ℕ) : Type 0 where
  pub same : field_byte (k - i) left ≡ field_byte k n

abbrev pub invariant-loop-i : goal.invariant-loop-i
invariant-loop-i l = Nearer l.n l.k l.left l._i

abbrev pub decreases-loop-i : goal.decreases-loop-i
decreases-loop-i l = l.k - l._i

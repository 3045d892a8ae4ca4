-- `math::bring_up` meets its contract: it exchanges both or nothing, by the definition's test. Assumes nothing.
use mathlib.Core.List.{List}
use mathlib.Core.Path.{◌≡◌}
use Prim.Native.Nat.{ℕ, ◌<◌}
use native.Mathlib.Omega.{arith}
use borrow.Author.Tests.{eq-eqb, ne_eqb}
use lib.Ieee.{Float, nan}
use lib.ListN.{length}
use Rattle.std.specs.List as lists
use Rattle.std.proofs.lemmas.List.Edits.{swap_is}
use Rattle.math.specs.Gauss.{system, swap_rows, bring_up}
use Rattle.math.proofs.bring_up.Goals as goal

module _ (n col p : ℕ) (a b : List Float) where
  stays : p ≡ col → system a b ≡ bring_up n col p (system a b)
  unfolding bring_up
  stays e = cc (eq-eqb p col e)

  moves : (a' b' : List Float) → (p ≡ col → ⊥) → a' ≡ swap_rows n col p a → col < length b → p < length b → b' ≡ lists.swap b col p → system a' b' ≡ bring_up n col p (system a b)
  unfolding bring_up
  moves a' b' h ea hc hp eb = cc (ne_eqb p col h, swap_is b col p nan hc hp)

pub returns-then-p-col : goal.returns-then-p-col
returns-then-p-col c =
    let l = c.requires.0.right-long in
    moves _ _ _ _ _ _ _ c.if-p-col.true c.swap_rows.ensures (omega arith) (omega arith) c.swap.ensures.after

pub returns-else-p-col : goal.returns-else-p-col
returns-else-p-col c = search (stays)

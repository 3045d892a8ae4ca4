-- `math::swap_rows` meets its contract: what is left of the columns gives the same matrix. Assumes nothing.
use mathlib.Core.List.{List}
use mathlib.Core.Path.{◌≡◌, sym, ◌∙◌}
use Prim.Native.Nat.{ℕ, ◌+◌, ◌*◌, ◌<◌, ◌≤◌}
use native.Mathlib.Omega.{arith}
use borrow.Author.Rules.{rules}
use lib.Ieee.{Float, nan}
use lib.ListN.{length}
use Rattle.std.specs.List.{swap}
use Rattle.std.proofs.lemmas.List.Edits.{swap_is}
use Rattle.loops.proofs.Laws.{turn_to, done, cell}
use Rattle.math.specs.Gauss.{swap_at}
use Rattle.math.proofs.swap_rows.Goals as goal

exchanged : (n r q k : ℕ) (a a' : List Float) → r < n → q < n → k < n → n * n ≤ length a → a' ≡ swap a (r * n + k) (q * n + k) → a' ≡ swap_at n r q k a
unfolding swap_at
exchanged n r q k a a' hr hq hk l e = e ∙ sym (swap_is a (r * n + k) (q * n + k) nan (cell hr hk l) (cell hq hk l))

pub loop-k-preserved : goal.loop-k-preserved
loop-k-preserved c = turn_to c.loop-k.invariant c.loop-k-test.true
    (exchanged _ _ _ _ _ _ (search rules) (search rules) c.loop-k-test.true (omega arith) c.swap.ensures.after)

pub returns : goal.returns
returns c = done c.loop-k.invariant c.loop-k-test.false

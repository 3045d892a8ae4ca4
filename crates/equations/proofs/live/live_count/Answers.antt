-- `live::live_count` meets its contract: a live mark counts one. Assumes nothing.
use mathlib.Core.Path.{◌≡◌, refl, ◌∙◌}
use mathlib.Core.Bool.{Bool, true, false}
use Prim.Native.Nat.{ℕ, ◌+◌, ◌≤◌}
use native.Mathlib.Nat.{add-zero}
use mir.Val.{bool_byte}
use Rattle.loops.specs.Loops.{raise}
use Rattle.loops.proofs.Laws.{loops, turn_to, raised, not-raised}
use borrow.Author.Rules.{rules}
use Rattle.equations.proofs.live.live_count.Goals as goal

counted : (p : ℕ → Bool) (i k : ℕ) (b : Bool) → b ≡ p i → k + bool_byte b ≡ raise p i k
counted p i k true e = raised p i k true e refl
counted p i k false e = add-zero k ∙ not-raised p i k false e refl

most : (b : Bool) → bool_byte b ≤ 1
most true = search rules
most false = search rules

pub loop-mark-preserved : goal.loop-mark-preserved
loop-mark-preserved c = (search (most, rules), search (turn_to, counted, rules))

pub returns : goal.returns
returns c = search (loops, rules)

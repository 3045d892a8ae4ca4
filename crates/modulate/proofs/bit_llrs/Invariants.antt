-- `modulate::bit_llrs` meets its contract: each bit's score stands at its place. Assumes nothing.
use mathlib.Core.Path.{◌≡◌}
use Prim.Native.Nat.{ℕ, ◌<◌}
use lib.ListN.{get_or}
use lib.Ieee.{nan}
use Rattle.modulate.specs.Score.{bit_llr}
use Rattle.modulate.proofs.bit_llrs.Given as goal

abbrev pub invariant-loop-b : goal.invariant-loop-b
invariant-loop-b l = (j : ℕ) → j < l.b → get_or l.score-items j nan ≡ bit_llr l.ll l.fn.cell l.hues j

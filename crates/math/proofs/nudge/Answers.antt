-- `math::nudge` meets its contract: what is left of the diagonal gives the same matrix. The code's 1e-9 is the f64 nearest 1 / 10 ^ 9. Assumes nothing.
use mathlib.Core.Path.{◌≡◌, refl}
use lib.Ieee.{binary64, of_bits, round}
use Rattle.loops.proofs.Laws.{turn_to, done}
use Rattle.math.specs.Normal as normal
use Rattle.math.proofs.nudge.Goals as goal

literal : of_bits binary64 0x3e11_2e0b_e826_d695 ≡ normal.nudge
unfolding of_bits round normal.nudge
literal = refl

pub loop-i-preserved : goal.loop-i-preserved
unfolding normal.nudge_at
loop-i-preserved c = turn_to c.loop-i.invariant c.loop-i-test.true (cc (literal))

pub returns : goal.returns
returns c = done c.loop-i.invariant c.loop-i-test.false

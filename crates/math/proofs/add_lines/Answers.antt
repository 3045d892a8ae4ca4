-- `math::add_lines` meets its contract: what is left of the lines gives the same equations. Assumes nothing.
use Rattle.loops.proofs.Laws.{turn_to, done}
use Rattle.math.specs.Normal.{add_line, add_row}
use Rattle.math.proofs.Front.{inside, past, number}
use Rattle.math.proofs.add_lines.Goals as goal

pub loop-i-preserved : goal.loop-i-preserved
unfolding add_line
loop-i-preserved c =
    let h = c.loop-i-test.true in
    turn_to c.loop-i.invariant (inside _ _ _ c.requires.1 h) (cc (number _ _ _ c.requires.1 h, c.add_products.ensures))

pub returns : goal.returns
unfolding add_row
returns c = done c.loop-i.invariant (past _ _ _ c.requires.1 c.loop-i-test.false)

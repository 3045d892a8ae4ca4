-- `math::add_products` meets its contract: what is left of the row gives the same matrix. Assumes nothing.
use borrow.Author.Rules.{rules}
use Rattle.loops.proofs.Laws.{turn_to, done}
use Rattle.math.specs.Normal.{add_product}
use Rattle.math.proofs.Front.{inside, past, number}
use Rattle.math.proofs.add_products.Goals as goal

pub at-requires : goal.at-requires
at-requires c = record { row = search rules; column = inside _ _ _ c.requires.2 c.loop-j-test.true; matrix-long = search rules }

pub loop-j-preserved : goal.loop-j-preserved
unfolding add_product
loop-j-preserved c =
    let h = c.loop-j-test.true in
    turn_to c.loop-j.invariant (inside _ _ _ c.requires.2 h) (cc (number _ _ _ c.requires.2 h, c.at.ensures, c.put.ensures))

pub returns : goal.returns
returns c = done c.loop-j.invariant (past _ _ _ c.requires.2 c.loop-j-test.false)

-- `math::add_products` meets its contract: what is left of the row gives the same matrix. Assumes nothing.
use Rattle.loops.proofs.Laws.{Left}
use Rattle.math.specs.Normal.{add_product, add_products}
use Rattle.math.proofs.add_products.Given as goal

abbrev pub invariant-loop-j : goal.invariant-loop-j
invariant-loop-j l = Left (add_product l.terms l.row l.i) l.terms l.j l.ata (add_products l.terms l.row l.i l.initial.ata)

-- `near::search::Search::sort` meets its contract: every pass leaves the same places, and the last one sorts them.
-- Assumes nothing.
use Rattle.near.specs.Order.{Mixed}
use Rattle.near.proofs.search.Search.sort.Given as goal

abbrev pub invariant-loop-gap : goal.invariant-loop-gap
invariant-loop-gap l = Mixed l.m l.initial.out l.out

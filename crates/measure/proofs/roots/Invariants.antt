-- `measure::roots` meets its contract: before turn i the roots of i references are taken. Assumes nothing.
use Rattle.measure.proofs.Noting.{Rooting}
use Rattle.measure.proofs.roots.Given as goal

abbrev pub invariant-loop-x : goal.invariant-loop-x
invariant-loop-x l = Rooting l.x-index l.initial.x-items l.x-items

-- `vectors::digits_from` meets its contract: what is left of the loop gives the whole. Assumes nothing.
use Rattle.vectors.specs.Words.{digits_from}
use Rattle.vectors.proofs.Front.{LeftDigits}
use Rattle.vectors.proofs.digits_from.Given as goal

abbrev pub invariant-loop-b : goal.invariant-loop-b
invariant-loop-b l = LeftDigits l.b-items l.at l.b-index l.value l.end (digits_from l.text l.at)

-- `measure::correct` meets its contract: before turn i the corrected colours of i references are written, and those that have a mark are counted. Assumes nothing.
use Rattle.loops.proofs.Laws.{loops}
use Rattle.measure.proofs.Noting.{correct_begin, correct_turn, correct_done}
use Rattle.measure.proofs.Observed.{seen-colour, seen-counted}
use borrow.Author.Rules.{rules}
use Rattle.measure.proofs.correct.Goals as goal

pub loop-i-init : goal.loop-i-init
loop-i-init c = (search rules, correct_begin _, search rules, search (loops, rules))

pub loop-i-preserved : goal.loop-i-preserved
loop-i-preserved c = (search rules, search (correct_turn, seen-colour), search rules, search (loops, seen-counted, rules))

pub returns : goal.returns
returns c = (search (correct_done, rules), search (loops, rules))

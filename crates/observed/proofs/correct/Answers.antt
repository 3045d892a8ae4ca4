-- `correct` meets its contract: what is left from j on gives the same, of the colours and of the count. Assumes nothing.
use borrow.Author.Rules.{rules}
use Rattle.loops.proofs.Laws.{begin-from, turn_to, turn-from, done, loops}
use Rattle.observed.proofs.Corrected.{colour_step, counted}
use Rattle.observed.proofs.correct.Goals as goal

pub loop-j-init : goal.loop-j-init
loop-j-init g c = (search (loops, rules), search rules, begin-from _)

pub loop-j-preserved : goal.loop-j-preserved
loop-j-preserved g c =
    let inv = c.loop-j.invariant in (
      turn_to inv.0 (search rules) (search (colour_step)),
      search rules,
      turn-from _ _ inv.2 (search rules) (search (counted)),
    )

pub returns : goal.returns
returns g c = (search (loops, rules), done c.loop-j.invariant.2 (search rules), search rules)

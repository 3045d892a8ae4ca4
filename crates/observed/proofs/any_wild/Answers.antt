-- `any_wild` meets its contract: what is left from i on says the same. Assumes nothing.
use Rattle.std.proofs.Common.{rules}
use Rattle.loops.proofs.Laws.{out-any, turn-any, loops}
use Rattle.observed.proofs.Corrected.{wild_at}
use Rattle.observed.proofs.any_wild.Goals as goal

pub returns-then-breaks : goal.returns-then-breaks
returns-then-breaks g c = out-any c.loop-i.invariant (search rules) (search (wild_at)) c.if-breaks.true

pub loop-i-preserved : goal.loop-i-preserved
loop-i-preserved g c = turn-any c.loop-i.invariant (search rules) (search (wild_at)) c.if-breaks.false

pub loop-i-init : goal.loop-i-init
loop-i-init g c = search (loops, rules)

pub returns : goal.returns
returns g c = search (loops, rules)

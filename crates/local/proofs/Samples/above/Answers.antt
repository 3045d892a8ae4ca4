-- `local::Samples::above` meets its contract: what is left of the samples from i on takes the classes to the answer. Assumes nothing.
use borrow.Author.Rules.{rules}
use Rattle.std.proofs.lemmas.List.{get_or-take}
use Rattle.loops.proofs.Laws.{loops}
use Rattle.local.specs.Local.{above_at}
use Rattle.local.proofs.Samples.above.Goals as goal

pub loop-i-init : goal.loop-i-init
loop-i-init c = search (loops, rules)

pub loop-i-preserved : goal.loop-i-preserved
unfolding above_at
loop-i-preserved c = search (get_or-take, loops, rules)

pub returns : goal.returns
returns c = search (loops, rules)

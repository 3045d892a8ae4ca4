-- `local::Samples::refits` meets its contract: what is left of the 8 turns takes the classes to the answer. Assumes nothing.
use Rattle.loops.proofs.Laws.{Left}
use Rattle.local.specs.Local.{refit_turn, refits_of}
use Rattle.local.proofs.Samples.refits.Given as goal

abbrev pub invariant-loop : goal.invariant-loop
invariant-loop l = Left (refit_turn l.self.window.now) 8 l.counter l.c (refits_of l.self.window.now l.initial.c.light)

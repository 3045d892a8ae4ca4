-- `local::Samples::classify` meets its contract: what is left of the samples from i on takes the classes to the answer. Assumes nothing.
use mathlib.Core.List.{◌++◌}
use lib.ListN.{drop}
use Rattle.std.specs.Prelude.{Some, false}
use Rattle.loops.proofs.Laws.{Left}
use Rattle.local.specs.Local.{classes, classify_at, classified}
use Rattle.local.proofs.Samples.classify.Given as goal

abbrev pub invariant-loop-i : goal.invariant-loop-i
invariant-loop-i l =
    Left (classify_at l.self.window.now l.plane) l.self.window.now.count l.i (classes (l.class-items ++ drop l.self.window.now.count l.fn.classes) l.moved (Some l.plane))
    (classified l.self.window.now l.plane (classes l.fn.classes false (Some l.plane)))

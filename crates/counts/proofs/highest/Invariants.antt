-- `highest` meets its contract: what is left from h on gives the same. Assumes nothing.
use Prim.Native.Nat.{◌<◌}
use Rattle.loops.proofs.Laws.{Left}
use Rattle.counts.specs.Counts.{better, highest_of}
use Rattle.counts.proofs.highest.Given as goal

abbrev pub invariant-loop-h : goal.invariant-loop-h
invariant-loop-h l = (l.best < l.hues) × Left (better l.likelihoods) l.hues l.h l.best (highest_of l.likelihoods l.hues)

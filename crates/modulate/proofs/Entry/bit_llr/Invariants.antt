-- `modulate::Entry::bit_llr` meets its contract: what is left of the hues gives the best of all; the code starts at minus infinity. Assumes nothing.
use Rattle.loops.proofs.Laws.{Left}
use Rattle.modulate.specs.Score.{better_at, best_of}
use Rattle.modulate.proofs.Entry.bit_llr.Given as goal

abbrev pub invariant-loop-h : goal.invariant-loop-h
invariant-loop-h l = Left (better_at l.ll l.self.cell l.self.hues.count l.b) l.self.hues.count l.h l.best (best_of l.ll l.self.cell l.self.hues.count l.b)

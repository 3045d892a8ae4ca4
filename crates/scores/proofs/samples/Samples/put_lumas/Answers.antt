-- `Samples::put_lumas` meets its contract: what is left from j on gives the same. Assumes nothing.
use mathlib.Core.Path.{◌≡◌, refl}
use mathlib.Core.List.{List}
use Prim.Native.Nat.{ℕ, ◌+◌, ◌≤◌, ◌<◌}
use borrow.Author.Rules.{rules}
use lib.ListN.{length, get_or, set, take}
use lib.Ieee.{Float, nan}
use Rattle.loops.proofs.Laws.{turn_to, done, loops}
use Rattle.scores.proofs.Parts.{front_in, front_past, front_read}
use Rattle.color.specs.declared.Lab.{Lab}
use Rattle.color.specs.Color.{lab}
use Rattle.stats.specs.declared.ChannelStats.{ChannelStats}
use Rattle.stats.specs.Noise.{luma_llr}
use Rattle.observed.specs.Entries.{lab_at}
use Rattle.scores.specs.Score.{weighed, put_luma}
use Rattle.scores.proofs.samples.Samples.put_lumas.Goals as goal

wrote : (n : ChannelStats) (labs : List Lab) (weights : List Float) (from k j : ℕ) (luma : List Float) (s : Lab) (llr v : Float) → k ≤ length labs → j < length (take k labs) → v ≡ weighed llr (get_or weights j nan) → llr ≡ luma_llr n s.l →
    s ≡ lab_at (take k labs) j → set luma (from + j) v ≡ put_luma n labs weights from j luma
unfolding put_luma
wrote n labs weights from k j luma s llr v h l e er el = rw (e, er, el, front_read k labs j h (lab nan nan nan) l) refl

pub loop-j-init : goal.loop-j-init
loop-j-init c = search (loops, rules)

pub loop-j-preserved : goal.loop-j-preserved
loop-j-preserved c = turn_to c.loop-j.invariant (front_in _ c.args.self.now.labs _ (search rules) (search rules)) (wrote _ _ _ _ c.args.self.now.n _ _ _ _ _ (search rules) (search rules) c.weigh.ensures c.luma_llr_of-llr.ensures refl)

pub returns : goal.returns
returns c = done c.loop-j.invariant (front_past _ c.args.self.now.labs _ (search rules) (search rules))

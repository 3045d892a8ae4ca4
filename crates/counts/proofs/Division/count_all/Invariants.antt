-- `Division::count_all` meets its contract: what is left from i on gives the same, and the counts so far add up to i. Assumes nothing.
use mathlib.Core.Path.{◌≡◌}
use Prim.Native.Nat.{◌-◌, ◌≤◌}
use lib.ListN.{length}
use Rattle.loops.proofs.Laws.{Left}
use Rattle.counts.specs.Counts.{classes, count_at, count_all, Sums}
use Rattle.counts.proofs.Division.count_all.Given as goal

abbrev pub invariant-loop-i : goal.invariant-loop-i
invariant-loop-i l =
    (length l.out ≡ length l.initial.out) × (l.i ≤ 32768) × Sums (classes l.self.channel.palette.hues) l.i l.out
    × Left (count_at l.self.channel.noise l.self.channel.palette.numbers.now l.self.channel.palette.hues) 32768 l.i l.out (count_all l.self.channel.noise l.self.channel.palette.numbers.now l.self.channel.palette.hues l.initial.out)

abbrev pub decreases-loop-i : goal.decreases-loop-i
decreases-loop-i l = 32768 - l.i

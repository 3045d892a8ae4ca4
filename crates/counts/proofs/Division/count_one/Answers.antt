-- `Division::count_one` meets its contract: one entry is raised by one, and so the sum. Assumes nothing.
use mathlib.Core.Path.{◌≡◌}
use mathlib.Core.List.{List}
use Prim.Native.Nat.{ℕ, ◌+◌}
use lib.Ieee.{Float}
use lib.ListN.{get_or, set}
use Rattle.color.specs.declared.Lab.{Lab}
use Rattle.stats.specs.declared.ChannelStats.{ChannelStats}
use Rattle.counts.specs.Counts.{sample_at, class_of, count_at}
use Rattle.counts.proofs.Sums.{one_more, entry-below}
use Rattle.counts.proofs.Division.count_one.Goals as goal

counts : (n : ChannelStats) (palette : List Float) (k i : ℕ) (out : List ℕ) (s : Lab) (c : ℕ) →
    s ≡ sample_at i → c ≡ class_of n palette k s → set out c (get_or out c 0 + 1) ≡ count_at n palette k i out
unfolding count_at
counts n palette k i out s c e h = rw (h, e)

pub overflow_add-out : goal.overflow_add-out
overflow_add-out c = record { fits = search (entry-below) }

pub returns : goal.returns
returns c = (search (counts), search (one_more))

-- `reading::read_all` meets its contract: what is left of the scores gives the list. Assumes nothing.
use mathlib.Core.Path.{◌≡◌, ap}
use borrow.Author.Rules.{rules}
use mathlib.Core.List.{List}
use Prim.Native.Nat.{ℕ}
use lib.ListN.{get_or, set}
use lib.Ieee.{Float, nan}
use Rattle.loops.proofs.Laws.{loops}
use Rattle.lists.specs.Lists.{replace_at}
use Rattle.reading.specs.Read.{reads, read_score_at}
use Rattle.reading.proofs.read_all.Goals as goal

put : (scores : List Float) (bits : List ℕ) (i v : ℕ) → v ≡ reads (get_or scores i nan) → set bits i v ≡ replace_at 0 (read_score_at scores) i bits
put scores bits i v e = ap (set bits i) e

pub loop-i-preserved : goal.loop-i-preserved
loop-i-preserved c = search (put, loops, rules)

pub loop-i-init : goal.loop-i-init
loop-i-init c = search (loops, rules)

pub returns : goal.returns
returns c = search (loops, rules)

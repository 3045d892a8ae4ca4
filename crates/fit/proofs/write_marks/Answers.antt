-- `fit::write_marks` meets its contract: what is left of the references gives the marks.
-- Assumes nothing.
use mathlib.Core.Path.{◌≡◌, ap}
use borrow.Author.Rules.{rules}
use mathlib.Core.List.{List}
use Prim.Native.Nat.{ℕ}
use lib.ListN.{set}
use lib.Ieee.{Float}
use Rattle.loops.proofs.Laws.{loops}
use Rattle.lists.specs.Lists.{replace_at}
use Rattle.fit.specs.Fit.{kept_mark, mark_at}
use Rattle.fit.proofs.write_marks.Goals as goal

put : (count : ℕ) (live : List Float) (kept : List ℕ) (i v : ℕ) → v ≡ kept_mark count live i → set kept i v ≡ replace_at 0 (mark_at count live) i kept
put count live kept i v e = ap (set kept i) e

pub loop-i-preserved : goal.loop-i-preserved
loop-i-preserved c = search (put, loops, rules)

pub loop-i-init : goal.loop-i-init
loop-i-init c = search (loops, rules)

pub returns : goal.returns
returns c = search (loops, rules)

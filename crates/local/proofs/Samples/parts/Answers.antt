-- `local::Samples::parts` meets its contract: after i turns the first i places are the samples' parts. Assumes nothing.
use mathlib.Core.Bool.{Bool}
use mathlib.Core.List.{List}
use mathlib.Core.Path.{◌≡◌, ap, ◌∙◌}
use Prim.Native.Nat.{ℕ, ◌+◌, ◌≤◌, ◌<◌}
use native.Mathlib.Omega.{arith}
use borrow.Author.Rules.{rules}
use lib.Ieee.{Float, nan}
use lib.ListN.{get_or, length, set, take}
use Rattle.std.proofs.lemmas.List.{get_or-take}
use Rattle.local.specs.Sums.{Firsts, part, part_at}
use Rattle.local.specs.declared.Window.{Window}
use Rattle.local.proofs.Firsts.{firsts, firsts-turn}
use Rattle.local.proofs.Samples.parts.Goals as goal

more : (low : Bool) (mean : Float) (w : Window) (v : List Float) (i : ℕ) (x : Float) → Firsts (part_at low mean w) i v → length v ≡ 49 → w.count ≤ 49 → i < w.count
    → x ≡ part low mean (get_or (take w.count w.y) i nan) → Firsts (part_at low mean w) (i + 1) (set v i x)
unfolding part_at
more low mean w v i x p l b h e = firsts-turn (part_at low mean w) v i p x (omega arith) (e ∙ ap (part low mean) (get_or-take w.count w.y i nan h))

pub loop-i-preserved : goal.loop-i-preserved
loop-i-preserved c = search (more, rules)

pub loop-i-init : goal.loop-i-init
loop-i-init c = search (firsts, rules)

pub returns : goal.returns
returns c = search (firsts, rules)

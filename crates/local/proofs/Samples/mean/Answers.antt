-- `local::Samples::mean` meets its contract: what is left of the samples from i on takes s to the sum. Assumes nothing.
use mathlib.Core.Path.{◌≡◌}
use Prim.Native.Nat.{ℕ, ◌≤◌}
use native.Mathlib.Omega.{arith}
use borrow.Author.Rules.{rules}
use lib.Ieee.{Float, binary32, of_bits, div, of_int}
use lib.IntN.{pos}
use Rattle.std.proofs.lemmas.List.{get_or-take}
use Rattle.loops.proofs.Laws.{Left, loops, done}
use Rattle.order.proofs.Small.{small}
use Rattle.local.specs.Local.{add_luminance, sum_of, mean_of}
use Rattle.local.specs.declared.Window.{Window}
use Rattle.local.proofs.Samples.mean.Goals as goal

over : (w : Window) (i : ℕ) (s : Float) → Left (add_luminance w) w.count i s (sum_of w) → w.count ≤ i → div binary32 s (of_int binary32 (pos w.count)) ≡ mean_of w
unfolding mean_of
over w i s inv h = let d : s ≡ sum_of w = done inv h in cc

pub loop-y-init : goal.loop-y-init
unfolding of_bits
loop-y-init c = search (loops, rules)

pub loop-y-preserved : goal.loop-y-preserved
unfolding add_luminance
loop-y-preserved c = search (get_or-take, loops, rules)

pub int_to_float-result : goal.int_to_float-result
int_to_float-result c = small _ (omega arith)

pub returns : goal.returns
returns c = search (over, rules)

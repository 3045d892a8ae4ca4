-- `local::Samples::deviations` meets its contract: what is left of the samples from i on takes the list to the answer. Assumes nothing.
use mathlib.Core.Bool.{Bool, false}
use mathlib.Core.List.{List}
use mathlib.Core.Path.{◌≡◌, ap}
use Prim.Native.Nat.{ℕ, ◌<◌}
use borrow.Author.Rules.{rules}
use lib.Ieee.{Float, of_bits}
use lib.ListN.{get_or, set, take}
use Rattle.std.proofs.lemmas.List.{get_or-take}
use Rattle.loops.proofs.Laws.{loops}
use Rattle.local.specs.Local.{dx_at, dy_at, y_at, deviation, deviate_at}
use Rattle.local.specs.declared.Single.{Single}
use Rattle.local.specs.declared.Window.{Window}
use Rattle.local.proofs.Samples.deviations.Goals as goal

write : (w : Window) (f : Single) (light : List Bool) (i : ℕ) (dev : List Float) (v : Float) → i < w.count → v ≡ deviation f (get_or (take w.count light) i false) (dx_at w i) (dy_at w i) (y_at w i) → set dev i v ≡ deviate_at w f light i dev
unfolding deviate_at
write w f light i dev v l e = ap (set dev i) (rw (get_or-take w.count light i false l) at e)

pub loop-i-init : goal.loop-i-init
unfolding of_bits
loop-i-init c = search (loops, rules)

pub loop-i-preserved : goal.loop-i-preserved
loop-i-preserved c = search (write, loops, rules)

pub returns : goal.returns
returns c = search (loops, rules)

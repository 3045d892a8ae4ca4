-- `promises::moderate_colours` meets its contract: the theorem of `illum`, of what a program was told, where it was told the truth. Assumes nothing.
use mathlib.Core.Path.{refl, sym}
use mathlib.Core.Bool.{true}
use Rattle.illum.specs.Reach.{reach_of}
use Rattle.illum.proofs.Moderate.{in_reach}
use Rattle.promises.proofs.moderate_colours.Goals as goal

pub returns : goal.returns
returns c = λ m x y a t p h. in_reach m x y a (reach_of m) true (refl, t) (sym h, p) refl

-- `local::Halves::add_part` meets its contract: -0 changes no sum. Assumes nothing.
use mathlib.Core.Bool.{Bool, true, false, cond}
use mathlib.Core.Path.{◌≡◌, refl, sym, ap, ◌∙◌, subst}
use borrow.Author.Rules.{rules}
use lib.Dec.{T}
use lib.IntN.{pos}
use lib.Ieee.{Float, fin, binary32, add, fits}
use Rattle.local.specs.Sums.{belongs, part}
use Rattle.floatlaws.specs.NegativeZero.{add-negative-zero}
use Rattle.local.proofs.Halves.add_part.Goals as goal

by : (b : Bool) (s y : Float) → T (fits binary32 s) → add binary32 s (cond b y (fin true 0 (pos 0))) ≡ cond b (add binary32 s y) s
by true s y t = refl
by false s y t = add-negative-zero binary32 s t

added : (low : Bool) (s mean y p : Float) → p ≡ part low mean y → T (fits binary32 s) → add binary32 s p ≡ cond (belongs low mean y) (add binary32 s y) s
unfolding part
added low s mean y p e t = ap (add binary32 s) e ∙ by (belongs low mean y) s y t

pub returns : goal.returns
returns c = added _ _ _ _ _ (search rules) (subst T (sym c.well_formed.0.1) tt)

-- The corrected colour is the rows of the affine part, each rounded: both are the definition's sums. Assumes nothing.
use Rattle.std.proofs.Common.{◌≡◌, Bool, true, false, ◌||◌, refl}
use lib.Ieee.{Float}
use Rattle.float.specs.Single.{to_single}
use Rattle.color.specs.Palette.{wild, wild_linear}
use Rattle.illum.specs.declared.IlluminationModel.{IlluminationModel}
use Rattle.illum.specs.declared.Unshaded.{Unshaded}
use Rattle.illum.specs.declared.Unrounded.{Unrounded}
use Rattle.illum.specs.declared.Marked.{Marked}
use Rattle.illum.specs.Correct.{affine_row, rows, rounded, mixed}

pub rows-mixed : (m : IlluminationModel) (d : Unshaded) (v : Unrounded) → v ≡ rows m d → rounded v ≡ (mixed m d).colour
unfolding rows affine_row mixed
rows-mixed m d v e = rw e

pub marked : (m : IlluminationModel) (d : Unshaded) (v : Unrounded) (r g b : Float) → v ≡ rows m d → r ≡ to_single v.r → g ≡ to_single v.g → b ≡ to_single v.b
    → ◌≡◌ {A = Marked} (record { colour = record { r = r; g = g; b = b }; held_r = d.r.held; held_g = d.g.held; held_b = d.b.held }) (mixed m d)
unfolding rows affine_row mixed
marked m d v r g b e er eg eb = rw (er, eg, eb, e)

or_assoc : (a b c : Bool) → (a || b || c) ≡ (a || (b || c))
or_assoc true b c = refl
or_assoc false b c = refl

pub wild_mixed : (m : IlluminationModel) (d : Unshaded) (v : Unrounded) (p q s : Bool) → v ≡ rows m d → p ≡ wild (to_single v.r) → q ≡ wild (to_single v.g) → s ≡ wild (to_single v.b)
    → (p || q || s) ≡ wild_linear (mixed m d).colour
unfolding wild_linear
wild_mixed m d v p q s e ep eq es = rw (← rows-mixed m d v e, ep, eq, es) (or_assoc (wild (to_single v.r)) (wild (to_single v.g)) (wild (to_single v.b)))

-- `illum::wild_row` meets its contract: the row's two tests say what those of its f32 say. Assumes nothing.
use Rattle.std.proofs.Common.{◌≡◌, true, T, sym, subst}
use lib.Ieee.{Float, binary64, of_bits, fits}
use Rattle.illum.proofs.Bound.{wild-single}
use Rattle.illum.proofs.wild_row.Goals as goal

-- what owning an `f64` tells: the format holds it
held : (v : Float) → fits binary64 v ≡ true → T (fits binary64 v)
held v e = subst T (sym e) tt

pub returns : goal.returns
unfolding of_bits
returns c = sym (wild-single c.args.v (held c.args.v c.well_formed.0.1))

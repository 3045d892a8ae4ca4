-- `measure::colourful` meets its contract: the sum of squares is above 400.00003, the last f32 whose root rounds to 20, exactly where its root is
-- above 20. Assumes nothing.
use mathlib.Core.Path.{◌≡◌, refl, sym}
use lib.Dec.{T, lit≤}
use lib.Ieee.{Float, binary32, of_bits, round, lt, fits, is_nan}
use lib.Ieee.Fits.{add-fits}
use Rattle.floatlaws.specs.Value.{hi, mag}
use Rattle.float.specs.Root.{sqrt_of}
use Rattle.float.proofs.Above.{sqrt-above}
use Rattle.color.specs.Color.{fraction, whole, chroma, length2}
use Rattle.measure.specs.Measure.{colourful}
use Rattle.measure.proofs.colourful.Goals as goal

above_20 : (x : Float) → T (fits binary32 x) → lt (whole 20) (sqrt_of x) ≡ lt (of_bits binary32 0x43c8_0001) x
unfolding of_bits round fraction sqrt_of hi mag lt fits is_nan
above_20 =
    sqrt-above (whole 20) (of_bits binary32 0x43c8_0001) (of_bits binary32 0x43c8_0002) (record { fit = tt; real = tt })
    (record { fit = tt; finite = tt }) (record { fit = tt; finite = tt }) 0xc8_0001 134 (lit≤ tt) refl refl tt tt

pub returns : goal.returns
unfolding colourful chroma length2
returns c = sym (above_20 _ (add-fits binary32 _ _))

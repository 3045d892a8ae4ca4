-- The polynomial surfaces of the illumination model, and one channel's inverse: the Rust's `basis` and `deshade`, in its order of operations. Definitions only.
use Rattle.std.specs.Prelude.{ℕ, Bool, false, cond, List, [], ◌∷◌, pos, ◌==◌, slice_index_or, Float}
use Rattle.std.specs.Float.{nan, fin, binary64}
use Rattle.std.specs.Float.Ieee.{add, sub, mul, div, lt, neg, round}
use Rattle.loops.specs.Loops.{for_up}
use Rattle.float.specs.Select.{abs}
use Rattle.illum.specs.declared.Inverse.{Inverse}

-- ---- numbers

abbrev pub zero64 : Float
zero64 = fin false 0 (pos 0)

abbrev pub one64 : Float
one64 = fin false 1 (pos 0)

abbrev pub two64 : Float
two64 = fin false 1 (pos 1)

-- 0.05: the least magnitude that a gain divides by
unfoldable pub least_gain : Float
least_gain = round binary64 false 5 100

-- ---- the basis

-- how many terms a surface has: 4 (bilinear) or 9 (biquadratic)
unfoldable pub terms_used : ℕ → ℕ
terms_used terms = cond (terms == 4) 4 9

-- a coordinate on the scale from -1 to 1: 2.0 * x / side - 1.0
unfoldable pub normalised : Float → Float → Float
normalised side x = sub binary64 (div binary64 (mul binary64 two64 x) side) one64

-- 1, u, v, uv
abbrev pub bilinear : Float → Float → List Float
bilinear u v = one64 ∷ u ∷ v ∷ mul binary64 u v ∷ zero64 ∷ zero64 ∷ zero64 ∷ zero64 ∷ zero64 ∷ []

-- 1, u, v, uv, uu, vv, uuv, uvv, uuvv
abbrev pub biquadratic : Float → Float → List Float
biquadratic u v =
    one64 ∷ u ∷ v ∷ mul binary64 u v ∷ mul binary64 u u ∷ mul binary64 v v ∷ mul binary64 (mul binary64 u u) v
    ∷ mul binary64 (mul binary64 u v) v ∷ mul binary64 (mul binary64 (mul binary64 u u) v) v ∷ []

-- the Rust's `basis(x, y, terms)` of a model of this side; past the terms in use stands 0, which nothing reads
unfoldable pub basis_at : ℕ → Float → Float → Float → List Float
basis_at terms side x y =
    cond (terms == 4) (bilinear (normalised side x) (normalised side y)) (biquadratic (normalised side x) (normalised side y))

-- ---- a surface at a position: Σ coefficient k × basis k, from +0 on

unfoldable pub add_term : List Float → List Float → ℕ → Float → Float
add_term c b k s = add binary64 s (mul binary64 (slice_index_or c k nan) (slice_index_or b k nan))

-- the sum of the first n terms
abbrev pub summed : ℕ → List Float → List Float → Float
summed n c b = for_up 0 n (add_term c b) zero64

abbrev pub surface_at : ℕ → List Float → List Float → Float
surface_at terms c b = for_up 0 (terms_used terms) (add_term c b) zero64

-- ---- one channel's inverse

-- "A gain under 0.05 in magnitude" is held
unfoldable pub is_held : Float → Bool
is_held g = lt (abs g) least_gain

-- "becomes 0.05 of its sign; either zero gives +0.05"; a NaN is left
unfoldable pub hold_gain : Float → Float
hold_gain g = cond (is_held g) (cond (lt g zero64) (neg least_gain) least_gain) g

-- the gain that the correction divides by
abbrev pub gain_at : ℕ → List Float → List Float → Float
gain_at terms gain b = hold_gain (surface_at terms gain b)

-- (observed - flare) / gain of a gain that is held, and whether it was
abbrev pub inverted : Float → Float → Float → Inverse
inverted gain flare observed = record { value = div binary64 (sub binary64 observed flare) (hold_gain gain); held = is_held gain }

-- one channel of the Rust's `deshade`, (observed - flare) / gain, and whether the gain was held
unfoldable pub deshade : ℕ → List Float → List Float → List Float → Float → Inverse
deshade terms gain flare b observed =
    record {
      value = div binary64 (sub binary64 observed (surface_at terms flare b)) (gain_at terms gain b);
      held = is_held (surface_at terms gain b);
    }

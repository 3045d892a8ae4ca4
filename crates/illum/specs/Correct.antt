-- The correction of an observed colour, and the models that correct nothing: the Rust's `correct` and `identity`. Definitions only.
use Rattle.std.specs.Prelude.{ℕ, ◌+◌, Bool, false, cond, ◌||◌, List, [], ◌∷◌, pos, slice_index_or, Float}
use Rattle.std.specs.Float.{nan, fin, binary32, binary64}
use Rattle.std.specs.Float.Ieee.{add, mul, of_int}
use Rattle.float.specs.Single.{to_single}
use Rattle.color.specs.declared.Linear.{Linear}
use Rattle.illum.specs.declared.Unshaded.{Unshaded}
use Rattle.illum.specs.declared.Marked.{Marked}
use Rattle.illum.specs.declared.Unrounded.{Unrounded}
use Rattle.illum.specs.declared.IlluminationModel.{IlluminationModel}
use Rattle.illum.specs.declared.Parts.{Parts}
use Rattle.illum.specs.Surface.{zero64, one64, basis_at, surface_at, is_held, deshade}

-- ---- correct

-- one row of the affine part: a0 * r + a1 * g + a2 * b + a3
abbrev pub row : List Float → Float → Float → Float → Float
row a r g b =
    add binary64
    (add binary64 (add binary64 (mul binary64 (slice_index_or a 0 nan) r) (mul binary64 (slice_index_or a 1 nan) g)) (mul binary64 (slice_index_or a 2 nan) b))
    (slice_index_or a 3 nan)

-- rounded to an f32
unfoldable pub affine_row : List Float → Float → Float → Float → Float
affine_row a r g b = to_single (row a r g b)

-- the three channels' inverses at a position, of a side and six surfaces with so many terms: gains, then flares
abbrev pub inverses : ℕ → Float → List Float → List Float → List Float → List Float → List Float → List Float → Float → Float → Linear → Unshaded
inverses terms side gain-r gain-g gain-b flare-r flare-g flare-b x y c =
    let at = basis_at terms side x y in
    record { r = deshade terms gain-r flare-r at c.r; g = deshade terms gain-g flare-g at c.g; b = deshade terms gain-b flare-b at c.b }

-- those of a model, with so many terms
unfoldable pub unshaded_by : ℕ → IlluminationModel → Float → Float → Linear → Unshaded
unshaded_by terms m x y c =
    inverses terms m.side m.gain_r m.gain_g m.gain_b m.flare_r m.flare_g m.flare_b x y c

-- the three channels' inverses at a position: the Rust's `deshade`
unfoldable pub unshaded : IlluminationModel → Float → Float → Linear → Unshaded
unshaded m x y c =
    inverses m.terms m.side m.gain_r m.gain_g m.gain_b m.flare_r m.flare_g m.flare_b x y c

-- the colour that three rows make of them
abbrev pub mixed_by : List Float → List Float → List Float → Unshaded → Linear
mixed_by row-r row-g row-b d =
    record {
      r = affine_row row-r d.r.value d.g.value d.b.value;
      g = affine_row row-g d.r.value d.g.value d.b.value;
      b = affine_row row-b d.r.value d.g.value d.b.value;
    }

-- the affine part over them, before it is rounded
unfoldable pub rows : IlluminationModel → Unshaded → Unrounded
rows m d =
    record {
      r = row m.affine_r d.r.value d.g.value d.b.value;
      g = row m.affine_g d.r.value d.g.value d.b.value;
      b = row m.affine_b d.r.value d.g.value d.b.value;
    }

-- a colour of three rows, rounded
abbrev pub rounded : Unrounded → Linear
rounded v = record { r = to_single v.r; g = to_single v.g; b = to_single v.b }

-- a colour, with the mark of each inverse
abbrev pub marked : Linear → Unshaded → Marked
marked c d = record { colour = c; held_r = d.r.held; held_g = d.g.held; held_b = d.b.held }

-- the affine part over them, with the mark of each
unfoldable pub mixed : IlluminationModel → Unshaded → Marked
mixed m d = marked (mixed_by m.affine_r m.affine_g m.affine_b d) d

-- the Rust's `correct`, with the marks of the channels whose gain was held
abbrev pub corrected : IlluminationModel → Float → Float → Linear → Marked
corrected m x y c = mixed m (unshaded m x y c)

-- ---- the marks

-- whether one of the three is set
unfoldable pub any_held : Unshaded → Bool
any_held d = d.r.held || d.g.held || d.b.held

-- one more than k where one is
unfoldable pub count_held : Unshaded → ℕ → ℕ
count_held d k = cond (any_held d) (k + 1) k

-- a channel's gain at a position, as its surface sums it, before it is held
abbrev pub gain_before : IlluminationModel → List Float → Float → Float → Float
gain_before m gain x y = surface_at m.terms gain (basis_at m.terms m.side x y)

-- whether a colour that is corrected at a position has a mark: the colour itself plays no part
unfoldable pub held_at : IlluminationModel → Float → Float → Bool
held_at m x y = is_held (gain_before m m.gain_r x y) || is_held (gain_before m m.gain_g x y) || is_held (gain_before m m.gain_b x y)

-- ---- a model that is lent part by part

-- the model of these parts. No correction looks at the counts of references, which stand at 0 (proofs/Lent.antt)
abbrev pub lent_model : ℕ → Float → Float → List Float → List Float → List Float → List Float → List Float → List Float → List Float → List Float → List Float → IlluminationModel
lent_model terms side rms affine-r affine-g affine-b gain-r gain-g gain-b flare-r flare-g flare-b =
    record {
      affine_r = affine-r;
      affine_g = affine-g;
      affine_b = affine-b;
      gain_r = gain-r;
      gain_g = gain-g;
      gain_b = gain-b;
      flare_r = flare-r;
      flare_g = flare-g;
      flare_b = flare-b;
      terms = terms;
      side = side;
      residual_rms = rms;
      rejected = 0;
      kept = 0;
    }

-- the model of the parts that are lent
unfoldable pub of_parts : Parts → IlluminationModel
of_parts p =
    lent_model p.terms p.side p.residual_rms p.affine_r.now p.affine_g.now p.affine_b.now p.gain_r.now p.gain_g.now p.gain_b.now p.flare_r.now p.flare_g.now
    p.flare_b.now

-- a model whose counts of references stand at 0
unfoldable pub uncounted : IlluminationModel → IlluminationModel
uncounted m =
    lent_model m.terms m.side m.residual_rms m.affine_r m.affine_g m.affine_b m.gain_r m.gain_g m.gain_b m.flare_r m.flare_g m.flare_b

-- ---- identity

-- coefficient 0 is 1 and every other 0: the Rust's `unit_gain`
abbrev pub unit_gain : List Float
unit_gain = one64 ∷ zero64 ∷ zero64 ∷ zero64 ∷ zero64 ∷ zero64 ∷ zero64 ∷ zero64 ∷ zero64 ∷ []

abbrev pub no_flare : List Float
no_flare = zero64 ∷ zero64 ∷ zero64 ∷ zero64 ∷ zero64 ∷ zero64 ∷ zero64 ∷ zero64 ∷ zero64 ∷ []

abbrev pub zero32 : Float
zero32 = fin false 0 (pos 0)

-- unit gains, no flare, the identity as affine part: what `fit` starts from
unfoldable pub unit_model : ℕ → ℕ → IlluminationModel
unit_model side terms =
    record {
      affine_r = one64 ∷ zero64 ∷ zero64 ∷ zero64 ∷ [];
      affine_g = zero64 ∷ one64 ∷ zero64 ∷ zero64 ∷ [];
      affine_b = zero64 ∷ zero64 ∷ one64 ∷ zero64 ∷ [];
      gain_r = unit_gain;
      gain_g = unit_gain;
      gain_b = unit_gain;
      flare_r = no_flare;
      flare_g = no_flare;
      flare_b = no_flare;
      terms = terms;
      side = of_int binary32 (pos side);
      residual_rms = zero32;
      rejected = 0;
      kept = 0;
    }

-- what stands beside the number of a refusal: all zeros, a model that sentence 10 refuses
unfoldable pub no_model : IlluminationModel
no_model =
    record {
      affine_r = zero64 ∷ zero64 ∷ zero64 ∷ zero64 ∷ [];
      affine_g = zero64 ∷ zero64 ∷ zero64 ∷ zero64 ∷ [];
      affine_b = zero64 ∷ zero64 ∷ zero64 ∷ zero64 ∷ [];
      gain_r = no_flare;
      gain_g = no_flare;
      gain_b = no_flare;
      flare_r = no_flare;
      flare_g = no_flare;
      flare_b = no_flare;
      terms = 0;
      side = zero32;
      residual_rms = zero32;
      rejected = 0;
      kept = 0;
    }

-- A colour, a noise record and a model as words of a row. Definitions only.
use Rattle.std.specs.Prelude.{Bool, false, cond, List, [], ◌∷◌, ℕ, ◌+◌, ◌*◌, ◌%◌, ◌^◌, pos, length, get_or, drop, set, replicate, Float}
use Rattle.std.specs.Float.{fin, binary32, binary64}
use Rattle.std.specs.Float.Ieee.{of_bits, to_bits}
use Rattle.loops.specs.Loops.{for_up}
use Rattle.vectors.specs.Answers.{Placed, put}
use Rattle.vectors.specs.Slices.{store_at}
use Rattle.color.specs.declared.Linear.{Linear}
use Rattle.color.specs.declared.Lab.{Lab}
use Rattle.stats.specs.declared.ChannelStats.{ChannelStats}
use Rattle.illum.specs.Surface.{terms_used}
use Rattle.illum.specs.declared.IlluminationModel.{IlluminationModel}

-- ---- reading: what the word k places past a place stands for

abbrev pub count32_at : List ℕ → ℕ → ℕ → ℕ
count32_at row at k = get_or row (at + k) 0 % 2 ^ 32

abbrev pub single_at : List ℕ → ℕ → ℕ → Float
single_at row at k = of_bits binary32 (get_or row (at + k) 0 % 2 ^ 32)

abbrev pub double_at : List ℕ → ℕ → ℕ → Float
double_at row at k = of_bits binary64 (get_or row (at + k) 0)

unfoldable pub linear_at : List ℕ → ℕ → Linear
linear_at row at = record { r = single_at row at 0; g = single_at row at 1; b = single_at row at 2 }

unfoldable pub lab_at : List ℕ → ℕ → Lab
lab_at row at = record { l = single_at row at 0; a = single_at row at 1; b = single_at row at 2 }

-- STATS
unfoldable pub noise_at : List ℕ → ℕ → ChannelStats
noise_at row at =
    record {
      l0 = single_at row at 0;
      l1 = single_at row at 1;
      sigma_l = single_at row at 2;
      sigma_ab = single_at row at 3;
      sigma_ab_dark = single_at row at 4;
      sigma_ab_light = single_at row at 5;
      samples = count32_at row at 6;
    }

unfoldable pub affine_at : List ℕ → ℕ → ℕ → List Float
affine_at row at k = double_at row at k ∷ double_at row at (k + 1) ∷ double_at row at (k + 2) ∷ double_at row at (k + 3) ∷ []

unfoldable pub coefficient_at : List ℕ → ℕ → ℕ → ℕ → List Float → List Float
coefficient_at row at k j c = set c j (double_at row at (k + j))

-- the w coefficients of a surface that begins at word k, and +0 past them
unfoldable pub surface_at : List ℕ → ℕ → ℕ → ℕ → List Float
surface_at row at k w = for_up 0 w (coefficient_at row at k) (replicate 9 (fin false 0 (pos 0)))

-- ---- taking: what words begin with

-- the width that the surfaces of the model have: 4, or else 9
abbrev pub width_taken : List ℕ → ℕ
width_taken row = terms_used (get_or row 5 0)

abbrev pub affine_of : List ℕ → List Float
affine_of row = affine_at row 0 0

abbrev pub surface_of : List ℕ → ℕ → List Float
surface_of row w = surface_at row 0 0 w

-- MODEL, with surfaces of width w
unfoldable pub model_taken : List ℕ → ℕ → IlluminationModel
model_taken row w =
    record {
      affine_r = affine_of (drop 6 row);
      affine_g = affine_of (drop 10 row);
      affine_b = affine_of (drop 14 row);
      gain_r = surface_of (drop 18 row) w;
      gain_g = surface_of (drop (18 + w) row) w;
      gain_b = surface_of (drop (18 + 2 * w) row) w;
      flare_r = surface_of (drop (18 + 3 * w) row) w;
      flare_g = surface_of (drop (18 + 4 * w) row) w;
      flare_b = surface_of (drop (18 + 5 * w) row) w;
      terms = get_or row 0 0;
      side = single_at row 0 1;
      residual_rms = single_at row 0 2;
      rejected = count32_at row 0 3;
      kept = count32_at row 0 4;
    }

-- ---- answers: words put into a row

-- words, one after the other
abbrev pub put_words : List ℕ → Placed → Placed
put_words words p = for_up 0 (length words) (store_at (λ w. w) 0 words) p

unfoldable pub linear_words : Linear → List ℕ
linear_words c = to_bits binary32 c.r ∷ to_bits binary32 c.g ∷ to_bits binary32 c.b ∷ []

-- STATS
unfoldable pub noise_words : ChannelStats → List ℕ
noise_words n =
    to_bits binary32 n.l0 ∷ to_bits binary32 n.l1 ∷ to_bits binary32 n.sigma_l ∷ to_bits binary32 n.sigma_ab
    ∷ to_bits binary32 n.sigma_ab_dark ∷ to_bits binary32 n.sigma_ab_light ∷ n.samples ∷ []

-- one word more where something is not as it should be
unfoldable pub put_other : Bool → Placed → Placed
put_other b p = cond b (put 1 p) p

-- what a model with surfaces of width n has before its coefficients
unfoldable pub head_words : IlluminationModel → ℕ → List ℕ
head_words m n = m.terms ∷ to_bits binary32 m.side ∷ to_bits binary32 m.residual_rms ∷ m.rejected ∷ m.kept ∷ n ∷ []

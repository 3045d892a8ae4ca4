-- What a call of the stage answers, put as words one after the other: a model, and a scratch that was filled before and is afterwards
-- zero in front. Definitions only.
use Rattle.std.specs.Prelude.{Bool, not, List, ℕ, ◌==◌, length, take, drop, take_while, Float}
use Rattle.std.specs.List.{list_any}
use Rattle.std.specs.Float.{nan, binary32, binary64}
use Rattle.std.specs.Float.Ieee.{to_bits}
use Rattle.vectors.specs.Answers.{Placed, put}
use Rattle.vectors.specs.Slices.{put_all}
use Rattle.illum.specs.Surface.{terms_used}
use Rattle.illum.specs.declared.IlluminationModel.{IlluminationModel}
use Rattle.stage_words.specs.Records.{put_words, head_words, put_other}

-- whether one of a list has another word
abbrev pub any_other : {A : Type 0} → (A → ℕ) → ℕ → List A → Bool
any_other word_of w = list_any (λ x. not (word_of x == w))

-- the first n of nine coefficients, and one word more where one of the others is not +0
unfoldable pub put_surface : List Float → ℕ → Placed → Placed
put_surface c n p = put_other (any_other (to_bits binary64) 0 (drop n c)) (put_all (to_bits binary64) nan (take n c) p)

abbrev pub put_affine : IlluminationModel → Placed → Placed
put_affine m p = put_all (to_bits binary64) nan m.affine_b (put_all (to_bits binary64) nan m.affine_g (put_all (to_bits binary64) nan m.affine_r p))

-- MODEL, with surfaces of width n
unfoldable pub put_model_of : IlluminationModel → ℕ → Placed → Placed
put_model_of m n p =
    put_surface m.flare_b n
    (put_surface m.flare_g n
    (put_surface m.flare_r n
    (put_surface m.gain_b n (put_surface m.gain_g n (put_surface m.gain_r n (put_affine m (put_words (head_words m n) p)))))))

-- with those of 4 coefficients where the model has 4 terms
abbrev pub put_model : IlluminationModel → Placed → Placed
put_model m p = put_model_of m (terms_used m.terms) p

-- how many elements, from the first on, are +0
unfoldable pub zeros : List Float → ℕ
zeros values = length (take_while (λ x. to_bits binary32 x == 0) values)

-- the zeros in front, and one word more where one of the rest is not v
unfoldable pub put_scratch : List Float → Float → Placed → Placed
put_scratch scratch v p = put_other (any_other (to_bits binary32) (to_bits binary32 v) (drop (zeros scratch) scratch)) (put (zeros scratch) p)

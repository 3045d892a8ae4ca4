-- Sentence 10, and what the calls `identity` and `correct` answer. Definitions only.
use Rattle.std.specs.Prelude.{ℕ, Bool, not, ◌&&◌, ◌||◌, List, [], ◌∷◌, pos, ◌==◌, slice_index_or, Float, Result, Ok, Err}
use Rattle.std.specs.Float.{nan, binary32}
use Rattle.std.specs.Float.Ieee.{le, eq, of_int, to_unsigned}
use Rattle.std.specs.Float.Ieee.Scale.{finite}
use Rattle.loops.specs.Loops.{any_up}
use Rattle.sentences.specs.Sentences.{Sentence, ◌when◌, refusal, decided}
use Rattle.limits.specs.Limits.{bad_side}
use Rattle.answers.specs.declared.refusal.Refusal.{Refusal}
use Rattle.answers.specs.Answers.{number_of, Said, answered}
use Rattle.color.specs.declared.Linear.{Linear}
use Rattle.color.specs.Palette.{wild_linear}
use Rattle.illum.specs.declared.IlluminationModel.{IlluminationModel}
use Rattle.illum.specs.declared.Marked.{Marked}
use Rattle.illum.specs.Surface.{terms_used}
use Rattle.illum.specs.Correct.{corrected, unit_model, no_model}

-- ---- 10: "A model's terms are neither 4 nor 9, its side is not a whole number from 1 to 1,024, or one of its numbers is not finite."

abbrev pub not_finite : Float → Bool
not_finite v = not (finite v)

unfoldable pub bad_terms : ℕ → Bool
bad_terms terms = not (terms == 4 || terms == 9)

-- a whole number from 1 to 1,024 lies between them, and is equal to itself without its fraction
unfoldable pub bad_model_side : Float → Bool
bad_model_side s =
    not (le (of_int binary32 (pos 1)) s && (le s (of_int binary32 (pos 1024)) && eq (of_int binary32 (pos (to_unsigned 64 s))) s))

abbrev pub not_finite_at : List Float → ℕ → Bool
not_finite_at l k = not_finite (slice_index_or l k nan)

-- one of the first n numbers of a list is not finite
abbrev pub not_finite_up_to : ℕ → List Float → Bool
not_finite_up_to n l = any_up 0 n (not_finite_at l)

-- one of three rows of the affine part
abbrev pub not_finite_rows : List Float → List Float → List Float → Bool
not_finite_rows r g b = not_finite_up_to 4 r || not_finite_up_to 4 g || not_finite_up_to 4 b

abbrev pub not_finite_surface : ℕ → List Float → Bool
not_finite_surface terms c = not_finite_up_to (terms_used terms) c

-- one of three surfaces with so many terms
abbrev pub not_finite_surfaces : ℕ → List Float → List Float → List Float → Bool
not_finite_surfaces terms r g b = not_finite_surface terms r || not_finite_surface terms g || not_finite_surface terms b

unfoldable pub not_finite_affine : IlluminationModel → Bool
not_finite_affine m = not_finite_rows m.affine_r m.affine_g m.affine_b

unfoldable pub not_finite_gains : IlluminationModel → Bool
not_finite_gains m = not_finite_surfaces m.terms m.gain_r m.gain_g m.gain_b

unfoldable pub not_finite_flares : IlluminationModel → Bool
not_finite_flares m = not_finite_surfaces m.terms m.flare_r m.flare_g m.flare_b

-- one of the model's numbers is not finite; coefficients past its terms are no numbers of the model, and its side is looked at by itself
unfoldable pub not_finite_model : IlluminationModel → Bool
not_finite_model m = not_finite_affine m || not_finite_gains m || not_finite_flares m || not_finite m.residual_rms

unfoldable pub bad_shape : IlluminationModel → Bool
bad_shape m = bad_terms m.terms || bad_model_side m.side

unfoldable pub bad_model : IlluminationModel → Bool
bad_model m = bad_shape m || not_finite_model m

-- ---- calls that answer a model

-- what such a call says: document 01's number, 0 where it is accepted, and the model, all zeros where it is refused
pub record Modelled : Type 0 where
  pub number : ℕ
  pub model : IlluminationModel

abbrev pub modelled : ℕ → IlluminationModel → Modelled
modelled n m = record { number = n; model = m }

-- refused by sentence n: no model
abbrev pub refused_model : ℕ → Modelled
refused_model n = modelled n no_model

-- what its result says
abbrev pub model_said : Result IlluminationModel Refusal → Modelled
model_said (Ok m) = modelled 0 m
model_said (Err r) = refused_model (number_of r)

-- ---- identity: 2

unfoldable pub identity_of : ℕ → Modelled
identity_of side = decided (refusal ((2 when bad_side side) ∷ [])) refused_model (modelled 0 (unit_model side 4))

-- ---- correct: 8, 10

-- in checking order; 8 is of the colour's components
unfoldable pub sentences_of : IlluminationModel → Linear → List Sentence
sentences_of m c = (8 when wild_linear c) ∷ (10 when bad_model m) ∷ []

unfoldable pub correct_of : IlluminationModel → Float → Float → Linear → Said Marked
correct_of m x y c = answered (sentences_of m c) (corrected m x y c)

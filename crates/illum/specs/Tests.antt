-- Whether a number of a model passes a test. Definitions only.
use Rattle.std.specs.Prelude.{◌≡◌, ℕ, Bool, ◌||◌, List, slice_index_or, Float}
use Rattle.std.specs.Float.{nan}
use Rattle.loops.specs.Loops.{any_up}
use Rattle.illum.specs.declared.IlluminationModel.{IlluminationModel}
use Rattle.illum.specs.Surface.{terms_used}

abbrev pub passes_at : (Float → Bool) → List Float → ℕ → Bool
passes_at p l k = p (slice_index_or l k nan)

-- one of the first n numbers does
abbrev pub any_first : (Float → Bool) → ℕ → List Float → Bool
any_first p n l = any_up 0 n (passes_at p l)

abbrev pub any_of_rows : (Float → Bool) → IlluminationModel → Bool
any_of_rows p m = any_first p 4 m.affine_r || any_first p 4 m.affine_g || any_first p 4 m.affine_b

abbrev pub any_of_gains : (Float → Bool) → IlluminationModel → Bool
any_of_gains p m = any_first p (terms_used m.terms) m.gain_r || any_first p (terms_used m.terms) m.gain_g || any_first p (terms_used m.terms) m.gain_b

abbrev pub any_of_flares : (Float → Bool) → IlluminationModel → Bool
any_of_flares p m = any_first p (terms_used m.terms) m.flare_r || any_first p (terms_used m.terms) m.flare_g || any_first p (terms_used m.terms) m.flare_b

-- one of the affine part, or of the surfaces among their terms
abbrev pub any_of_model : (Float → Bool) → IlluminationModel → Bool
any_of_model p m = any_of_rows p m || any_of_gains p m || any_of_flares p m

-- p is the test that gives these answers
abbrev pub Answers : (Float → Bool → Type 0) → (Float → Bool) → Type 0
Answers Gives p = (x : Float) (b : Bool) → Gives x b → b ≡ p x

-- r says whether one of the first n numbers passes the test that gives these answers, whatever test that is
abbrev pub AnyBy : (Float → Bool → Type 0) → ℕ → List Float → Bool → Type 0
AnyBy Gives n l r = (p : Float → Bool) → Answers Gives p → r ≡ any_first p n l

-- and so of a model
abbrev pub AnyOfModel : (Float → Bool → Type 0) → IlluminationModel → Bool → Type 0
AnyOfModel Gives m r = (p : Float → Bool) → Answers Gives p → r ≡ any_of_model p m

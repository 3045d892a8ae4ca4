-- References as flat floats, eight each: x, y, the observed colour, the nominal colour; sentences 7 and 8 of them; the scratch that goes with them. Definitions only.
use Rattle.std.specs.Prelude.{◌≡◌, Bool, not, ◌||◌, ◌&&◌, List, [], ◌∷◌, ℕ, ◌+◌, ◌*◌, ltb, pos, get_or, Float}
use Rattle.std.specs.Float.{nan, binary32}
use Rattle.std.specs.Float.Ieee.{le, neg, of_int}
use Rattle.loops.specs.Loops.{any_up}
use Rattle.sentences.specs.Sentences.{Sentence, ◌when◌}
use Rattle.color.specs.declared.Linear.{Linear}
use Rattle.color.specs.Palette.{wild_at}
use Rattle.illum.specs.declared.Spot.{Spot}
use Rattle.illum.specs.Refusals.{not_finite_at}
use Rattle.references.specs.declared.Primary.{Primary}
use Rattle.references.specs.declared.Primary.TheVariants.{Red, Green, Blue}

-- ---- what stands where

-- the place of a channel among the three
abbrev pub place_of : Primary → ℕ
place_of Red = 0
place_of Green = 1
place_of Blue = 2

abbrev pub x_at : List Float → ℕ → Float
x_at flat i = get_or flat (8 * i) nan

abbrev pub y_at : List Float → ℕ → Float
y_at flat i = get_or flat (8 * i + 1) nan

-- channel c of the observed and of the nominal colour, c being 0, 1 or 2
abbrev pub observed_of : List Float → ℕ → ℕ → Float
observed_of flat c i = get_or flat (8 * i + 2 + c) nan

abbrev pub nominal_of : List Float → ℕ → ℕ → Float
nominal_of flat c i = get_or flat (8 * i + 5 + c) nan

-- the colour whose channels stand from the place `at` of reference i on
abbrev pub colour_at : List Float → ℕ → ℕ → Linear
colour_at flat at i = record { r = get_or flat (8 * i + at + 0) nan; g = get_or flat (8 * i + at + 1) nan; b = get_or flat (8 * i + at + 2) nan }

abbrev pub observed_at : List Float → ℕ → Linear
observed_at flat i = record { r = observed_of flat 0 i; g = observed_of flat 1 i; b = observed_of flat 2 i }

abbrev pub nominal_at : List Float → ℕ → Linear
nominal_at flat i = record { r = nominal_of flat 0 i; g = nominal_of flat 1 i; b = nominal_of flat 2 i }

-- where it stands, and its observed colour
abbrev pub seen_at : List Float → ℕ → Spot
seen_at flat i = record { x = x_at flat i; y = y_at flat i; colour = observed_at flat i }

-- ---- 7: "A reference position is not a number from -16 to side + 16"

unfoldable pub bad_position : ℕ → Float → Bool
bad_position side v = not (le (neg (of_int binary32 (pos 16))) v && le v (of_int binary32 (pos (side + 16))))

unfoldable pub misplaced_at : ℕ → List Float → ℕ → Bool
misplaced_at side flat i = bad_position side (x_at flat i) || bad_position side (y_at flat i)

abbrev pub bad_positions : ℕ → List Float → ℕ → Bool
bad_positions side flat n = any_up 0 n (misplaced_at side flat)

-- ---- 8, of all calls

-- r says whether a float from the place `from` on and below `to` is as a test says whose answers are those that Gives has
abbrev pub Seeks : (Float → Bool → Type 0) → List Float → ℕ → ℕ → Bool → Type 0
Seeks Gives flat from to r = (f : Float → Bool) → ((x : Float) (b : Bool) → Gives x b → b ≡ f x) → r ≡ any_up from to (λ k. f (get_or flat k nan))

-- ---- 8, of `fit`: "`fit` refuses reference colours only where they are not finite"

-- one of the six components
unfoldable pub bad_colour_at : List Float → ℕ → Bool
bad_colour_at flat i = any_up (8 * i + 2) (8 * i + 8) (not_finite_at flat)

abbrev pub bad_colours : List Float → ℕ → Bool
bad_colours flat n = any_up 0 n (bad_colour_at flat)

-- ---- 8, of other calls: "A colour .. is not finite or has magnitude above 1,048,576"

unfoldable pub wild_colour_at : List Float → ℕ → Bool
wild_colour_at flat i = any_up (8 * i + 2) (8 * i + 8) (wild_at flat)

abbrev pub wild_colours : List Float → ℕ → Bool
wild_colours flat n = any_up 0 n (wild_colour_at flat)

-- ---- 5: "`fit` and `measure` are lent scratch of 4 × references f32"

-- scratch of `lent` floats is shorter than 4 × n
unfoldable pub short_scratch : ℕ → ℕ → Bool
short_scratch lent n = ltb lent (4 * n)

-- ---- 6: "There are more than 16,384 references"

unfoldable pub too_many : ℕ → Bool
too_many n = ltb 16384 n

-- ---- 6 and 7 as a group, which the lists of `fit` and `measure` are joined from

unfoldable pub reference_placement : ℕ → List Float → ℕ → List Sentence
reference_placement side flat n = (6 when too_many n) ∷ (7 when bad_positions side flat n) ∷ []

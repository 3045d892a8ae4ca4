-- The noise record measured from references of known colour: `measure` of demod.rs, and the refusals of `measure_flat` and `measure_counted`. Definitions only.
use Rattle.std.specs.Prelude.{Bool, true, false, cond, not, ◌||◌, ◌&&◌, List, [], ◌∷◌, ◌++◌, map, ℕ, zero, suc, ◌*◌, ◌/◌, ◌%◌, ltb, leb, eqb, length, Float}
use Rattle.std.specs.Float.{binary32}
use Rattle.std.specs.Float.Ieee.{add, sub, div, le, lt}
use Rattle.loops.specs.Loops.{any_up, count_up}
use Rattle.sentences.specs.Sentences.{Sentence, ◌when◌, refusal, decided}
use Rattle.limits.specs.Limits.{bad_side, bad_hues}
use Rattle.answers.specs.Answers.{Said, refused_by, gives}
use Rattle.float.specs.Select.{abs, max}
use Rattle.color.specs.declared.Linear.{Linear}
use Rattle.color.specs.declared.Lab.{Lab}
use Rattle.color.specs.Color.{whole, fraction, linear_to_lab, chroma, ab_distance}
use Rattle.color.specs.Palette.{level_l, wild_linear, wild_palette}
use Rattle.order.specs.Median.{median_of}
use Rattle.order.specs.Deviation.{sigma_of, cleared}
use Rattle.illum.specs.declared.IlluminationModel.{IlluminationModel}
use Rattle.illum.specs.Correct.{corrected, held_at}
use Rattle.illum.specs.Refusals.{bad_model}
use Rattle.measure.specs.declared.Measurement.{Measurement}
use Rattle.stats.specs.declared.ChannelStats.{ChannelStats}
use Rattle.stats.specs.Noise.{nominal}
use Rattle.stats.specs.Calls.{short_palette}
use Rattle.references.specs.References.{x_at, y_at, observed_at, nominal_at, wild_colours, short_scratch, reference_placement}

-- ---- one reference

-- its observed colour, corrected by the model
unfoldable pub corrected_at : IlluminationModel → List Float → ℕ → Linear
corrected_at m flat i = (corrected m (x_at flat i) (y_at flat i) (observed_at flat i)).colour

unfoldable pub corrected_lab : IlluminationModel → List Float → ℕ → Lab
corrected_lab m flat i = linear_to_lab (corrected_at m flat i)

unfoldable pub nominal_lab : List Float → ℕ → Lab
nominal_lab flat i = linear_to_lab (nominal_at flat i)

-- the lightness between the palette's two levels
unfoldable pub middle : List Float → Float
middle palette = div binary32 (add binary32 (level_l palette 0) (level_l palette 1)) (whole 2)

-- whether a nominal colour is of the light level: `nominal.l >= mid`
unfoldable pub is_light : List Float → Lab → Bool
is_light palette nominal = le (middle palette) nominal.l

-- the lightness of its level
unfoldable pub level_at : List Float → Lab → Float
level_at palette nominal = cond (is_light palette nominal) (level_l palette 1) (level_l palette 0)

-- whether its lightness is at most 12 from that of its level: MAX_LEVEL_DEVIATION
unfoldable pub at_level : List Float → Lab → Bool
at_level palette nominal = le (abs (sub binary32 nominal.l (level_at palette nominal))) (whole 12)

-- whether it says anything about chroma noise: `nominal.chroma() > 20.0`
unfoldable pub colourful : Lab → Bool
colourful nominal = lt (whole 20) (chroma nominal)

-- ---- the lists, in the order of the references

-- f at those of k numbers from i on at which p holds
unfoldable pub picked : ℕ → ℕ → (ℕ → Bool) → (ℕ → Float) → List Float
picked zero i p f = []
picked (suc k) i p f = let rest = picked k (suc i) p f in cond (p i) (f i ∷ rest) rest

-- whether a level is that of the light references, or of the dark ones
abbrev pub same_level : Bool → Bool → Bool
same_level true light = light
same_level false light = not light

unfoldable pub lightness_at : IlluminationModel → List Float → ℕ → Float
lightness_at m flat i = (corrected_lab m flat i).l

unfoldable pub error_at : IlluminationModel → List Float → ℕ → Float
error_at m flat i = ab_distance (corrected_lab m flat i) (nominal_lab flat i)

-- which references count for a level's lightness, for the chroma noise, and for that of a level
unfoldable pub for_level : Bool → List Float → Lab → Bool
for_level light palette nominal = at_level palette nominal && same_level light (is_light palette nominal)

unfoldable pub for_level_chroma : Bool → List Float → Lab → Bool
for_level_chroma light palette nominal = colourful nominal && same_level light (is_light palette nominal)

-- the Rust's `dark` and `light`: the corrected lightness of the references of a level
abbrev pub level_of : Bool → IlluminationModel → List Float → List Float → ℕ → List Float
level_of light m palette flat n = picked n 0 (λ i. for_level light palette (nominal_lab flat i)) (lightness_at m flat)

abbrev pub dark_of : IlluminationModel → List Float → List Float → ℕ → List Float
dark_of m palette flat n = level_of false m palette flat n

abbrev pub light_of : IlluminationModel → List Float → List Float → ℕ → List Float
light_of m palette flat n = level_of true m palette flat n

-- `ab_err`: how far the colourful references are from their nominal colours in the plane of a and b
abbrev pub errors_of : IlluminationModel → List Float → ℕ → List Float
errors_of m flat n = picked n 0 (λ i. colourful (nominal_lab flat i)) (error_at m flat)

-- `ab_level`: those of a level
abbrev pub level_errors_of : Bool → IlluminationModel → List Float → List Float → ℕ → List Float
level_errors_of light m palette flat n = picked n 0 (λ i. for_level_chroma light palette (nominal_lab flat i)) (error_at m flat)

-- ---- the record

-- MIN_SIGMA_L and MIN_SIGMA_AB
abbrev pub least_sigma : Float
least_sigma = fraction 75 100

-- the distances of the lightnesses from their level's median, the dark ones first
abbrev pub less : Float → Float → Float
less l v = sub binary32 v l

abbrev pub spread_about : Float → Float → List Float → List Float → List Float
spread_about l0 l1 dark light = map (less l0) dark ++ map (less l1) light

-- the scaled median absolute deviation, at least 0.75
abbrev pub raised_sigma : List Float → Float
raised_sigma xs = max (sigma_of xs) least_sigma

-- the luma noise
unfoldable pub luma_sigma : Float → Float → List Float → List Float → Float
luma_sigma l0 l1 dark light = raised_sigma (spread_about l0 l1 dark light)

-- the chroma noise of errors; `other` where there are fewer than `least` of them
unfoldable pub chroma_sigma : ℕ → Float → List Float → Float
chroma_sigma least other errors = cond (ltb (length errors) least) other (raised_sigma errors)

-- the record of the levels' medians and the five lists
unfoldable pub figures_of : ℕ → Float → Float → List Float → List Float → List Float → List Float → List Float → ChannelStats
figures_of n l0 l1 dark light errors darkErrors lightErrors =
    record {
      l0 = l0;
      l1 = l1;
      sigma_l = luma_sigma l0 l1 dark light;
      sigma_ab = chroma_sigma 1 least_sigma errors;
      sigma_ab_dark = chroma_sigma 8 (whole 0) darkErrors;
      sigma_ab_light = chroma_sigma 8 (whole 0) lightErrors;
      samples = n;
    }

-- "2 of a level gives `nominal`; 3 do"
unfoldable pub record_of : List Float → ℕ → List Float → List Float → List Float → List Float → List Float → ChannelStats
record_of palette n dark light errors darkErrors lightErrors =
    cond (ltb (length dark) 3 || ltb (length light) 3) (nominal palette)
    (figures_of n (median_of dark) (median_of light) dark light errors darkErrors lightErrors)

-- of n references, 8 or more
unfoldable pub measured_of : IlluminationModel → List Float → List Float → ℕ → ChannelStats
measured_of m palette flat n =
    record_of palette n (dark_of m palette flat n) (light_of m palette flat n) (errors_of m flat n) (level_errors_of false m palette flat n)
    (level_errors_of true m palette flat n)

-- under 8 references: `nominal`
unfoldable pub measured : IlluminationModel → List Float → List Float → ℕ → ChannelStats
measured m palette flat n = cond (ltb n 8) (nominal palette) (measured_of m palette flat n)

-- ---- the references that have a mark

-- whether reference i has one: a channel's gain, where it stands, was held
unfoldable pub held_reference : IlluminationModel → List Float → ℕ → Bool
held_reference m flat i = held_at m (x_at flat i) (y_at flat i)

-- how many of n, all of which are corrected
abbrev pub held_of : IlluminationModel → List Float → ℕ → ℕ
held_of m flat n = count_up 0 n (held_reference m flat)

-- "`measure` with under 8 references corrects none"
unfoldable pub held_count : IlluminationModel → List Float → ℕ → ℕ
held_count m flat n = cond (ltb n 8) 0 (held_of m flat n)

-- the record, and the count
abbrev pub measurement : IlluminationModel → List Float → List Float → ℕ → Measurement
measurement m palette flat n = record { noise = measured m palette flat n; held = held_count m flat n }

-- ---- the calls

-- what a call is handed: n references in flat floats, of which the last is cut off where `cut`
pub record Request : Type 0 where
  pub flat : List Float
  pub cut : Bool
  pub n : ℕ
  pub side : ℕ
  pub model : IlluminationModel
  pub palette : List Float
  pub hues : ℕ
  pub scratch : List Float

abbrev pub request : List Float → Bool → ℕ → ℕ → IlluminationModel → List Float → ℕ → List Float → Request
request flat cut n side model palette hues scratch =
    record { flat = flat; cut = cut; n = n; side = side; model = model; palette = palette; hues = hues; scratch = scratch }

-- eight floats a reference
abbrev pub flat_request : List Float → ℕ → IlluminationModel → List Float → ℕ → List Float → Request
flat_request flat side model palette hues scratch =
    request flat (not (eqb (length flat % 8) 0)) (length flat / 8) side model palette hues scratch

-- 5: the last reference is cut off, or the palette or the scratch is too short
unfoldable pub too_short : Bool → List Float → ℕ → ℕ → ℕ → Bool
too_short cut palette hues lent n = cut || (short_palette palette hues || short_scratch lent n)

-- 8: a colour of a reference or a palette number is wild
unfoldable pub wild_numbers : List Float → ℕ → List Float → ℕ → Bool
wild_numbers flat n palette hues = wild_colours flat n || wild_palette palette hues

-- 12: "A corrected colour of a .. measured reference is not finite or has magnitude above 1,048,576."
unfoldable pub wild_corrected_at : IlluminationModel → List Float → ℕ → Bool
wild_corrected_at m flat i = wild_linear (corrected_at m flat i)

abbrev pub wild_corrected : IlluminationModel → List Float → ℕ → Bool
wild_corrected m flat n = any_up 0 n (wild_corrected_at m flat)

-- "`measure` with under 8 references corrects none"
unfoldable pub bad_corrected : IlluminationModel → List Float → ℕ → Bool
bad_corrected m flat n = leb 8 n && wild_corrected m flat n

-- in checking order
unfoldable pub sentences_for : List Float → Bool → ℕ → ℕ → IlluminationModel → List Float → ℕ → ℕ → List Sentence
sentences_for flat cut n side m palette hues lent =
    (2 when bad_side side) ∷
    (3 when bad_hues hues) ∷
    (5 when too_short cut palette hues lent n) ∷
    (reference_placement side flat n ++
    ((8 when wild_numbers flat n palette hues) ∷
    (10 when bad_model m) ∷
    (12 when bad_corrected m flat n) ∷
    []))

abbrev pub sentences_of : Request → List Sentence
sentences_of q = sentences_for q.flat q.cut q.n q.side q.model q.palette q.hues (length q.scratch)

-- what it gives back: what its answer says, and the scratch
pub record Final : Type 0 where
  pub said : Said Measurement
  pub scratch : List Float

abbrev pub final : Said Measurement → List Float → Final
final r scratch = record { said = r; scratch = scratch }

-- refused by sentence n: nothing changes
abbrev pub turned_away : Request → ℕ → Final
turned_away q n = final (refused_by n) q.scratch

-- accepted: the scratch of 4 × references is all zero, and its tail stays
abbrev pub done : Request → Final
done q = final (gives (measurement q.model q.palette q.flat q.n)) (cleared (4 * q.n) q.scratch)

unfoldable pub measure_of : Request → Final
measure_of q = decided (refusal (sentences_of q)) (turned_away q) (done q)

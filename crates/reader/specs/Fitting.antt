-- Document 01: the program "fits, measures, scores, refines and prints". The first two calls, and what follows them. Definitions only.
use Rattle.std.specs.Prelude.{◌≡◌, List, ℕ, ◌*◌, ◌/◌, ◌^◌, ◌<◌, length, replicate, Float}
use Rattle.std.proofs.Math.Option.{Option, none, some}
use Rattle.sentences.specs.Sentences.{decided}
use Rattle.listing.specs.Text.{text, written}
use Rattle.listing.specs.Listing.{refused_line}
use Rattle.illum.specs.declared.IlluminationModel.{IlluminationModel}
use Rattle.illum.specs.Refusals.{Modelled}
use Rattle.fit.specs.Fit as fitting
use Rattle.fit.specs.Fit.{fit_of}
use Rattle.measure.specs.declared.Measurement.{Measurement}
use Rattle.measure.specs.Measure as measuring
use Rattle.measure.specs.Measure.{measure_of}
use Rattle.readout.specs.Sheet.{Sheet}
use Rattle.readout.specs.Reading.{zeros, score_text}

-- "`fit` and `measure` are lent scratch of 4 × references f32"
abbrev pub scratch_of : List Float → List Float
scratch_of references = zeros (4 * (length references / 8))

abbrev pub to_measure : Sheet → List Float → IlluminationModel → measuring.Request
to_measure c references m = measuring.flat_request references c.settings.side m c.palette c.settings.hues (scratch_of references)

-- by what the measurement says: its number n, and the record that it gives
unfoldable pub after_measuring : Sheet → IlluminationModel → ℕ → Option Measurement → List ℕ
after_measuring c m n none = refused_line n
after_measuring c m n (some r) = score_text c m r.noise

unfoldable pub measure_text : Sheet → List Float → IlluminationModel → List ℕ
measure_text c references m =
    let said = (measure_of (to_measure c references m)).said in
    after_measuring c m said.number said.value

-- a mark a reference
abbrev pub marks_of : List Float → List ℕ
marks_of references = replicate (length references / 8) 0

abbrev pub to_fit : Sheet → List Float → fitting.Request
to_fit c references = fitting.flat_request references c.settings.side c.settings.version (marks_of references) (scratch_of references)

abbrev pub fitted : Sheet → List Float → Modelled
fitted c references = (fit_of (to_fit c references)).answer

-- the numbers of a fit are of the code's types
pub record Typed (r : Modelled) : Type 0 where
  pub number : r.number < 2 ^ 32
  pub terms : r.model.terms < 2 ^ 64
  pub kept : r.model.kept < 2 ^ 32
  pub rejected : r.model.rejected < 2 ^ 32

-- the numbers of a model are
pub record TypedModel (m : IlluminationModel) : Type 0 where
  pub terms : m.terms < 2 ^ 64
  pub kept : m.kept < 2 ^ 32
  pub rejected : m.rejected < 2 ^ 32

unfoldable pub after_fitting : Sheet → List Float → Modelled → List ℕ
after_fitting c references r = decided r.number refused_line (measure_text c references r.model)

-- the text of a card and its references
unfoldable pub fit_text : Sheet → List Float → List ℕ
fit_text c references = after_fitting c references (fitted c references)

-- what reading it leaves: its text, from the slice's beginning; and the numbers of its fit are of the code's types
pub record Listed (c : Sheet) (references : List Float) (r : ℕ) (before after : List ℕ) : Type 0 where
  pub listed : text r after ≡ written (fit_text c references) (text 0 before)
  pub typed : Typed (fitted c references)

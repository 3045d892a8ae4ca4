-- A card whose fit, measurement and scoring are accepted is listed: the floats of a file are f32, so the measured noise record holds f32 values, and then
-- nothing after scoring is refused. Assumes nothing.
use mathlib.Core.Path.{◌≡◌}
use mathlib.Core.List.{List}
use Prim.Native.Nat.{ℕ, ◌+◌, ◌*◌, ◌/◌, ◌%◌}
use lib.Dec.{T}
use lib.ListN.{get_or}
use lib.Ieee.{Float, nan, binary32, fits}
use lib.Ieee.Bits.{of_bits-fits}
use Rattle.sentences.specs.Sentences.{decided}
use Rattle.answers.specs.Answers.{gives}
use Rattle.card.specs.declared.Card.{Card}
use Rattle.card.specs.Number.{u32_at, f32_at}
use Rattle.card.specs.Sections.{float_at, component_at}
use Rattle.card.specs.File.{opened}
use Rattle.illum.specs.declared.IlluminationModel.{IlluminationModel}
use Rattle.measure.specs.declared.Measurement.{Measurement}
use Rattle.measure.specs.Measure.{measure_of}
use Rattle.measure.proofs.Passes.{F32, answered-passes}
use Rattle.guarantee.specs.Card.{scored_card}
use Rattle.readout.specs.Sheet.{Sheet}
use Rattle.readout.specs.Reading.{setting_of, card_of, listing_of}
use Rattle.readout.proofs.Never.{is_listed}
use Rattle.reader.specs.File.{list_of, floats_of, colours_of, sheet_of, references_of}
use Rattle.reader.specs.Fitting.{to_measure, fitted, after_measuring, measure_text, after_fitting, fit_text}
use Rattle.reader.specs.Text.{after_opening, card_text}
use Rattle.reader.proofs.Lists.{list-every}

-- ---- the floats of a file are f32

abbrev Single : Float → Type 0
Single v = T (fits binary32 v)

singles : (f : ℕ → Float) → ((i : ℕ) → Single (f i)) → (n i : ℕ) → Single (get_or (list_of f n) i nan)
unfolding fits
singles f h n i = list-every Single nan f tt h n i

pub floats-fit : (s : List ℕ) (at n : ℕ) → F32 (floats_of s at n)
unfolding f32_at
floats-fit s at n i = singles (float_at s at) (λ j. of_bits-fits binary32 (u32_at s (at + 4 * j))) n i

pub colours-fit : (s : List ℕ) (at n : ℕ) → F32 (colours_of s at n)
unfolding f32_at
colours-fit s at n i = singles (component_at s at) (λ j. of_bits-fits binary32 (u32_at s (at + 16 * (j / 3) + 4 + 4 * (j % 3)))) (3 * n) i

-- ---- the card

module _ (s : List ℕ) (card : Card) where
  abbrev sheet : Sheet
  sheet = sheet_of s card

  abbrev references : List Float
  references = references_of s card

  abbrev model : IlluminationModel
  model = (fitted sheet references).model

  pub card-listed : (r : Measurement) → opened 5 s ≡ gives card → (fitted sheet references).number ≡ 0 → (measure_of (to_measure sheet references model)).said ≡ gives r →
      (scored_card (setting_of sheet model r.noise) (card_of sheet)).number ≡ 0 → card_text s ≡ listing_of (setting_of sheet model r.noise) (card_of sheet)
  unfolding card_text after_opening fit_text after_fitting measure_text after_measuring decided sheet_of references_of
  card-listed r o f m d =
      let p = answered-passes (to_measure sheet references model) (floats-fit s card.references.at (8 * card.references.count)) (floats-fit s card.palette (2 + 8 * card.settings.hues)) r m in
      rw (o, f, m) (is_listed sheet model r.noise p.held d)

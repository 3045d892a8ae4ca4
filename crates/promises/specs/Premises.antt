-- Premises of the read guarantee (crate `guarantee`) that need not be asked: that the palette and the noise record of a card file hold f32 values, and that drawing is not refused where scoring
-- was accepted and the lent slices are long enough. Definitions only.
use Rattle.std.specs.Prelude.{◌≡◌, true, ◌⊎◌, List, ℕ, ◌+◌, ◌≤◌, length}
use Rattle.limits.specs.Chroma.{chroma_on}
use Rattle.answers.specs.Answers.{gives}
use Rattle.modulate.specs.Draw.{entries_of}
use Rattle.illum.specs.declared.IlluminationModel.{IlluminationModel}
use Rattle.measure.specs.declared.Measurement.{Measurement}
use Rattle.measure.specs.Measure.{measure_of}
use Rattle.guarantee.specs.Card.{Setting, Card, modules, chroma_scores, drawn_card, scored_card}
use Rattle.guarantee.specs.Guarantee.{Singles}
use Rattle.card.specs.declared.Card as opened
use Rattle.readout.specs.Reading.{setting_of}
use Rattle.reader.specs.File.{sheet_of, references_of}
use Rattle.reader.specs.Fitting.{to_measure}

-- ---- a card that `readcard` reads

-- of every file, and every model: where its references are measured, the palette and the record hold f32 values
abbrev pub ReadableAreSingles : Type 0
ReadableAreSingles =
    (s : List ℕ) (card : opened.Card) (m : IlluminationModel) (r : Measurement) →
    (measure_of (to_measure (sheet_of s card) (references_of s card) m)).said ≡ gives r → Singles (setting_of (sheet_of s card) m r.noise)

-- ---- drawing where scoring was accepted

-- what drawing is lent: a bit a module and a chroma score, room for a level a module and, with chroma on, for a hue a place of the chroma list
pub record DrawingRoom (s : Setting) (c : Card) : Type 0 where
  pub bits : modules s + chroma_scores s ≤ length c.bits
  pub levels : modules s ≤ length c.levels
  pub hues : chroma_on s.layout.hues ≡ true → entries_of s.layout (modules s) (length s.cxs) ≤ length c.drawn

-- drawing is refused by 5 or not at all, and is not refused exactly where it has that room
pub record RefusedByLength (s : Setting) (c : Card) : Type 0 where
  pub number : ((drawn_card s c).number ≡ 0) ⊎ ((drawn_card s c).number ≡ 5)
  pub drawn : DrawingRoom s c → (drawn_card s c).number ≡ 0
  pub room : (drawn_card s c).number ≡ 0 → DrawingRoom s c

-- the layout and the places are those of an accepted scoring
abbrev pub DrawingAfterScoring : Type 0
DrawingAfterScoring = (s : Setting) (c : Card) → (scored_card s c).number ≡ 0 → RefusedByLength s c

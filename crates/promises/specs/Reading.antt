-- From scores to a listing (crates `bits`, `readout` and `reader`): after an accepted scoring nothing is refused but by lengths, so the card is listed, and the listing always has room. Definitions only.
use Rattle.std.specs.Prelude.{◌≡◌, List, ℕ, ◌≤◌, length, take, drop}
use Rattle.illum.specs.declared.IlluminationModel.{IlluminationModel}
use Rattle.stats.specs.declared.ChannelStats.{ChannelStats}
use Rattle.measure.specs.declared.Measurement.{Measurement}
use Rattle.measure.specs.Measure.{measure_of}
use Rattle.refine.specs.Refine.{squares}
use Rattle.answers.specs.Answers.{gives}
use Rattle.guarantee.specs.Card.{Setting, Card, scored_card}
use Rattle.bits.specs.Reading.{read_of}
use Rattle.card.specs.declared.Card as opening
use Rattle.card.specs.File.{opened}
use Rattle.listing.specs.Text.{text, written}
use Rattle.readout.specs.Sheet.{Sheet}
use Rattle.readout.specs.Reading.{setting_of, card_of, listing_of, score_text}
use Rattle.reader.specs.File.{sheet_of, references_of}
use Rattle.reader.specs.Fitting.{to_measure, fitted}
use Rattle.reader.specs.Text.{card_text, listing_room}
use Rattle.promises.specs.Noise.{HeldAsSingles}

-- ---- reading and listing

-- what reading is lent: refinement's scratch, and a bit for each score that is lent
pub record ReadingRoom (s : Setting) (c : Card) : Type 0 where
  pub scratch : squares s.layout.side ≤ length c.scratch
  pub bits : length c.luma ≤ length c.luma_bits
  pub symbols : length c.chroma ≤ length c.chroma_bits

pub record AcceptedIsListed : Type 0 where
  -- no call after an accepted scoring is refused, where it has that room
  pub none-refused : (s : Setting) (c : Card) → HeldAsSingles s.noise → (scored_card s c).number ≡ 0 → ReadingRoom s c → (read_of s c).number ≡ 0
  -- so a card of a file is listed
  pub sheet : (c : Sheet) (m : IlluminationModel) (n : ChannelStats) → HeldAsSingles n → (scored_card (setting_of c m n) (card_of c)).number ≡ 0 → score_text c m n ≡ listing_of (setting_of c m n) (card_of c)
  -- the text of a card file that is opened, whose fit and measurement are accepted, and whose scoring is
  pub file : (s : List ℕ) (card : opening.Card) → let c = sheet_of s card in let references = references_of s card in let m = (fitted c references).model in (r : Measurement) →
      opened 5 s ≡ gives card → (fitted c references).number ≡ 0 → (measure_of (to_measure c references m)).said ≡ gives r → (scored_card (setting_of c m r.noise) (card_of c)).number ≡ 0 →
      card_text s ≡ listing_of (setting_of c m r.noise) (card_of c)

-- ---- the room

-- r and `after` are what `read_card` answers and leaves in `out`
pub record WholeText (s out after : List ℕ) (r : ℕ) : Type 0 where
  pub length_is : r ≡ length (card_text s)
  pub text_is : take r after ≡ card_text s
  pub kept : drop r after ≡ drop r out

-- by its contract, a slice of LISTING_ROOM bytes holds the whole text, and what is behind it stays
abbrev pub RoomForAll : Type 0
RoomForAll =
    (s out after : List ℕ) (r : ℕ) → text r after ≡ written (card_text s) (text 0 out) → length (card_text s) ≤ listing_room → listing_room ≤ length out → WholeText s out after r

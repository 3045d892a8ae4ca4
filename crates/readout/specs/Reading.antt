-- Document 01: the program "fits, measures, scores, refines and prints, or prints one line, `refused` and the number: .. that of the first call refused".
-- The calls from scoring on are those of `bits::read_bits`; of a card file they are lent slices that are all zero and just as long as they have to be. Definitions only.
use Rattle.std.specs.Prelude.{List, ℕ, ◌*◌, ◌≤◌, ℤ, length, replicate, Float}
use Rattle.std.specs.Float.{binary32}
use Rattle.std.specs.Float.Ieee.{of_bits}
use Rattle.sentences.specs.Sentences.{decided}
use Rattle.limits.specs.Chroma.{ring_modules, chroma_length}
use Rattle.layout.specs.declared.Layout.{Layout}
use Rattle.card.specs.declared.Settings.{Settings}
use Rattle.listing.specs.Listing.{listing, refused_line}
use Rattle.illum.specs.declared.IlluminationModel.{IlluminationModel}
use Rattle.stats.specs.declared.ChannelStats.{ChannelStats}
use Rattle.refine.specs.Refine.{squares}
use Rattle.guarantee.specs.Card.{Setting, Card, modules, scored_card, refined_card, luma_read, chroma_read}
use Rattle.bits.specs.Reading.{setting, card, read_of}
use Rattle.readout.specs.Sheet.{Sheet}

-- ---- the text of a card

-- "`L`: x, y, score before unmasking .., bit read. `C` lines follow: place in the chroma score list from 0, score, bit.": a luma score is listed as refinement left it
abbrev pub listing_of : Setting → Card → List ℕ
listing_of s c =
    let chroma = (scored_card s c).chroma in
    listing s.model.terms s.model.kept s.model.rejected (modules s) s.xs s.ys (refined_card s c).luma (luma_read s c).list (length chroma) chroma (chroma_read s c).list

-- what is listed is there: a place, a score and a bit a module, and a bit a chroma score
pub record Listable (xs ys : List ℤ) (luma chroma : List Float) (bits symbols : List ℕ) : Type 0 where
  pub ys_are : length xs ≤ length ys
  pub luma_is : length xs ≤ length luma
  pub bits_are : length xs ≤ length bits
  pub symbols_are : length chroma ≤ length symbols

-- the listing, or the line of the first call refused
unfoldable pub text_of : Setting → Card → List ℕ
text_of s c = decided (read_of s c).number refused_line (listing_of s c)

-- ---- the same of a card file, on lent slices that are all zero

-- n floats, and n bits, that a call is lent to write
abbrev pub zeros : ℕ → List Float
zeros n = replicate n (of_bits binary32 0)

abbrev pub no_bits_read : ℕ → List ℕ
no_bits_read n = replicate n 0

-- "log2(hues) scores a cell and, at cell size 1, a ring module"
abbrev pub places_of : Settings → ℕ → ℕ → ℕ
places_of s modules cells = chroma_length s.hues cells (ring_modules modules s.grid) s.size

abbrev pub layout_of : Settings → Layout
layout_of s = record { side = s.side; hues = s.hues; size = s.size; grid = s.grid }

abbrev pub setting_of : Sheet → IlluminationModel → ChannelStats → Setting
setting_of c m n = setting (layout_of c.settings) c.xs c.ys c.cxs c.cys c.palette c.settings.mask m n

abbrev pub card_of : Sheet → Card
card_of c =
    let modules = length c.xs in
    let places = places_of c.settings modules (length c.cxs) in
    card c.raw c.craw (zeros modules) (zeros (3 * modules)) (zeros places) (zeros (squares c.settings.side)) (no_bits_read modules) (no_bits_read places)

unfoldable pub score_text : Sheet → IlluminationModel → ChannelStats → List ℕ
score_text c m n = text_of (setting_of c m n) (card_of c)

-- The text that a card file is read as: its listing, or the one line of the first refusal, 1 before any call. Definitions only.
use Rattle.std.specs.Prelude.{List, ℕ}
use Rattle.std.proofs.Math.Option.{Option, none, some}
use Rattle.card.specs.declared.Card.{Card}
use Rattle.card.specs.File.{opened}
use Rattle.listing.specs.Listing.{refused_line}
use Rattle.reader.specs.File.{sheet_of, references_of}
use Rattle.reader.specs.Fitting.{fit_text}

-- by what opening says: its number n, and the card that it gives
unfoldable pub after_opening : List ℕ → ℕ → Option Card → List ℕ
after_opening file n none = refused_line n
after_opening file n (some card) = fit_text (sheet_of file card) (references_of file card)

unfoldable pub card_text : List ℕ → List ℕ
card_text file =
    let said = opened 5 file in
    after_opening file said.number said.value

-- the bytes that are room for every file's text: the code's `listing::LISTING_ROOM`
abbrev pub listing_room : ℕ
listing_room = 101047

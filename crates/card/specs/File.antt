-- The card file of document 01, "Card file and listing", over the number of pairs of its directory: which files are refused by 1, and what the others hold. Definitions only.
use Rattle.std.specs.Prelude.{Bool, not, ◌||◌, List, [], ◌∷◌, ℕ, zero, suc, ◌+◌, ◌*◌, ◌/◌, ◌%◌, ltb, eqb, length, get_or}
use Rattle.loops.specs.Loops.{any_up}
use Rattle.sentences.specs.Sentences.{Sentence, ◌when◌}
use Rattle.answers.specs.Answers.{Said, answered}
use Rattle.card.specs.Number.{u16_at, u32_at}
use Rattle.card.specs.declared.Settings.{Settings}
use Rattle.card.specs.declared.Section.{Section}
use Rattle.card.specs.declared.Card.{Card}

-- pair k of the directory: a section's offset, and its length
unfoldable pub offset_of : List ℕ → ℕ → ℕ
offset_of s k = u32_at s (8 * k)

unfoldable pub length_of : List ℕ → ℕ → ℕ
length_of s k = u32_at s (8 * k + 4)

-- where section k has to start: the first directly after the pairs, "each next where the last ended"
unfoldable pub start_of : ℕ → List ℕ → ℕ → ℕ
start_of pairs s zero = 8 * pairs
start_of pairs s (suc k) = start_of pairs s k + length_of s k

abbrev pub starts_elsewhere : List ℕ → ℕ → ℕ → Bool
starts_elsewhere s k at = not (eqb (offset_of s k) at)

abbrev pub misplaced_at : ℕ → List ℕ → ℕ → Bool
misplaced_at pairs s k = starts_elsewhere s k (start_of pairs s k)

-- a section starts elsewhere, or the last does not end the file
unfoldable pub bad_directory : ℕ → List ℕ → Bool
bad_directory pairs s = any_up 0 pairs (misplaced_at pairs s) || not (eqb (start_of pairs s pairs) (length s))

-- "Section lengths must fit"
abbrev pub other_length : List ℕ → ℕ → ℕ → Bool
other_length s k bytes = not (eqb (length_of s k) bytes)

abbrev pub broken_record : List ℕ → ℕ → ℕ → Bool
broken_record s k bytes = not (eqb (length_of s k % bytes) 0)

-- the palette's two levels, a and b per hue and Lab per colour, for the hues byte as it stands
unfoldable pub bad_palette : ℕ → List ℕ → Bool
bad_palette pairs s = other_length s 1 (8 + 32 * get_or s (8 * pairs + 3) 0)

-- settings of 8 bytes, the palette, references of 32, modules and cells of 16
unfoldable pub bad_lengths : ℕ → List ℕ → Bool
bad_lengths pairs s =
    other_length s 0 8 || (bad_palette pairs s ||
    (broken_record s 2 32 || (broken_record s 3 16 || broken_record s 4 16)))

-- the side, the first number of the settings, is above 64
unfoldable pub large_side : ℕ → List ℕ → Bool
large_side pairs s = ltb 64 (u16_at s (8 * pairs))

-- 1: "The card file exceeds 16,384 bytes, has a side above 64 or breaks its layout."
unfoldable pub malformed : ℕ → List ℕ → Bool
malformed pairs s =
    ltb 16384 (length s) || (ltb (length s) (8 * pairs) || (bad_directory pairs s || (bad_lengths pairs s || large_side pairs s)))

-- the settings: side u16, version u8, hues u8, cell size u8, mask u8 (low three bits count), grid modules u16
unfoldable pub settings_at : List ℕ → ℕ → Settings
settings_at s at =
    record {
      side = u16_at s at;
      version = get_or s (at + 2) 0;
      hues = get_or s (at + 3) 0;
      size = get_or s (at + 4) 0;
      mask = get_or s (at + 5) 0 % 8;
      grid = u16_at s (at + 6);
    }

-- section k, of records of so many bytes
unfoldable pub section_of : List ℕ → ℕ → ℕ → Section
section_of s k bytes = record { at = offset_of s k; count = length_of s k / bytes }

-- what a well-formed file holds
unfoldable pub card_of : ℕ → List ℕ → Card
card_of pairs s =
    record {
      settings = settings_at s (8 * pairs);
      palette = offset_of s 1;
      references = section_of s 2 32;
      modules = section_of s 3 16;
      cells = section_of s 4 16;
    }

-- ---- the answer

-- the one sentence that a file meets before any call
abbrev pub file_sentences : ℕ → List ℕ → List Sentence
file_sentences pairs s = (1 when malformed pairs s) ∷ []

-- refused by 1, or what the file holds
unfoldable pub opened : ℕ → List ℕ → Said Card
opened pairs s = answered (file_sentences pairs s) (card_of pairs s)

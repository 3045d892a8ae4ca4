-- What `card` and `reader` make of the files that the writer writes, and what the writer makes of the files that they read: document 01's case, every card, every file. Definitions only.
use Rattle.std.specs.Prelude.{◌≡◌, List, [], ◌∷◌, ◌++◌, ℕ, ◌+◌, ◌*◌, ◌/◌, ◌%◌, ◌≤◌, ◌<◌, T, pos, length, get_or, Float}
use Rattle.std.specs.Int.Signed.{mag}
use Rattle.std.specs.Float.{nan, binary32}
use Rattle.std.specs.Float.Ieee.{fits, is_nan}
use Rattle.answers.specs.Answers.{gives}
use Rattle.color.specs.Color.{whole}
use Rattle.card.specs.Number.{u32_at, f32_at}
use Rattle.card.specs.declared.Card.{Card}
use Rattle.card.specs.File.{opened}
use Rattle.readout.specs.Sheet.{Sheet}
use Rattle.reader.specs.File.{sheet_of, references_of}
use Rattle.reader.specs.Fitting.{fit_text}
use Rattle.reader.specs.Text.{card_text}
use Rattle.cardfile.specs.Writer.{card_file}

-- ---- document 01's case

-- "side 21, version 1, hues 1, size 1, mask 0, grid 2; levels 0 and 100, hue point (0, 0), Lab (0,0,0) and (100,0,0); no references; modules (0,0) black, (1,0) linear (1,1,1)"
abbrev pub the_case : Sheet
the_case =
    let n = whole in
    record {
      settings = record { side = 21; version = 1; hues = 1; size = 1; mask = 0; grid = 2 };
      palette = n 0 ∷ n 100 ∷ n 0 ∷ n 0 ∷ n 0 ∷ n 0 ∷ n 0 ∷ n 100 ∷ n 0 ∷ n 0 ∷ [];
      xs = pos 0 ∷ pos 1 ∷ [];
      ys = pos 0 ∷ pos 0 ∷ [];
      raw = n 0 ∷ n 0 ∷ n 0 ∷ n 1 ∷ n 1 ∷ n 1 ∷ [];
      cxs = [];
      cys = [];
      craw = [];
    }

-- "fit 4 0 0", "L 0 0 41A00000 1", "L 1 0 C1A00000 1", each with its line feed, in ASCII
abbrev pub the_text : List ℕ
the_text =
    (102 ∷ 105 ∷ 116 ∷ 32 ∷ 52 ∷ 32 ∷ 48 ∷ 32 ∷ 48 ∷ 10 ∷ []) ++
    (76 ∷ 32 ∷ 48 ∷ 32 ∷ 48 ∷ 32 ∷ 52 ∷ 49 ∷ 65 ∷ 48 ∷ 48 ∷ 48 ∷ 48 ∷ 48 ∷ 32 ∷ 49 ∷ 10 ∷ []) ++
    (76 ∷ 32 ∷ 49 ∷ 32 ∷ 48 ∷ 32 ∷ 67 ∷ 49 ∷ 65 ∷ 48 ∷ 48 ∷ 48 ∷ 48 ∷ 48 ∷ 32 ∷ 49 ∷ 10 ∷ [])

-- its file is read as its text
abbrev pub CaseIsRead : Type 0
CaseIsRead = card_text (card_file the_case []) ≡ the_text

-- ---- every card

-- a card that a file has room for: a side of at most 64, the other settings of their types, the mask of three bits; as many palette numbers as the hues ask for, eight a reference, two positions
-- and three colour components a module and a cell; at most 16,384 bytes
pub record Fits (c : Sheet) (references : List Float) : Type 0 where
  pub side : c.settings.side ≤ 64
  pub version : c.settings.version < 256
  pub hues : c.settings.hues < 256
  pub size : c.settings.size < 256
  pub mask : c.settings.mask < 8
  pub grid : c.settings.grid < 65536
  pub palette : length c.palette ≡ 2 + 8 * c.settings.hues
  pub eights : length references % 8 ≡ 0
  pub ys : length c.ys ≡ length c.xs
  pub raw : length c.raw ≡ 3 * length c.xs
  pub cys : length c.cys ≡ length c.cxs
  pub craw : length c.craw ≡ 3 * length c.cxs
  pub small : 56 + 32 * c.settings.hues + 4 * length references + 16 * length c.xs + 16 * length c.cxs ≤ 16384

-- where the sections of its file are
abbrev pub card_in : Sheet → List Float → Card
card_in c references =
    let references_at = 48 + 4 * length c.palette in
    let modules_at = references_at + 4 * length references in
    let cells_at = modules_at + 16 * length c.xs in
    record {
      settings = c.settings;
      palette = 48;
      references = record { at = references_at; count = length references / 8 };
      modules = record { at = modules_at; count = length c.xs };
      cells = record { at = cells_at; count = length c.cxs };
    }

-- its file is one of bytes, and is accepted, with its settings and its sections where they were written
pub record Opens (c : Sheet) (references : List Float) : Type 0 where
  pub bytes : (i : ℕ) → get_or (card_file c references) i 0 < 256
  pub accepted : opened 5 (card_file c references) ≡ gives (card_in c references)

abbrev pub FileOpens : Type 0
FileOpens = (c : Sheet) (references : List Float) → Fits c references → Opens c references

-- its numbers are of the types that they are written as: f32, i16 (from -32,768 to 32,767), u16
pub record Typed (c : Sheet) (references : List Float) : Type 0 where
  pub palette : (i : ℕ) → T (fits binary32 (get_or c.palette i nan))
  pub of_references : (i : ℕ) → T (fits binary32 (get_or references i nan))
  pub xs : (i : ℕ) → mag (get_or c.xs i (pos 0)) < 32768
  pub ys : (i : ℕ) → mag (get_or c.ys i (pos 0)) < 32768
  pub raw : (i : ℕ) → T (fits binary32 (get_or c.raw i nan))
  pub cxs : (i : ℕ) → get_or c.cxs i 0 < 65536
  pub cys : (i : ℕ) → get_or c.cys i 0 < 65536
  pub craw : (i : ℕ) → T (fits binary32 (get_or c.craw i nan))

-- ---- which files are written

-- where the f32 at this place is a NaN, it is the one that is written
abbrev pub NanAsWritten : List ℕ → ℕ → Type 0
NanAsWritten s p = T (is_nan (f32_at s p)) → u32_at s p ≡ 0x7fc0_0000

-- a file with this card in it that has no bit which reading passes over: of the mask's byte the "low three bits count", and of a NaN's bits none but that it is one
pub record Plain (s : List ℕ) (card : Card) : Type 0 where
  pub mask : get_or s 45 0 < 8
  pub palette : (i : ℕ) → i < 2 + 8 * card.settings.hues → NanAsWritten s (card.palette + 4 * i)
  pub of_references : (i : ℕ) → i < 8 * card.references.count → NanAsWritten s (card.references.at + 4 * i)
  pub raw : (i r : ℕ) → i < card.modules.count → r < 3 → NanAsWritten s (card.modules.at + 16 * i + 4 + 4 * r)
  pub craw : (i r : ℕ) → i < card.cells.count → r < 3 → NanAsWritten s (card.cells.at + 16 * i + 4 + 4 * r)

-- ---- what is read from a written file

-- what is read from the file is the card, every number being the one that went in; the file's text is that of the card; and it has no bit that reading passes over
pub record Returned (c : Sheet) (references : List Float) : Type 0 where
  pub same_sheet : sheet_of (card_file c references) (card_in c references) ≡ c
  pub same_references : references_of (card_file c references) (card_in c references) ≡ references
  pub text : card_text (card_file c references) ≡ fit_text c references
  pub plain : Plain (card_file c references) (card_in c references)

abbrev pub FileReturns : Type 0
FileReturns = (c : Sheet) (references : List Float) → Fits c references → Typed c references → Returned c references

-- ---- every file

-- what is read from an opened file is a card that a file has room for, its numbers of the types that they are written as. Its own file has the same text, and is the one that was read, byte for
-- byte, where that one is plain
pub record Rewritten (s : List ℕ) (card : Card) : Type 0 where
  pub room : Fits (sheet_of s card) (references_of s card)
  pub typed : Typed (sheet_of s card) (references_of s card)
  pub text : card_text (card_file (sheet_of s card) (references_of s card)) ≡ card_text s
  pub bytes : Plain s card → card_file (sheet_of s card) (references_of s card) ≡ s

abbrev pub OpenedReturns : Type 0
OpenedReturns = (s : List ℕ) (card : Card) → ((i : ℕ) → get_or s i 0 < 256) → opened 5 s ≡ gives card → Rewritten s card

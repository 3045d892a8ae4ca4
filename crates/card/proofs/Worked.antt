-- Document 01's case as a file of 120 bytes is accepted as the card that the document describes; without its last byte, or with a side of 65, it is refused. Each is computed. Assumes nothing.
use mathlib.Core.Path.{◌≡◌, refl}
use mathlib.Core.List.{List, [], ◌∷◌, ◌++◌}
use Prim.Native.Nat.{ℕ}
use lib.ListN.{take, replicate}
use Rattle.sentences.specs.Sentences.{refusal, decided}
use Rattle.loops.specs.Loops.{any_up, some_of}
use Rattle.answers.specs.Answers.{refused_by, gives}
use Rattle.card.specs.Number.{u16_at, u32_at}
use Rattle.card.specs.File.{offset_of, length_of, start_of, bad_directory, bad_palette, bad_lengths, large_side, malformed, settings_at, section_of, card_of, opened}

-- a u32 below 256
small : ℕ → List ℕ
small n = n ∷ 0 ∷ 0 ∷ 0 ∷ []

zeros : ℕ → List ℕ
zeros n = replicate n 0

-- 100 and 1 as f32
hundred : List ℕ
hundred = 0 ∷ 0 ∷ 200 ∷ 66 ∷ []

one : List ℕ
one = 0 ∷ 0 ∷ 128 ∷ 63 ∷ []

directory : List ℕ
unfolding small
directory = small 40 ++ small 8 ++ small 48 ++ small 40 ++ small 88 ++ small 0 ++ small 88 ++ small 32 ++ small 120 ++ small 0

-- side, version 1, hues 1, cell size 1, mask 0, two grid modules; levels 0 and 100, hue point (0, 0), Lab (0, 0, 0) and (100, 0, 0); no references;
-- modules (0, 0) black and (1, 0) white; no cells
unfoldable pub file : ℕ → List ℕ
unfolding directory zeros hundred one
file side =
    directory ++ (side ∷ 0 ∷ 1 ∷ 1 ∷ 1 ∷ 0 ∷ 2 ∷ 0 ∷ []) ++
    (zeros 4 ++ hundred ++ zeros 20 ++ hundred ++ zeros 8) ++ zeros 16 ++ (1 ∷ 0 ∷ 0 ∷ 0 ∷ []) ++ one ++ one ++ one

pub the-case : opened 5 (file 21) ≡
    gives (record {
      settings = record { side = 21; version = 1; hues = 1; size = 1; mask = 0; grid = 2 };
      palette = 48;
      references = record { at = 88; count = 0 };
      modules = record { at = 88; count = 2 };
      cells = record { at = 120; count = 0 };
    })
unfolding file directory small zeros hundred one opened refusal decided malformed bad_directory bad_palette bad_lengths large_side card_of settings_at section_of offset_of length_of start_of u16_at u32_at any_up some_of
the-case = refl

pub cut_short : opened 5 (take 119 (file 21)) ≡ refused_by 1
unfolding file directory small zeros hundred one opened refusal decided malformed bad_directory bad_palette bad_lengths large_side offset_of length_of start_of u16_at u32_at any_up some_of
cut_short = refl

pub too_wide : opened 5 (file 65) ≡ refused_by 1
unfolding file directory small zeros hundred one opened refusal decided malformed bad_directory bad_palette bad_lengths large_side offset_of length_of start_of u16_at u32_at any_up some_of
too_wide = refl

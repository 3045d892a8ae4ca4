-- A card in a record: its lists stand one behind the other, and then its model and its noise record. Definitions only.
use Rattle.std.specs.Prelude.{◌≡◌, ◌<◌, false, List, ℕ, ◌+◌, ◌*◌, ◌%◌, ◌^◌, pos, min, length, drop, replicate, slice_index, slice_index_or, Float, ℤ}
use Rattle.std.specs.Float.{fin, binary32}
use Rattle.std.specs.Float.Ieee.{of_bits}
use Rattle.std.specs.Int.{w32}
use Rattle.std.proofs.Common.{to_z}
use Rattle.vectors.specs.Slices.{past_list}
use Rattle.stage_words.specs.Records.{width_taken}
use Rattle.stage_words.specs.declared.CardRoom.{CardRoom}

-- what a word stands for in a list of i32, of f32 and of u16
abbrev pub signed : ℕ → ℤ
signed w = to_z w32 (w % 2 ^ 32)

abbrev pub single : ℕ → Float
single w = of_bits binary32 (w % 2 ^ 32)

abbrev pub short : ℕ → ℕ
short w = w % 2 ^ 16

-- xs has the elements of the list that a row begins with, as many as there is room for
abbrev pub listed : {A : Type 0} → (ℕ → A) → ℕ → List ℕ → List A → Type 0
listed {A} value_of room row xs = (length xs ≡ min (slice_index row 0) room) × ((k : ℕ) (d : A) → k < length xs → slice_index_or xs k d ≡ value_of (slice_index (drop 1 row) k))

-- what begins with each part of a card, which a row begins with
abbrev pub at_ys : List ℕ → List ℕ
at_ys row = past_list row

abbrev pub at_grid : List ℕ → List ℕ
at_grid row = past_list (at_ys row)

abbrev pub at_raw : List ℕ → List ℕ
at_raw row = drop 1 (at_grid row)

abbrev pub at_cxs : List ℕ → List ℕ
at_cxs row = past_list (at_raw row)

abbrev pub at_cys : List ℕ → List ℕ
at_cys row = past_list (at_cxs row)

abbrev pub at_cell_raw : List ℕ → List ℕ
at_cell_raw row = past_list (at_cys row)

abbrev pub at_palette : List ℕ → List ℕ
at_palette row = past_list (at_cell_raw row)

abbrev pub at_model : List ℕ → List ℕ
at_model row = past_list (at_palette row)

abbrev pub at_noise : List ℕ → List ℕ
at_noise row = drop (18 + 6 * width_taken (at_model row)) (at_model row)

-- room for a card with nothing in it
unfoldable pub no_card : CardRoom
no_card =
    record {
      xs = replicate 512 (pos 0);
      ys = replicate 512 (pos 0);
      raw = replicate 2048 (fin false 0 (pos 0));
      cxs = replicate 512 0;
      cys = replicate 512 0;
      cell_raw = replicate 2048 (fin false 0 (pos 0));
      palette = replicate 256 (fin false 0 (pos 0));
    }

-- The card file of document 01, "Card file and listing", as it is written: from a card to the bytes of its file, in the document's words. Definitions only.
use Rattle.std.specs.Prelude.{List, [], ◌∷◌, ◌++◌, ℕ, ◌+◌, ◌-◌, ◌*◌, ◌/◌, ◌%◌, ℤ, pos, negsuc, length, get_or, Float}
use Rattle.std.specs.Float.{nan, binary32}
use Rattle.std.specs.Float.Ieee.{to_bits}
use Rattle.card.specs.declared.Settings.{Settings}
use Rattle.listing.specs.Text.{row, rows}
use Rattle.readout.specs.Sheet.{Sheet}

-- ---- numbers: "Little-endian"

-- the low byte first
unfoldable pub u16_bytes : ℕ → List ℕ
u16_bytes n = n % 256 ∷ n / 256 % 256 ∷ []

-- the low half first
unfoldable pub u32_bytes : ℕ → List ℕ
u32_bytes n = u16_bytes n ++ u16_bytes (n / 65536)

-- the 16 bits of a signed number in two's complement: below zero, 2^16 more
unfoldable pub bits_of : ℤ → ℕ
bits_of (pos n) = n
bits_of (negsuc n) = 65535 - n

unfoldable pub i16_bytes : ℤ → List ℕ
i16_bytes z = u16_bytes (bits_of z)

-- the bit pattern, for a NaN always 7FC00000
unfoldable pub f32_bytes : Float → List ℕ
f32_bytes v = u32_bytes (to_bits binary32 v)

-- ---- the sections

-- "Settings (8 bytes): side u16, version u8, hues u8, cell size u8, mask u8 (low three bits count), grid modules u16."
unfoldable pub settings_bytes : Settings → List ℕ
settings_bytes s = u16_bytes s.side ++ (s.version ∷ s.hues ∷ s.size ∷ s.mask ∷ u16_bytes s.grid)

-- f32 one after the other: "Palette, f32: two levels, a and b per hue, Lab per colour. References: eight f32 (x, y, observed, nominal)."
unfoldable pub float_at_bytes : List Float → ℕ → List ℕ
float_at_bytes l i = f32_bytes (get_or l i nan)

abbrev pub floats_bytes : List Float → List ℕ
floats_bytes l = rows (float_at_bytes l) (length l) 0

-- the "three f32" of record i
unfoldable pub colour_bytes : List Float → ℕ → List ℕ
colour_bytes raw i = f32_bytes (get_or raw (3 * i) nan) ++ (f32_bytes (get_or raw (3 * i + 1) nan) ++ f32_bytes (get_or raw (3 * i + 2) nan))

-- "Modules: x, y as i16, three f32."
unfoldable pub module_bytes : List ℤ → List ℤ → List Float → ℕ → List ℕ
module_bytes xs ys raw i = i16_bytes (get_or xs i (pos 0)) ++ (i16_bytes (get_or ys i (pos 0)) ++ colour_bytes raw i)

-- "Cells: cx, cy as u16, three f32."
unfoldable pub cell_bytes : List ℕ → List ℕ → List Float → ℕ → List ℕ
cell_bytes cxs cys craw i = u16_bytes (get_or cxs i 0) ++ (u16_bytes (get_or cys i 0) ++ colour_bytes craw i)

abbrev pub modules_bytes : Sheet → List ℕ
modules_bytes c = rows (module_bytes c.xs c.ys c.raw) (length c.xs) 0

abbrev pub cells_bytes : Sheet → List ℕ
cells_bytes c = rows (cell_bytes c.cxs c.cys c.craw) (length c.cxs) 0

-- ---- the file

-- "pairs of u32 offset and length, sorted by offset", the first section at this place, "each next where the last ended"
unfoldable pub directory : ℕ → List (List ℕ) → List ℕ
directory at [] = []
directory at (section ∷ rest) = u32_bytes at ++ (u32_bytes (length section) ++ directory (at + length section) rest)

unfoldable pub sections : Sheet → List Float → List (List ℕ)
sections c references = settings_bytes c.settings ∷ floats_bytes c.palette ∷ floats_bytes references ∷ modules_bytes c ∷ cells_bytes c ∷ []

-- "the first starts at 40 .., the fifth ending the file"
unfoldable pub card_file : Sheet → List Float → List ℕ
card_file c references = directory 40 (sections c references) ++ row (sections c references)

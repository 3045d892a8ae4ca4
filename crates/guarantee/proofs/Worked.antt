-- Document 01's table of worked examples: antt computes every row at once. Assumes nothing.
use mathlib.Core.Path.{◌≡◌, refl}
use mathlib.Core.List.{map}
use lib.Ieee.{add, sub, mul, div, neg, lt, le, eq, is_nan, round, of_bits}
use Rattle.loops.specs.Loops.{turns, for_up}
use Rattle.limits.specs.Chroma.{halvings, log2}
use Rattle.floatlaws.specs.Value.{mag}
use Rattle.float.specs.Select.{abs, max, clamp}
use Rattle.float.specs.Root.{cbrt_of}
use Rattle.order.specs.Median.{median_of}
use Rattle.order.specs.Deviation.{scale, deviation, sigma_of}
use Rattle.color.specs.Color.{fraction, linear_to_xyz, line, lab_f, lightness, xyz_to_lab}
use Rattle.color.specs.Srgb.{curve, srgb_to_linear}
use Rattle.symbols.specs.Gray.{gray, hue_to_chroma_symbol}
use Rattle.symbols.specs.Mask.{chroma_rotation, chroma_mask_remove}
use Rattle.modulate.specs.Score.{unmasked_hue, symbol_bit, bit_of_hue, bettered, bit_llr}
use Rattle.stats.specs.Noise.{between, sigma_ab_at, luma_llr}
use Rattle.guarantee.specs.Table.{Row, table}

pub worked : map (λ (r : Row). r.gives) table ≡ map (λ (r : Row). r.says) table
unfolding table add sub mul div neg lt le eq is_nan round of_bits turns for_up halvings log2 mag abs max clamp cbrt_of median_of scale deviation sigma_of fraction linear_to_xyz line lab_f lightness xyz_to_lab curve srgb_to_linear gray hue_to_chroma_symbol chroma_rotation chroma_mask_remove unmasked_hue symbol_bit bit_of_hue bettered bit_llr between sigma_ab_at luma_llr
worked = refl

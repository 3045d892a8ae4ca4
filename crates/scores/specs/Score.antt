-- Scoring, the Rust's `demodulate` without its last call: each colour corrected, a luma score a module, log2(hues) chroma scores a cell and, at cell size 1, a ring module. Definitions only.
use Rattle.std.specs.Prelude.{cond, List, ℕ, ◌+◌, ◌-◌, ◌*◌, ltb, eqb, length, get_or, set, replicate, Float}
use Rattle.std.specs.Float.{nan}
use Rattle.std.specs.Float.Ieee.{neg}
use Rattle.loops.specs.Loops.{for_up}
use Rattle.limits.specs.Chroma.{chroma_on, weighted, symbol_bits}
use Rattle.layout.specs.declared.Layout.{Layout}
use Rattle.float.specs.Select.{clamp}
use Rattle.color.specs.declared.Linear.{Linear}
use Rattle.color.specs.declared.Lab.{Lab}
use Rattle.color.specs.Color.{whole, linear_to_lab}
use Rattle.modulate.specs.declared.Cell.{Cell}
use Rattle.modulate.specs.declared.Cell.TheVariants.{Unmasked, At}
use Rattle.modulate.specs.Score.{chroma_bit_llrs}
use Rattle.illum.specs.declared.IlluminationModel.{IlluminationModel}
use Rattle.stats.specs.declared.ChannelStats.{ChannelStats}
use Rattle.stats.specs.Arithmetic.{◌⊗◌}
use Rattle.stats.specs.Noise.{luma_llr, reliability, hue_log_likelihoods}
use Rattle.observed.specs.Entries.{number_at, lab_at}
use Rattle.observed.specs.Colours.{put_colour, held_cells}

-- ---- luma

-- a score, weighed by the reliability of its sample
unfoldable pub weighed : Float → Float → Float
weighed llr weight = llr ⊗ weight

-- the luma score of a corrected colour. (Where luma is not weighted the Rust multiplies by 1.0, which changes nothing.)
unfoldable pub luma_score : ChannelStats → List Float → ℕ → Linear → Float
luma_score n palette hues c =
    let lab = linear_to_lab c in
    cond (weighted hues) (weighed (luma_llr n lab.l) (reliability n lab palette hues)) (luma_llr n lab.l)

-- what is written for the modules
pub record Sheet : Type 0 where
  pub luma : List Float
  pub colours : List Float

abbrev pub sheet : List Float → List Float → Sheet
sheet luma colours = record { luma = luma; colours = colours }

-- module i: its score, and its corrected colour, which `colour` gives
unfoldable pub write_module : ChannelStats → List Float → ℕ → (ℕ → Linear) → ℕ → Sheet → Sheet
write_module n palette hues colour i s =
    sheet (set s.luma i (luma_score n palette hues (colour i))) (put_colour s.colours i (colour i))

abbrev pub write_modules : ChannelStats → List Float → ℕ → (ℕ → Linear) → ℕ → Sheet → Sheet
write_modules n palette hues colour m s = for_up 0 m (write_module n palette hues colour) s

-- the scores of the modules by themselves
unfoldable pub luma_at : ChannelStats → List Float → ℕ → (ℕ → Linear) → ℕ → List Float → List Float
luma_at n palette hues colour i l = set l i (luma_score n palette hues (colour i))

abbrev pub write_lumas : ChannelStats → List Float → ℕ → (ℕ → Linear) → ℕ → List Float → List Float
write_lumas n palette hues colour m l = for_up 0 m (luma_at n palette hues colour) l

-- those of k modules, from module `from` on
abbrev pub luma_block : ChannelStats → List Float → ℕ → (ℕ → Linear) → ℕ → ℕ → List Float → List Float
luma_block n palette hues colour from k l = for_up from (from + k) (luma_at n palette hues colour) l

-- the score of module from + j, by sample j of a block
unfoldable pub put_luma : ChannelStats → List Lab → List Float → ℕ → ℕ → List Float → List Float
put_luma n labs weights from j l = set l (from + j) (weighed (luma_llr n (lab_at labs j).l) (number_at weights j))

abbrev pub put_lumas : ChannelStats → List Lab → List Float → ℕ → ℕ → List Float → List Float
put_lumas n labs weights from k l = for_up 0 k (put_luma n labs weights from) l

-- scores that are not weighted
unfoldable pub plain_luma : ChannelStats → (ℕ → Linear) → ℕ → List Float → List Float
plain_luma n colour i l = set l i (luma_llr n (linear_to_lab (colour i)).l)

abbrev pub plain_lumas : ChannelStats → (ℕ → Linear) → ℕ → List Float → List Float
plain_lumas n colour m l = for_up 0 m (plain_luma n colour) l

-- ---- chroma

-- the likelihoods of the hues, in room for 16, and the scores of the symbol's bits, in room for 4
abbrev pub likelihoods : ChannelStats → List Float → ℕ → Lab → List Float
likelihoods n palette hues lab = hue_log_likelihoods n lab palette hues (replicate 16 (whole 0))

abbrev pub bit_scores : ChannelStats → List Float → ℕ → Cell → Lab → List Float
bit_scores n palette hues cell lab = chroma_bit_llrs (likelihoods n palette hues lab) cell hues (replicate 4 (whole 0))

-- one of them weighed, and held to ±20
unfoldable pub chroma_score : Float → Float → Float
chroma_score v weight = clamp (neg (whole 20)) (whole 20) (weighed v weight)

unfoldable pub put_score : List Float → Float → ℕ → ℕ → List Float → List Float
put_score bits weight at b chroma = set chroma (at + b) (chroma_score (get_or bits b nan) weight)

abbrev pub put_scores : List Float → Float → ℕ → ℕ → List Float → List Float
put_scores bits weight n at chroma = for_up 0 n (put_score bits weight at) chroma

-- the scores of entry e of the chroma list, for a sample and its weight
abbrev pub write_sample : ChannelStats → List Float → ℕ → Cell → Lab → Float → ℕ → List Float → List Float
write_sample n palette hues cell lab weight e chroma =
    put_scores (bit_scores n palette hues cell lab) weight (symbol_bits hues) (e * symbol_bits hues) chroma

-- for a corrected colour
unfoldable pub write_entry : ChannelStats → List Float → ℕ → Cell → Linear → ℕ → List Float → List Float
write_entry n palette hues cell c e chroma =
    let lab = linear_to_lab c in
    write_sample n palette hues cell lab (reliability n lab palette hues) e chroma

-- entry e is drawn on cell e or, past the cells, on a ring module, on which no mask lies
unfoldable pub drawn_at : List ℕ → List ℕ → ℕ → Cell
drawn_at cxs cys e = cond (ltb e (length cxs)) (At (get_or cxs e 0) (get_or cys e 0)) Unmasked

-- entry first + j, by sample j of a block
unfoldable pub put_entry : ChannelStats → List Float → ℕ → List ℕ → List ℕ → List Lab → List Float → ℕ → ℕ → List Float → List Float
put_entry n palette hues cxs cys labs weights first j chroma =
    write_sample n palette hues (drawn_at cxs cys (first + j)) (lab_at labs j) (number_at weights j) (first + j) chroma

abbrev pub put_entries : ChannelStats → List Float → ℕ → List ℕ → List ℕ → List Lab → List Float → ℕ → ℕ → List Float → List Float
put_entries n palette hues cxs cys labs weights first k chroma = for_up 0 k (put_entry n palette hues cxs cys labs weights first) chroma

-- cell i is entry i
unfoldable pub write_cell : ChannelStats → List Float → ℕ → List ℕ → List ℕ → (ℕ → Linear) → ℕ → List Float → List Float
write_cell n palette hues cxs cys colour i chroma = write_entry n palette hues (At (get_or cxs i 0) (get_or cys i 0)) (colour i) i chroma

abbrev pub write_cells : ChannelStats → List Float → ℕ → List ℕ → List ℕ → (ℕ → Linear) → ℕ → List Float → List Float
write_cells n palette hues cxs cys colour c chroma = for_up 0 c (write_cell n palette hues cxs cys colour) chroma

-- k cells, from cell `from` on
abbrev pub cell_block : ChannelStats → List Float → ℕ → List ℕ → List ℕ → (ℕ → Linear) → ℕ → ℕ → List Float → List Float
cell_block n palette hues cxs cys colour from k chroma = for_up from (from + k) (write_cell n palette hues cxs cys colour) chroma

-- ring module i, one of those listed after the grid modules, stands after the cells, and no mask lies on it
unfoldable pub write_ring : ChannelStats → List Float → ℕ → ℕ → ℕ → (ℕ → Linear) → ℕ → List Float → List Float
write_ring n palette hues cells grid colour i chroma = write_entry n palette hues Unmasked (colour i) (cells + (i - grid)) chroma

abbrev pub write_rings : ChannelStats → List Float → ℕ → ℕ → ℕ → (ℕ → Linear) → ℕ → List Float → List Float
write_rings n palette hues cells grid colour m chroma = for_up grid m (write_ring n palette hues cells grid colour) chroma

-- k ring modules, from module `from` on
abbrev pub ring_block : ChannelStats → List Float → ℕ → ℕ → ℕ → (ℕ → Linear) → ℕ → ℕ → List Float → List Float
ring_block n palette hues cells grid colour from k chroma = for_up from (from + k) (write_ring n palette hues cells grid colour) chroma

-- "ring modules carry chroma only at cell size 1"
unfoldable pub ring_chroma : Layout → ChannelStats → List Float → ℕ → (ℕ → Linear) → ℕ → List Float → List Float
ring_chroma l n palette cells colour m chroma = cond (eqb l.size 1) (write_rings n palette l.hues cells l.grid colour m chroma) chroma

-- "Chroma is on when hues exceed 1": the cells, then the ring modules
unfoldable pub chroma_written : Layout → ChannelStats → List Float → (ℕ → Linear) → ℕ → List ℕ → List ℕ → (ℕ → Linear) → List Float → List Float
chroma_written l n palette modules m cxs cys cells chroma =
    cond (chroma_on l.hues)
    (ring_chroma l n palette (length cxs) modules m (write_cells n palette l.hues cxs cys cells (length cxs) chroma))
    chroma

-- the cells that have a mark: "With chroma off, cells are neither corrected nor scored."
unfoldable pub chroma_held : Layout → IlluminationModel → List ℕ → List ℕ → ℕ
chroma_held l model cxs cys = cond (chroma_on l.hues) (held_cells model l.size cxs cys (length cxs)) 0

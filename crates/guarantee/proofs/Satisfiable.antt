-- The guarantee's premises can be met: document 01's own case, a card with chroma on, cards at the edge of the margin and of half a sigma, one of one hue with a cell, and at 9 one that is outside the margin at 13. antt computes each premise. Assumes nothing.
use mathlib.Core.Path.{◌≡◌, refl, ap}
use mathlib.Core.Bool.{Bool, true, false, xor, ◌&&◌}
use mathlib.Core.List.{List, [], ◌∷◌}
use mathlib.Core.Option.{some-injective}
use Prim.Native.Nat.{ℕ, zero, suc, ◌*◌, ◌<◌}
use native.Mathlib.Omega.{arith}
use lib.Dec.{T}
use lib.IntN.{pos, negsuc}
use lib.ListN.{get_or, replicate}
use lib.Ieee.{Float, nan, binary32, fits, round}
use lib.Ieee.Fits.{and_l, and_r}
use Rattle.limits.specs.Chroma.{chroma_on, halvings, log2, weighted, symbol_bits, chroma_entries, chroma_length}
use Rattle.color.specs.Color.{whole, fraction, luminance, linear_to_xyz, line, lab_f, lightness, xyz_to_lab}
use Rattle.illum.specs.Correct.{unit_model, affine_row, unshaded, mixed}
use Rattle.stats.specs.declared.ChannelStats.{ChannelStats}
use Rattle.margin.specs.declared.Threshold.TheVariants.{Thirteen, Nine}
use Rattle.stats.specs.Noise.{nominal, between, sigma_ab_at, luma_llr, distance, closer, weight, reliability, denominator, hue_log_likelihood, put_likelihood}
use lib.Ieee.{add, sub, mul, div, neg, lt, le, eq, is_nan, of_int, to_unsigned}
use Rattle.sentences.specs.Sentences.{refusal, decided}
use Rattle.loops.specs.Loops.{some_of, any_up, turns, for_up}
use Rattle.limits.specs.Limits.{bad_side, bad_hues, bad_cell_size, bad_modules, bad_counts, bad_cell}
use Rattle.places.specs.Places.{outside, misplaced, offset}
use Rattle.layout.specs.Groups.{shape, module_placement, bad_positions, placement}
use Rattle.floatlaws.specs.Value.{mag, hi, lo}
use Rattle.float.specs.Select.{abs, max, min, clamp}
use Rattle.float.specs.Root.{digits, iroot, root_of_units, sqrt_of, cbrt_of}
use Rattle.float.specs.Single.{to_single}
use Rattle.color.specs.Palette.{level_l, hue_ab, palette_lab, linear_at, wild, wild_linear}
use Rattle.illum.specs.Surface.{least_gain, terms_used, normalised, basis_at, add_term, is_held, hold_gain, deshade}
use Rattle.illum.specs.Refusals.{bad_terms, bad_model_side, not_finite_affine, not_finite_gains, not_finite_flares, not_finite_model, bad_shape, bad_model}
use Rattle.symbols.specs.Gray.{gray, xor_shifts, gray_inverse, chroma_symbol_to_hue, hue_to_chroma_symbol}
use Rattle.symbols.specs.Mask.{mask_rules, luma_mask, chroma_rotation, chroma_mask_apply, chroma_mask_remove}
use Rattle.modulate.specs.Score.{unmasked_hue, symbol_bit, bit_of_hue, bettered, bit_llr, masked_at, unmask_at, bad_luma_lengths, unmask_sentences, unmask_luma_of}
use Rattle.reading.specs.Read.{read_sentences, read_list_of}
use Rattle.modulate.specs.Draw.{is_set, bit_of, grid_level, ring_level, push_bit, cell_hue, ring_hue, level_at, hue_at, drawn_hues, short_bits, short_hues, bad_draw_lengths, draw_sentences, draw_of}
use Rattle.margin.specs.Margin.{level_fits, colour_fits, levels_fit, sigmas_fit, dark_clear, light_clear, near, far, other_far, apart, hue_clear, chroma_clear, in_margin}
use Rattle.stats.specs.Calls as stats
use Rattle.stats.specs.Calls.{short_palette, wild_figure, bad_noise_numbers, bad_level_sigma, bad_sigmas, bad_numbers}
use Rattle.observed.specs.Colours.{centre, cell_centre, module_colour, cell_colour}
use Rattle.scores.specs.Score.{weighed, luma_score, write_module, chroma_score, put_score, write_entry, write_cell, write_ring, ring_chroma, chroma_written}
use Rattle.demod.specs.Call as scoring
use Rattle.demod.specs.Call.{bad_module_lengths, bad_cell_lengths, short_chroma, bad_lengths, bad_inputs, bad_corrected, scored_of}
use Rattle.refine.specs.Calls as refinement
use Rattle.refine.specs.Calls.{short_slices, wild_numbers, refined_of, refine_of}
use Rattle.refine.specs.Window.{beyond, luminance_near, pushed, sample_at}
use Rattle.refine.specs.Refine.{sure, refine_one, place_at, refine_at, refined}
use Rattle.guarantee.specs.Within.{units, half_apart, half_sigma}
use Rattle.guarantee.specs.Card.{palette_colour, carries_chroma, Setting, Card, refined_card, bits_drawn}
use Rattle.guarantee.specs.Guarantee.{Singles, InMargin, NearModule, NearCell, Readable, InMarginAt, NoNan}

-- ---- f32 values

unfoldable all_fit : List Float → Bool
all_fit [] = true
all_fit (x ∷ l) = fits binary32 x && all_fit l

each_fits : (l : List Float) → T (all_fit l) → (i : ℕ) → T (fits binary32 (get_or l i nan))
unfolding all_fit fits
each_fits [] t i = tt
each_fits (x ∷ l) t zero = and_l (fits binary32 x) (all_fit l) t
each_fits (x ∷ l) t (suc i) = each_fits l (and_r (fits binary32 x) (all_fit l) t) i

-- ---- what the cards share

abbrev n : ℕ → Float
n = whole

-- one colour more at the head of a list of raw colours: linear (0, 0, 0) or (1, 1, 1), in Lab exactly (0, 0, 0) or (100, 0, 0)
abbrev black : List Float → List Float
black l = n 0 ∷ n 0 ∷ n 0 ∷ l

abbrev white : List Float → List Float
white l = n 1 ∷ n 1 ∷ n 1 ∷ l

-- a card of m modules and k chroma scores, from its bits and the raw colours of modules and cells. Lent memory may hold anything: here NaN, and 7, which is no bit, level or hue of these cards
abbrev card : ℕ → ℕ → List ℕ → List Float → List Float → Card
card m k bits raw craw =
    record {
      bits = bits;
      raw = raw;
      craw = craw;
      levels = replicate m 7;
      drawn = replicate 4 7;
      luma = replicate m nan;
      colours = replicate (3 * m) nan;
      chroma = replicate k nan;
      scratch = replicate 1089 nan;
      luma_bits = replicate m 7;
      chroma_bits = replicate k 7;
    }

-- what holds of each of the first one, two or three numbers
pub first_one : (P : ℕ → Type 0) → P 0 → (i : ℕ) → i < 1 → P i
first_one P p zero h = p
first_one P p (suc i) h = absurd (omega arith)

pub first_two : (P : ℕ → Type 0) → P 0 → P 1 → (i : ℕ) → i < 2 → P i
first_two P p q zero h = p
first_two P p q (suc i) h = first_one (λ j. P (suc j)) q i (omega arith)

pub first_three : (P : ℕ → Type 0) → P 0 → P 1 → P 2 → (i : ℕ) → i < 3 → P i
first_three P p q r zero h = p
first_three P p q r (suc i) h = first_two (λ j. P (suc j)) q r i (omega arith)

-- whatever a premise asks where chroma is carried, of a module that carries none or of a card with chroma off
none : {A : Type 0} → false ≡ true → A
none e = let z : ◌≡◌ {A = ℕ} 0 1 = cc in absurd (omega arith)

-- all that the premises are computed by: to unfold this name is to unfold each of them
unfoldable pub computed : Bool
unfolding add sub mul div neg lt le eq round is_nan fraction abs max min clamp refusal decided some_of any_up turns for_up stats.sentences_of bad_hues short_palette bad_numbers wild bad_noise_numbers wild_figure bad_sigmas bad_level_sigma level_l hue_ab palette_lab in_margin levels_fit level_fits colour_fits sigmas_fit dark_clear light_clear luma_llr chroma_clear chroma_on hue_clear apart near far other_far sigma_ab_at between draw_of draw_sentences bad_side bad_cell_size bad_draw_lengths short_bits short_hues chroma_length symbol_bits log2 halvings chroma_entries shape placement module_placement bad_counts bad_modules bad_positions misplaced outside bad_cell level_at grid_level ring_level xor is_set bit_of luma_mask mask_rules drawn_hues hue_at push_bit cell_hue ring_hue chroma_mask_apply chroma_rotation chroma_symbol_to_hue gray_inverse xor_shifts unit_model module_colour cell_colour centre cell_centre of_int linear_at mixed unshaded affine_row basis_at normalised terms_used add_term is_held hold_gain least_gain deshade to_single linear_to_xyz xyz_to_lab lightness lab_f line cbrt_of digits iroot root_of_units mag scored_of scoring.sentences_of bad_lengths bad_module_lengths bad_cell_lengths short_chroma bad_inputs bad_corrected wild_linear bad_model bad_shape bad_terms bad_model_side not_finite_model not_finite_affine not_finite_gains not_finite_flares to_unsigned write_module luma_score weighted weighed reliability closer distance weight sqrt_of chroma_written ring_chroma write_cell write_ring write_entry put_score chroma_score put_likelihood hue_log_likelihood denominator bit_llr bettered bit_of_hue symbol_bit unmasked_hue hue_to_chroma_symbol gray chroma_mask_remove refine_of refinement.sentences_of short_slices wild_numbers refined_of refined refine_at place_at unmask_luma_of unmask_sentences bad_luma_lengths unmask_at masked_at read_list_of read_sentences half_sigma half_apart units hi lo palette_colour carries_chroma
computed = true

-- ---- chroma off: "side 21, version 1, hues 1, size 1, mask 0, grid 2; levels 0 and 100, hue point (0, 0), Lab (0,0,0) and (100,0,0)", the nominal noise and the model that corrects nothing

abbrev plain_palette : List Float
plain_palette = n 0 ∷ n 100 ∷ n 0 ∷ n 0 ∷ n 0 ∷ n 0 ∷ n 0 ∷ n 100 ∷ n 0 ∷ n 0 ∷ []

abbrev pub plain : Setting
plain =
    record {
      layout = record { side = 21; hues = 1; size = 1; grid = 2 };
      xs = pos 0 ∷ pos 1 ∷ [];
      ys = pos 0 ∷ pos 0 ∷ [];
      cxs = [];
      cys = [];
      palette = plain_palette;
      mask = 0;
      model = unit_model 21 4;
      noise = nominal plain_palette;
    }

-- "modules (0,0) black, (1,0) linear (1,1,1)": both bits are 1
abbrev pub plain_card : Card
plain_card = card 2 0 (1 ∷ 1 ∷ []) (black (white [])) []

plain_fits : T (all_fit plain_palette)
unfolding all_fit fits fraction round
plain_fits = tt

pub plain-singles : Singles plain
unfolding fits fraction round level_l
plain-singles = record { palette = each_fits plain_palette plain_fits; l0 = tt; l1 = tt; sigma-l = tt; sigma-ab = tt; sigma-ab-dark = tt; sigma-ab-light = tt }

pub plain-margin : InMargin plain
unfolding computed
plain-margin = refl

pub plain-readable : Readable plain plain_card
unfolding computed
plain-readable =
    record {
      drawn = refl;
      accepted = record { scoring = refl; refinement = refl; unmasking = refl; luma = refl; chroma = refl };
      near =
          record {
            each_module =
                first_two (NearModule plain plain_card)
                (record { hue = 0; below = omega arith; own = none; near = refl })
                (record { hue = 0; below = omega arith; own = none; near = refl });
            each-cell = λ on. λ j h. absurd (omega arith);
          };
    }

pub plain-drawn : bits_drawn plain plain_card ≡ 1 ∷ 1 ∷ []
unfolding computed bits_drawn
plain-drawn = refl

-- ---- chroma on: two hues, a grid module, a ring module that carries chroma, and a cell whose bit is 1, since the mask turns its hue by one

abbrev coloured_palette : List Float
coloured_palette = n 0 ∷ n 100 ∷ n 0 ∷ n 0 ∷ n 100 ∷ n 0 ∷ n 0 ∷ n 0 ∷ n 0 ∷ n 0 ∷ n 100 ∷ n 0 ∷ n 100 ∷ n 0 ∷ n 0 ∷ n 100 ∷ n 100 ∷ n 0 ∷ []

abbrev pub coloured : Setting
coloured =
    record {
      layout = record { side = 21; hues = 2; size = 1; grid = 1 };
      xs = pos 0 ∷ negsuc 0 ∷ [];
      ys = pos 0 ∷ pos 0 ∷ [];
      cxs = 1 ∷ [];
      cys = 0 ∷ [];
      palette = coloured_palette;
      mask = 0;
      model = unit_model 21 4;
      noise = nominal coloured_palette;
    }

abbrev pub coloured_card : Card
coloured_card = card 2 2 (1 ∷ 0 ∷ 1 ∷ 0 ∷ []) (black (black [])) (white [])

coloured-fits : T (all_fit coloured_palette)
unfolding all_fit fits fraction round
coloured-fits = tt

pub coloured-singles : Singles coloured
unfolding fits fraction round level_l
coloured-singles = record { palette = each_fits coloured_palette coloured-fits; l0 = tt; l1 = tt; sigma-l = tt; sigma-ab = tt; sigma-ab-dark = tt; sigma-ab-light = tt }

pub coloured-margin : InMargin coloured
unfolding computed
coloured-margin = refl

pub coloured-readable : Readable coloured coloured_card
unfolding computed
coloured-readable =
    record {
      drawn = refl;
      accepted = record { scoring = refl; refinement = refl; unmasking = refl; luma = refl; chroma = refl };
      near =
          record {
            each_module =
                first_two (NearModule coloured coloured_card)
                (record { hue = 0; below = omega arith; own = λ e. refl; near = refl })
                (record { hue = 0; below = omega arith; own = λ e. refl; near = refl });
            each-cell = λ on. first_one (NearCell coloured coloured_card) (record { level = 1; below = omega arith; near = refl });
          };
    }

pub coloured-drawn : bits_drawn coloured coloured_card ≡ 1 ∷ 0 ∷ 1 ∷ 0 ∷ []
unfolding computed bits_drawn
coloured-drawn = refl

-- ---- at the edge of the margin and of half a sigma

-- the chroma sigma is 6 at the dark level and 18 at the light one. The pooled one, which is not used where the levels have their own, is the largest that the margin allows
abbrev edge_noise : ChannelStats
edge_noise =
    record { l0 = n 37; l1 = n 63; sigma_l = n 10; sigma_ab = n 1000; sigma_ab_dark = n 6; sigma_ab_light = n 18; samples = 0 }

-- The dark colours at L + sigma_l/2, which is 0, have a `luma_llr` of exactly 13, the light ones at L - sigma_l/2, which is 100, of exactly -13. Each colour's a and b differ from its hue point
-- by exactly one chroma sigma of its level, and the light colours' a from the other hue point by 73, more than four such sigmas by 1. Black and white are exactly half a sigma from the
-- colours of hue 1 in L, a and b. In order: the two levels, the points of hues 0 and 1, the dark colours of hues 0 and 1, the light ones.
abbrev edge_palette : List Float
edge_palette =
    n 0 ∷ n 100 ∷
    n 64 ∷ n 9 ∷
    n 9 ∷ n 9 ∷
    neg (n 5) ∷ n 70 ∷ n 3 ∷
    neg (n 5) ∷ n 3 ∷ n 3 ∷
    n 105 ∷ n 82 ∷ neg (n 9) ∷
    n 105 ∷ neg (n 9) ∷ neg (n 9) ∷
    []

-- two grid modules, a ring module and a cell, of either cell size: the ring module carries chroma at 1 and not at 2
abbrev edge_at : ChannelStats → ℕ → Setting
edge_at noise size =
    record {
      layout = record { side = 21; hues = 2; size = size; grid = 2 };
      xs = pos 0 ∷ pos 2 ∷ negsuc 0 ∷ [];
      ys = pos 0 ∷ pos 0 ∷ pos 0 ∷ [];
      cxs = 1 ∷ [];
      cys = 0 ∷ [];
      palette = edge_palette;
      mask = 0;
      model = unit_model 21 4;
      noise = noise;
    }

abbrev pub edge : ℕ → Setting
edge = edge_at edge_noise

edge-fits : T (all_fit edge_palette)
unfolding all_fit fits fraction round neg
edge-fits = tt

pub edge-singles : (size : ℕ) → Singles (edge size)
unfolding fits fraction round
edge-singles size = record { palette = each_fits edge_palette edge-fits; l0 = tt; l1 = tt; sigma-l = tt; sigma-ab = tt; sigma-ab-dark = tt; sigma-ab-light = tt }

pub edge-margin : (size : ℕ) → InMargin (edge size)
unfolding computed
edge-margin size = refl

-- linear (3, 0.5, 1.25), in Lab near (103, 86, -7): within half a sigma of the light colour of hue 0
abbrev rose : List Float → List Float
rose l = n 3 ∷ fraction 1 2 ∷ fraction 5 4 ∷ l

-- Cell size 2, two cards whose luma bits all differ. No module carries chroma, so each is near a colour of hue 1 whatever hue stands at its place of the hue list: 7, which was lent.
abbrev pub wide_card : Card
wide_card = card 3 1 (1 ∷ 0 ∷ 1 ∷ 0 ∷ []) (black (white (white []))) (black [])

abbrev pub wide_other : Card
wide_other = card 3 1 (0 ∷ 1 ∷ 0 ∷ 0 ∷ []) (white (black (black []))) (white [])

pub wide-readable : Readable (edge 2) wide_card
unfolding computed
wide-readable =
    record {
      drawn = refl;
      accepted = record { scoring = refl; refinement = refl; unmasking = refl; luma = refl; chroma = refl };
      near =
          record {
            each_module =
                first_three (NearModule (edge 2) wide_card)
                (record { hue = 1; below = omega arith; own = none; near = refl })
                (record { hue = 1; below = omega arith; own = none; near = refl })
                (record { hue = 1; below = omega arith; own = none; near = refl });
            each-cell = λ on. first_one (NearCell (edge 2) wide_card) (record { level = 0; below = omega arith; near = refl });
          };
    }

pub wide-drawn : bits_drawn (edge 2) wide_card ≡ 1 ∷ 0 ∷ 1 ∷ 0 ∷ []
unfolding computed bits_drawn
wide-drawn = refl

pub wide-other-readable : Readable (edge 2) wide_other
unfolding computed
wide-other-readable =
    record {
      drawn = refl;
      accepted = record { scoring = refl; refinement = refl; unmasking = refl; luma = refl; chroma = refl };
      near =
          record {
            each_module =
                first_three (NearModule (edge 2) wide_other)
                (record { hue = 1; below = omega arith; own = none; near = refl })
                (record { hue = 1; below = omega arith; own = none; near = refl })
                (record { hue = 1; below = omega arith; own = none; near = refl });
            each-cell = λ on. first_one (NearCell (edge 2) wide_other) (record { level = 1; below = omega arith; near = refl });
          };
    }

pub wide-other-drawn : bits_drawn (edge 2) wide_other ≡ 0 ∷ 1 ∷ 0 ∷ 0 ∷ []
unfolding computed bits_drawn
wide-other-drawn = refl

-- a third card of cell size 2, whose bits are those of `wide_card` but for the cell's
abbrev pub wide_cell : Card
wide_cell = card 3 1 (1 ∷ 0 ∷ 1 ∷ 1 ∷ []) (black (white (white []))) (rose [])

pub wide-cell-readable : Readable (edge 2) wide_cell
unfolding computed
wide-cell-readable =
    record {
      drawn = refl;
      accepted = record { scoring = refl; refinement = refl; unmasking = refl; luma = refl; chroma = refl };
      near =
          record {
            each_module =
                first_three (NearModule (edge 2) wide_cell)
                (record { hue = 1; below = omega arith; own = none; near = refl })
                (record { hue = 1; below = omega arith; own = none; near = refl })
                (record { hue = 1; below = omega arith; own = none; near = refl });
            each-cell = λ on. first_one (NearCell (edge 2) wide_cell) (record { level = 1; below = omega arith; near = refl });
          };
    }

pub wide-cell-drawn : bits_drawn (edge 2) wide_cell ≡ 1 ∷ 0 ∷ 1 ∷ 1 ∷ []
unfolding computed bits_drawn
wide-cell-drawn = refl

-- Cell size 1, two cards likewise: the ring module carries chroma, so it is near the colour of the hue that it is drawn in, which is 1.
abbrev pub narrow_card : Card
narrow_card = card 3 2 (1 ∷ 0 ∷ 1 ∷ 0 ∷ 1 ∷ []) (black (white (white []))) (black [])

abbrev pub narrow_other : Card
narrow_other = card 3 2 (0 ∷ 1 ∷ 0 ∷ 0 ∷ 1 ∷ []) (white (black (black []))) (white [])

pub narrow-readable : Readable (edge 1) narrow_card
unfolding computed
narrow-readable =
    record {
      drawn = refl;
      accepted = record { scoring = refl; refinement = refl; unmasking = refl; luma = refl; chroma = refl };
      near =
          record {
            each_module =
                first_three (NearModule (edge 1) narrow_card)
                (record { hue = 1; below = omega arith; own = λ e. refl; near = refl })
                (record { hue = 1; below = omega arith; own = λ e. refl; near = refl })
                (record { hue = 1; below = omega arith; own = λ e. refl; near = refl });
            each-cell = λ on. first_one (NearCell (edge 1) narrow_card) (record { level = 0; below = omega arith; near = refl });
          };
    }

pub narrow-drawn : bits_drawn (edge 1) narrow_card ≡ 1 ∷ 0 ∷ 1 ∷ 0 ∷ 1 ∷ []
unfolding computed bits_drawn
narrow-drawn = refl

pub narrow-other-readable : Readable (edge 1) narrow_other
unfolding computed
narrow-other-readable =
    record {
      drawn = refl;
      accepted = record { scoring = refl; refinement = refl; unmasking = refl; luma = refl; chroma = refl };
      near =
          record {
            each_module =
                first_three (NearModule (edge 1) narrow_other)
                (record { hue = 1; below = omega arith; own = λ e. refl; near = refl })
                (record { hue = 1; below = omega arith; own = λ e. refl; near = refl })
                (record { hue = 1; below = omega arith; own = λ e. refl; near = refl });
            each-cell = λ on. first_one (NearCell (edge 1) narrow_other) (record { level = 1; below = omega arith; near = refl });
          };
    }

pub narrow-other-drawn : bits_drawn (edge 1) narrow_other ≡ 0 ∷ 1 ∷ 0 ∷ 0 ∷ 1 ∷ []
unfolding computed bits_drawn
narrow-other-drawn = refl

-- a third card of cell size 1, whose bits are those of `narrow_card` but for the ring module's chroma bit: the ring module is drawn in hue 0, and the grid modules, which carry no chroma, are near colours of hue 1
abbrev pub narrow_ring : Card
narrow_ring = card 3 2 (1 ∷ 0 ∷ 1 ∷ 0 ∷ 0 ∷ []) (black (white (rose []))) (black [])

pub narrow-ring-readable : Readable (edge 1) narrow_ring
unfolding computed
narrow-ring-readable =
    record {
      drawn = refl;
      accepted = record { scoring = refl; refinement = refl; unmasking = refl; luma = refl; chroma = refl };
      near =
          record {
            each_module =
                first_three (NearModule (edge 1) narrow_ring)
                (record { hue = 1; below = omega arith; own = none; near = refl })
                (record { hue = 1; below = omega arith; own = none; near = refl })
                (record { hue = 0; below = omega arith; own = λ e. refl; near = refl });
            each-cell = λ on. first_one (NearCell (edge 1) narrow_ring) (record { level = 0; below = omega arith; near = refl });
          };
    }

pub narrow-ring-drawn : bits_drawn (edge 1) narrow_ring ≡ 1 ∷ 0 ∷ 1 ∷ 0 ∷ 0 ∷ []
unfolding computed bits_drawn
narrow-ring-drawn = refl

-- ---- at 9 and not at 13: with these levels the dark colours at L + sigma_l/2 have a `luma_llr` of exactly 9 and the light ones at L - sigma_l/2 of exactly -9, so the scores of `narrow_card` are 9 times the
-- weight. Refinement looks at them, and leaves them for want of 12 samples

abbrev nine_noise : ChannelStats
nine_noise =
    record { l0 = n 41; l1 = n 59; sigma_l = n 10; sigma_ab = n 1000; sigma_ab_dark = n 6; sigma_ab_light = n 18; samples = 0 }

abbrev pub nine : Setting
nine = edge_at nine_noise 1

pub nine-singles : Singles nine
unfolding fits fraction round
nine-singles = record { palette = each_fits edge_palette edge-fits; l0 = tt; l1 = tt; sigma-l = tt; sigma-ab = tt; sigma-ab-dark = tt; sigma-ab-light = tt }

pub nine-margin : InMarginAt Nine nine
unfolding computed
nine-margin = refl

pub nine-outside : InMarginAt Thirteen nine → ⊥
unfolding computed
nine-outside e = none (some-injective false true (ap (λ a. a.value) e))

pub nine-readable : Readable nine narrow_card
unfolding computed
nine-readable =
    record {
      drawn = refl;
      accepted = record { scoring = refl; refinement = refl; unmasking = refl; luma = refl; chroma = refl };
      near =
          record {
            each_module =
                first_three (NearModule nine narrow_card)
                (record { hue = 1; below = omega arith; own = λ e. refl; near = refl })
                (record { hue = 1; below = omega arith; own = λ e. refl; near = refl })
                (record { hue = 1; below = omega arith; own = λ e. refl; near = refl });
            each-cell = λ on. first_one (NearCell nine narrow_card) (record { level = 0; below = omega arith; near = refl });
          };
    }

pub nine_no_nan : NoNan nine narrow_card
unfolding computed sure refine_one beyond luminance_near pushed sample_at offset luminance
nine_no_nan = first_three (λ i. is_nan (get_or (refined_card nine narrow_card).luma i nan) ≡ false) refl refl refl

pub nine-drawn : bits_drawn nine narrow_card ≡ 1 ∷ 0 ∷ 1 ∷ 0 ∷ 1 ∷ []
unfolding computed bits_drawn
nine-drawn = refl

-- ---- one hue: chroma is off, so the hue point may be anywhere, the ring module has no hue of its own at cell size 1, and the cell, which is red, is near no palette colour

abbrev lone_palette : List Float
lone_palette = n 0 ∷ n 100 ∷ n 200 ∷ n 200 ∷ neg (n 5) ∷ n 3 ∷ n 3 ∷ n 105 ∷ neg (n 9) ∷ neg (n 9) ∷ []

abbrev pub lone : Setting
lone =
    record {
      layout = record { side = 21; hues = 1; size = 1; grid = 1 };
      xs = pos 0 ∷ negsuc 0 ∷ [];
      ys = pos 0 ∷ pos 0 ∷ [];
      cxs = 1 ∷ [];
      cys = 0 ∷ [];
      palette = lone_palette;
      mask = 0;
      model = unit_model 21 4;
      noise = edge_noise;
    }

abbrev pub lone_card : Card
lone_card = card 2 0 (0 ∷ 0 ∷ []) (white (black [])) (n 1 ∷ n 0 ∷ n 0 ∷ [])

lone-fits : T (all_fit lone_palette)
unfolding all_fit fits fraction round neg
lone-fits = tt

pub lone-singles : Singles lone
unfolding fits fraction round
lone-singles = record { palette = each_fits lone_palette lone-fits; l0 = tt; l1 = tt; sigma-l = tt; sigma-ab = tt; sigma-ab-dark = tt; sigma-ab-light = tt }

pub lone-margin : InMargin lone
unfolding computed
lone-margin = refl

pub lone-readable : Readable lone lone_card
unfolding computed
lone-readable =
    record {
      drawn = refl;
      accepted = record { scoring = refl; refinement = refl; unmasking = refl; luma = refl; chroma = refl };
      near =
          record {
            each_module =
                first_two (NearModule lone lone_card)
                (record { hue = 0; below = omega arith; own = none; near = refl })
                (record { hue = 0; below = omega arith; own = none; near = refl });
            each-cell = none;
          };
    }

pub lone-drawn : bits_drawn lone lone_card ≡ 0 ∷ 0 ∷ []
unfolding computed bits_drawn
lone-drawn = refl

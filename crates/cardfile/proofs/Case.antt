-- Document 01's case: antt computes its file's bytes, what they are opened as, the card in them, and its text. Assumes nothing.
use mathlib.Core.Path.{◌≡◌, refl, ◌∙◌}
use mathlib.Core.List.{[]}
use mathlib.Core.Bool.{xor}
use lib.Ieee.{add, sub, mul, div, neg, lt, le, eq, is_nan, round, of_int, to_unsigned, to_bits, of_bits}
use Rattle.sentences.specs.Sentences.{refusal, decided}
use Rattle.answers.specs.Answers.{gives}
use Rattle.loops.specs.Loops.{some_of, any_up, turns, for_up}
use Rattle.limits.specs.Limits.{bad_side, bad_hues, bad_cell_size, bad_modules, bad_counts, bad_cell}
use Rattle.limits.specs.Chroma.{chroma_on, halvings, log2, weighted, symbol_bits, chroma_entries, chroma_length}
use Rattle.places.specs.Places.{outside, misplaced}
use Rattle.layout.specs.Groups.{shape, module_placement, bad_positions, placement}
use Rattle.floatlaws.specs.Value.{mag}
use Rattle.float.specs.Select.{abs, max, min, clamp}
use Rattle.float.specs.Root.{digits, iroot, root_of_units, sqrt_of, cbrt_of}
use Rattle.float.specs.Single.{to_single}
use Rattle.color.specs.Color.{fraction, linear_to_xyz, line, lab_f, lightness, xyz_to_lab}
use Rattle.color.specs.Palette.{level_l, hue_ab, palette_lab, linear_at, wild, wild_linear}
use Rattle.illum.specs.Surface.{least_gain, terms_used, normalised, basis_at, add_term, is_held, hold_gain, deshade}
use Rattle.illum.specs.Correct.{unit_model, affine_row, unshaded, mixed}
use Rattle.illum.specs.Refusals.{bad_terms, bad_model_side, not_finite_affine, not_finite_gains, not_finite_flares, not_finite_model, bad_shape, bad_model}
use Rattle.symbols.specs.Mask.{mask_rules, luma_mask}
use Rattle.modulate.specs.Score.{masked_at, unmask_at, bad_luma_lengths, unmask_sentences, unmask_luma_of}
use Rattle.reading.specs.Read.{reads, read_sentences, read_list_of}
use Rattle.stats.specs.Noise.{between, sigma_ab_at, luma_llr, distance, closer, weight, reliability}
use Rattle.stats.specs.Calls.{short_palette, wild_figure, bad_noise_numbers, bad_level_sigma, bad_sigmas, bad_numbers}
use Rattle.references.specs.References.{short_scratch, too_many, reference_placement}
use Rattle.fit.specs.Fit as fitting
use Rattle.fit.specs.Fit.{terms_for, fit_sentences, fit_of}
use Rattle.measure.specs.Measure as measuring
use Rattle.measure.specs.Measure.{too_short, sentences_for, measure_of}
use Rattle.observed.specs.Colours.{centre, module_colour}
use Rattle.scores.specs.Score.{weighed, luma_score, write_module, ring_chroma, chroma_written}
use Rattle.demod.specs.Call as scoring
use Rattle.demod.specs.Call.{bad_module_lengths, bad_cell_lengths, short_chroma, bad_lengths, bad_inputs, bad_corrected, scored_of}
use Rattle.refine.specs.Calls as refinement
use Rattle.refine.specs.Calls.{short_slices, wild_numbers, refined_of, refine_of}
use Rattle.refine.specs.Refine.{place_at, sure, refine_one, refine_at, refined}
use Rattle.card.specs.Number.{u16_at, u32_at, f32_at, i16_of, i16_at}
use Rattle.card.specs.File as file
use Rattle.card.specs.File.{offset_of, length_of, start_of, bad_directory, bad_palette, large_side, malformed, settings_at, section_of, card_of, opened}
use Rattle.card.specs.declared.Card.{Card}
use Rattle.listing.specs.Text.{row, rows}
use Rattle.listing.specs.Listing as listing
use Rattle.listing.specs.Listing.{decimal, signed, hex_digit, hex, score_end, fit_line, luma_line}
use Rattle.bits.specs.Reading.{read_of}
use Rattle.readout.specs.Reading.{text_of, score_text}
use Rattle.reader.specs.File.{list_from, list_of, sheet_of, references_of}
use Rattle.reader.specs.Fitting.{after_measuring, measure_text, after_fitting, fit_text}
use Rattle.reader.specs.Text.{card_text}
use Rattle.cardfile.specs.Writer.{u16_bytes, u32_bytes, bits_of, i16_bytes, f32_bytes, settings_bytes, float_at_bytes, colour_bytes, module_bytes, cell_bytes, directory, sections, card_file}
use Rattle.cardfile.specs.Laws.{the_case, the_text}
use Rattle.cardfile.proofs.Written.{read_as}

-- ---- the case

abbrev case_card : Card
case_card =
    record {
      settings = the_case.settings;
      palette = 48;
      references = record { at = 88; count = 0 };
      modules = record { at = 88; count = 2 };
      cells = record { at = 120; count = 0 };
    }

case_opens : opened 5 (card_file the_case []) ≡ gives case_card
unfolding u16_bytes u32_bytes bits_of i16_bytes f32_bytes settings_bytes float_at_bytes colour_bytes module_bytes cell_bytes directory sections card_file row rows fraction round to_bits opened refusal decided malformed bad_directory bad_palette file.bad_lengths large_side card_of settings_at section_of offset_of length_of start_of u16_at u32_at any_up some_of
case_opens = refl

case_sheet : sheet_of (card_file the_case []) case_card ≡ the_case
unfolding u16_bytes u32_bytes bits_of i16_bytes f32_bytes settings_bytes float_at_bytes colour_bytes module_bytes cell_bytes directory sections card_file row rows fraction round to_bits of_bits sheet_of list_of list_from f32_at u32_at u16_at i16_at i16_of
case_sheet = refl

case_references : references_of (card_file the_case []) case_card ≡ []
unfolding references_of list_of list_from
case_references = refl

case_text : fit_text the_case [] ≡ the_text
unfolding add sub mul div neg lt le eq round is_nan fraction to_bits of_bits abs max min clamp refusal decided some_of any_up turns for_up bad_hues short_palette bad_numbers wild bad_noise_numbers wild_figure bad_sigmas bad_level_sigma level_l hue_ab palette_lab luma_llr chroma_on sigma_ab_at between bad_side bad_cell_size chroma_length symbol_bits log2 halvings chroma_entries shape placement module_placement bad_counts bad_modules bad_positions misplaced outside bad_cell xor luma_mask mask_rules unit_model module_colour centre of_int linear_at mixed unshaded affine_row basis_at normalised terms_used add_term is_held hold_gain least_gain deshade to_single linear_to_xyz xyz_to_lab lightness lab_f line cbrt_of digits iroot root_of_units mag scored_of scoring.sentences_of bad_lengths bad_module_lengths bad_cell_lengths short_chroma bad_inputs bad_corrected wild_linear bad_model bad_shape bad_terms bad_model_side not_finite_model not_finite_affine not_finite_gains not_finite_flares to_unsigned write_module luma_score weighted weighed reliability closer distance weight sqrt_of chroma_written ring_chroma refine_of refinement.sentences_of short_slices wild_numbers refined_of refined refine_at refine_one sure place_at unmask_luma_of unmask_sentences bad_luma_lengths unmask_at masked_at read_list_of read_sentences reads short_scratch too_many reference_placement fit_sentences fit_of terms_for fitting.short fitting.marks_left fitting.fitted too_short sentences_for measure_of measuring.measured measuring.wild_numbers measuring.bad_corrected read_of text_of score_text after_measuring measure_text after_fitting fit_text row rows listing.listing listing.digits decimal signed hex_digit hex score_end fit_line luma_line
case_text = refl

pub the-case : card_text (card_file the_case []) ≡ the_text
the-case = read_as (card_file the_case []) case_card the_case [] case_opens case_sheet case_references ∙ case_text

-- What a readable card's calls say: none of their sentences holds, so each left what its definition writes. Assumes nothing.
use mathlib.Core.Path.{◌≡◌, refl, sym, ap, ◌∙◌}
use mathlib.Core.Bool.{Bool, true, false, cond}
use mathlib.Core.List.{List}
use Prim.Native.Nat.{ℕ, zero, suc, ◌≤◌, ◌<◌}
use native.Mathlib.Nat.{mod-lt}
use native.Mathlib.Omega.{arith}
use borrow.Author.Tests.{ltb-false}
use lib.Dec.{ltb}
use lib.ListN.{length, get_or}
use lib.Ieee.{Float, nan}
use Rattle.sentences.specs.Sentences.{refusal, decided, at, sound, fresh}
use Rattle.symbols.specs.Gray.{chroma_symbol_to_hue}
use Rattle.symbols.specs.Mask.{chroma_mask_apply}
use Rattle.modulate.specs.Draw.{grid_level, ring_level, cell_hue, ring_hue, level_at, hue_at, entries_of}
use Rattle.modulate.specs.Score.{unmasked, unmask_sentences, unmask_luma_of}
use Rattle.reading.specs.Read.{reads, read_score_at, read_list, read_sentences, read_list_of}
use Rattle.modulate.proofs.Symbols.{bit_lt}
use Rattle.lists.proofs.Laws.{Reached, reached}
use Rattle.answers.proofs.Answers.{given_is, list_done, none_of}
use Rattle.modulate.proofs.Accepted.{IsDrawn, drawn-done}
use Rattle.limits.specs.Chroma.{chroma_on}
use Rattle.margin.specs.Margin.{in_margin}
use Rattle.margin.specs.declared.Threshold.{Threshold}
use Rattle.margin.specs.declared.Threshold.TheVariants.{Nine}
use Rattle.stats.specs.Calls as stats
use Rattle.margin.specs.Calls.{least_of}
use Rattle.margin.proofs.Clear.{Clear, clear}
use Rattle.margin.proofs.Wider.{yes_at_nine}
use Rattle.stats.proofs.Range.{Held}
use Rattle.demod.proofs.Accepted as scored
use Rattle.demod.proofs.Outcome.{IsDone, at_done}
use Rattle.refine.specs.Calls as refinement
use Rattle.refine.proofs.Accepted as refining
use Rattle.guarantee.specs.Card.{Setting, Card, modules, to_draw, drawn_card, to_score, to_refine, refined_card, unmasked_card}
use Rattle.guarantee.specs.Guarantee.{Singles, InMargin, Readable, InMarginAt}
use Rattle.guarantee.proofs.Sample.{Fits}

-- ---- a call that reads a list

module _ (scores : List Float) (bits : List ℕ) (done : (read_list_of scores bits).number ≡ 0) where
  was_done : (0 ≡ refusal (read_sentences scores bits)) × ((read_list_of scores bits).list ≡ read_list scores bits)
  unfolding read_list_of
  was_done = list_done (read_sentences scores bits) bits (read_list scores bits) done

  read-room : length scores ≤ length bits
  unfolding read_sentences at sound fresh
  read-room = ltb-false (length bits) (length scores) (none_of (read_sentences scores bits) refl 0 was_done.0 refl 5)

  all_read : Reached 0 (read_score_at scores) bits (length scores) (read_list scores bits)
  all_read = reached 0 (read_score_at scores) bits (length scores) read-room

  pub read_at : (i : ℕ) → i < length scores → get_or (read_list_of scores bits).list i 0 ≡ reads (get_or scores i nan)
  read_at i h = ap (λ (l : List ℕ). get_or l i 0) was_done.1 ∙ all_read.done i h

  pub read-long : length scores ≤ length (read_list_of scores bits).list
  read-long = rw was_done.1 (omega (arith, all_read.long, read-room))

-- ---- refinement's number

refine_by : (q : refinement.Request) (n : ℕ) → (decided n (refinement.turned_away q) (refinement.final_of (refinement.refined_of q))).number ≡ n
unfolding decided
refine_by q zero = refl
refine_by q (suc n) = refl

refine-number : (q : refinement.Request) → (refinement.refine_of q).number ≡ refusal (refinement.sentences_of q)
unfolding refinement.refine_of
refine-number q = refine_by q (refusal (refinement.sentences_of q))

-- ---- levels and hues

either : (b : Bool) (x y n : ℕ) → x < n → y < n → cond b x y < n
either true x y n p q = p
either false x y n p q = q

pub level_two : (bits : List ℕ) (s : Setting) (i : ℕ) → level_at bits s.xs s.ys s.layout.grid s.mask i < 2
unfolding level_at grid_level ring_level
level_two bits s i = either (ltb i s.layout.grid) _ _ 2 (bit_lt _) (bit_lt _)

pub hue-below : (bits : List ℕ) (hues m : ℕ) (cxs cys : List ℕ) (j : ℕ) → 0 < hues → hue_at bits hues m cxs cys j < hues
unfolding hue_at cell_hue ring_hue chroma_mask_apply chroma_symbol_to_hue
hue-below bits hues m cxs cys j h = either (ltb j (length cxs)) _ _ hues (mod-lt _ h) (mod-lt _ h)

module _ (s : Setting) (c : Card) (R : Readable s c) where
  -- drawing
  pub is_drawn : IsDrawn (to_draw s c)
  is_drawn = drawn-done (to_draw s c) R.drawn

  pub drawn-level : (i : ℕ) → i < modules s → get_or (drawn_card s c).levels i 0 ≡ level_at c.bits s.xs s.ys s.layout.grid s.mask i
  drawn-level i h = ap (λ d. get_or d.levels i 0) is_drawn.left ∙ is_drawn.level i h

  pub drawn-hue : chroma_on s.layout.hues ≡ true → (j : ℕ) → j < entries_of s.layout (modules s) (length s.cxs) →
      get_or (drawn_card s c).hues j 0 ≡ hue_at c.bits s.layout.hues (modules s) s.cxs s.cys j
  drawn-hue on j h = ap (λ d. get_or d.hues j 0) is_drawn.left ∙ is_drawn.hue on j h

  -- scoring
  pub scored-card : IsDone (to_score s c)
  scored-card = at_done (to_score s c) (scored.done-answer (to_score s c) R.accepted.scoring)

  pub scoring_knows : scored.Accepted (to_score s c)
  scoring_knows = scored-card.fit

  -- refinement
  refine-zero : 0 ≡ refusal (refinement.sentences_of (to_refine s c))
  refine-zero = sym R.accepted.refinement ∙ refine-number (to_refine s c)

  pub refined_is : refinement.final_of (refinement.refined_of (to_refine s c)) ≡ refined_card s c
  refined_is = refining.at_done (to_refine s c) refine-zero

  -- unmasking
  pub unmasked_is : (unmasked_card s c).list ≡ unmasked s.mask s.xs s.ys s.layout.grid (refined_card s c).luma
  unfolding unmask_luma_of
  unmasked_is =
      (list_done (unmask_sentences (refined_card s c).luma s.layout.side s.xs s.ys s.layout.grid) (refined_card s c).luma
      (unmasked s.mask s.xs s.ys s.layout.grid (refined_card s c).luma) R.accepted.unmasking).1

-- ---- the setting's numbers

pub held : (s : Setting) → Singles s → Held s.noise
held s p = record { l0 = p.l0; l1 = p.l1; sigma-l = p.sigma-l; sigma-ab = p.sigma-ab; sigma-ab-dark = p.sigma-ab-dark; sigma-ab-light = p.sigma-ab-light }

pub palette-fits : (s : Setting) → Singles s → Fits s.palette
palette-fits s p = record { at = p.palette }

-- each clause of the margin check's sentence, at a setting's threshold
pub in-margin : (least : Threshold) (s : Setting) → InMarginAt least s → Clear (least_of least) s.noise s.palette s.layout.hues
in-margin least s e =
    let yes = given_is (stats.sentences_of s.noise s.palette s.layout.hues) (in_margin (least_of least) s.noise s.palette s.layout.hues) true (sym e) in
    clear (least_of least) s.noise s.palette s.layout.hues (sym yes)

-- a card inside the margin is so at 9
pub at_nine : (s : Setting) → InMargin s → InMarginAt Nine s
at_nine s e = yes_at_nine s.noise s.palette s.layout.hues e

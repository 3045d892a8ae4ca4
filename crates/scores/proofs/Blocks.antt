-- Colours that are taken a block at a time are scored as one by one: a block's lists hold, entry by entry, what the definitions give of its colours, and the turns of a loop up to n are those up to
-- some j and then those from j on. Assumes nothing.
use mathlib.Core.Path.{◌≡◌, refl, sym, ap, ◌∙◌}
use mathlib.Core.Logic.{⊎_elim}
use mathlib.Core.Bool.{true}
use mathlib.Core.List.{List}
use Prim.Native.Nat.{ℕ, suc, ◌+◌, ◌-◌, ◌*◌, ◌≤◌, ◌<◌, zero-le}
use native.Mathlib.Omega.{arith}
use native.Mathlib.Nat.{zero-add, eq-or-lt_of_le}
use borrow.Author.Tests.{lt-ltb, le-ltb}
use lib.ListN.{length}
use lib.Ieee.{Float}
use Rattle.loops.specs.Loops.{for_up}
use Rattle.loops.proofs.Laws.{Left, for_up-done, for_up-turn, for_up_to}
use Rattle.limits.specs.Chroma.{weighted}
use Rattle.color.specs.declared.Linear.{Linear}
use Rattle.color.specs.declared.Lab.{Lab}
use Rattle.color.specs.Color.{linear_to_lab}
use Rattle.color.specs.Palette.{linear_at}
use Rattle.stats.specs.declared.ChannelStats.{ChannelStats}
use Rattle.stats.specs.Noise.{nearest, weight, reliability}
use Rattle.illum.specs.declared.IlluminationModel.{IlluminationModel}
use Rattle.observed.specs.Entries.{number_at, lab_at, Block, onwards}
use Rattle.observed.specs.Colours.{cell_spot, cell_colour, spot_colour, write_colours, held_from, held_onwards}
use Rattle.observed.proofs.Corrected.{cell-colours, cells-held}
use Rattle.observed.proofs.Held.{colours_held}
use Rattle.scores.specs.Samples.{lab_of, distance_of, weight_of, reliability_of, Samples}
use Rattle.scores.specs.Score.{luma_score, luma_at, put_luma, put_lumas, luma_block, drawn_at, put_entry, put_entries, write_entry, write_cell, cell_block, write_ring, ring_block}

-- ---- the samples of a block

module _ (n : ChannelStats) (palette : List Float) (hues : ℕ) (colour : ℕ → Linear) (k : ℕ) (labs : List Lab) (weights : List Float) where
  -- by the Labs, the distances of these and the weights of those
  pub by_stages : (distances : List Float) → Block lab_at (lab_of colour) k labs → Block number_at (distance_of n palette hues (lab_at labs)) k distances → Block number_at (weight_of (number_at distances)) k weights →
      Samples n palette hues colour k labs weights
  unfolding lab_of distance_of weight_of reliability_of reliability
  by_stages distances p q r =
      record {
        sampled = p;
        believed = record { at = λ j h. r.at j h ∙ ap weight (q.at j h ∙ ap (λ (s : Lab). nearest n s palette hues) (p.at j h)) };
      }

  -- of colours that stand in a list of their own
  pub of_room : (room : List Float) → Block linear_at colour k room → Samples n palette hues (onwards (linear_at room) 0) k labs weights → Samples n palette hues colour k labs weights
  unfolding lab_of reliability_of onwards
  of_room room p s =
      let same : (j : ℕ) → j < k → linear_at room (0 + j) ≡ colour j = λ j h. ap (linear_at room) (zero-add j) ∙ p.at j h in
      record {
        sampled = record { at = λ j h. s.sampled.at j h ∙ ap linear_to_lab (same j h) };
        believed = record { at = λ j h. s.believed.at j h ∙ ap (λ (c : Linear). reliability n (linear_to_lab c) palette hues) (same j h) };
      }

-- ---- a loop in parts

in_parts : {S : Type 0} (f : ℕ → S → S) (n i j : ℕ) (s : S) → i ≤ j → j ≤ n → for_up i n f s ≡ for_up j n f (for_up i j f s)
in_parts f n i j s h k = for_up_to (λ m t. for_up i n f s ≡ for_up m n f t) f j i s h refl (λ m p q t e. e ∙ for_up-turn f n m t (omega arith))

-- the turns that are left before a block are, after its k, those from its end on
block_to : {S : Type 0} {f : ℕ → S → S} {n from : ℕ} {before after all : S} (k : ℕ) → Left f n from before all → after ≡ for_up from (from + k) f before → from + k ≤ n → Left f n (from + k) after all
block_to {f = f} {n = n} {from = from} {before = before} k inv e h = record { same = ap (for_up (from + k) n f) e ∙ sym (in_parts f n from (from + k) before (omega arith) h) ∙ inv.same }

-- a block of 16 turns, or of those that are left
pub block_on : {S : Type 0} {f : ℕ → S → S} {n from : ℕ} {before after all : S} (k : ℕ) → Left f n from before all → after ≡ for_up from (from + k) f before → from + k ≤ n → k + (16 - (n - from)) ≡ 16 →
    Left f n (from + 16) after all
block_on {f = f} {n = n} {from = from} {after = after} k inv e h q =
    let b = block_to k inv e h in
    ⊎_elim (λ (u : k ≡ 16). record { same = ap (λ (c : ℕ). for_up (from + c) n f after) (sym u) ∙ b.same })
    (λ (u : k < 16). record { same = for_up-done f n (from + 16) after (omega arith) ∙ sym (for_up-done f n (from + k) after (omega arith)) ∙ b.same })
    (eq-or-lt_of_le (let z : k ≤ 16 = omega arith in z))

-- k turns that are counted from 0, and are those from `from` on
counted : {S : Type 0} (f g : ℕ → S → S) (from k : ℕ) (s : S) → ((j : ℕ) → j < k → (t : S) → g j t ≡ f (from + j) t) → for_up 0 k g s ≡ for_up from (from + k) f s
counted f g from k s same =
    sym (for_up_to (λ j t. for_up from (from + j) f s ≡ t) g k 0 s zero-le (for_up-done f (from + 0) from s (omega arith))
    (λ j p q t e. in_parts f (from + suc j) from (from + j) s (omega arith) (omega arith) ∙ for_up-turn f (from + suc j) (from + j) (for_up from (from + j) f s) (omega arith) ∙
    for_up-done f (from + suc j) (suc (from + j)) _ (omega arith) ∙ ap (f (from + j)) e ∙ sym (same j q t)))

-- ---- the scores of a block, by its samples

-- k is m, by which the code counts
module _ (n : ChannelStats) (palette : List Float) (hues : ℕ) (colour : ℕ → Linear) (from k m : ℕ) (labs : List Lab) (weights before after : List Float) (s : Samples n palette hues (onwards colour from) k labs weights) (q : k ≡ m) where
  pub luma_scores : weighted hues ≡ true → after ≡ put_lumas n labs weights from k before → after ≡ luma_block n palette hues colour from m before
  unfolding put_luma luma_at luma_score lab_of reliability_of onwards
  luma_scores w e =
      e ∙ counted (luma_at n palette hues colour) (put_luma n labs weights from) from k before (λ j h t. rw (s.sampled.at j h, s.believed.at j h, w)) ∙
      ap (λ (c : ℕ). luma_block n palette hues colour from c before) q

  module _ (cxs cys : List ℕ) where
    pub cell_scores : from + m ≤ length cxs → after ≡ put_entries n palette hues cxs cys labs weights from k before → after ≡ cell_block n palette hues cxs cys colour from m before
    unfolding put_entry drawn_at write_cell write_entry lab_of reliability_of onwards
    cell_scores l e =
        e ∙ counted (write_cell n palette hues cxs cys colour) (put_entry n palette hues cxs cys labs weights from) from k before
        (λ j h t. rw (s.sampled.at j h, s.believed.at j h, lt-ltb (from + j) (length cxs) (omega arith))) ∙ ap (λ (c : ℕ). cell_block n palette hues cxs cys colour from c before) q

    pub ring_scores : (grid first : ℕ) → first ≡ length cxs + (from - grid) → grid ≤ from → after ≡ put_entries n palette hues cxs cys labs weights first k before →
        after ≡ ring_block n palette hues (length cxs) grid colour from m before
    unfolding put_entry drawn_at write_ring write_entry lab_of reliability_of onwards
    ring_scores grid first f g e =
        e ∙ counted (write_ring n palette hues (length cxs) grid colour) (put_entry n palette hues cxs cys labs weights first) from k before
        (λ j h t.
        let p : first + j ≡ length cxs + (from + j - grid) = omega arith in
        rw (s.sampled.at j h, s.believed.at j h, p, le-ltb (length cxs + (from + j - grid)) (length cxs) (omega arith))) ∙
        ap (λ (c : ℕ). ring_block n palette hues (length cxs) grid colour from c before) q

-- ---- the corrected colours of a block of cells, and their samples

module _ (model : IlluminationModel) (size : ℕ) (cxs cys : List ℕ) (raw : List Float) (from n : ℕ) where
  pub cells_corrected : (lent room : List Float) → room ≡ write_colours (onwards (spot_colour model (cell_spot size cxs cys raw)) from) n lent → 3 * n ≤ length lent → Block linear_at (onwards (cell_colour model size cxs cys raw) from) n room
  cells_corrected lent room e h = rw (e, ← cell-colours model size cxs cys raw) (colours_held (onwards (spot_colour model (cell_spot size cxs cys raw)) from) lent n h)

  pub cells_sampled : (noise : ChannelStats) (palette : List Float) (hues k : ℕ) (labs : List Lab) (weights lent room : List Float) → Samples noise palette hues (onwards (linear_at room) 0) k labs weights → k ≡ n →
      room ≡ write_colours (onwards (spot_colour model (cell_spot size cxs cys raw)) from) n lent → 3 * n ≤ length lent → Samples noise palette hues (onwards (cell_colour model size cxs cys raw) from) k labs weights
  cells_sampled noise palette hues k labs weights lent room s q e h = of_room noise palette hues (onwards (cell_colour model size cxs cys raw) from) k labs weights room (rw q (cells_corrected lent room e h)) s

  pub cells_counted : (held r : ℕ) → r ≡ held_from model (cell_spot size cxs cys raw) from n held → r ≡ held_onwards model size cxs cys from n held
  cells_counted held r e = rw (← cells-held model size cxs cys raw) e

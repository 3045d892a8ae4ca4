-- The modules' colours and scores in two passes are those of one, and the ring's chroma scores after them: the lists do not touch each other, and the later passes find in
-- the list of colours those that the first one wrote. Assumes nothing.
use mathlib.Core.Path.{◌≡◌, refl, sym, ap, ◌∙◌}
use mathlib.Core.List.{List}
use Prim.Native.Nat.{ℕ, zero, suc, ◌+◌, ◌-◌, ◌*◌, ◌≤◌, ◌<◌}
use lib.ListN.{length, set}
use lib.Ieee.{Float}
use Rattle.loops.specs.Loops.{turns, for_up}
use Rattle.loops.proofs.Laws.{for_up_same}
use Rattle.layout.specs.declared.Layout.{Layout}
use Rattle.color.specs.declared.Linear.{Linear}
use Rattle.color.specs.Palette.{linear_at}
use Rattle.modulate.specs.declared.Cell.TheVariants.{Unmasked}
use Rattle.stats.specs.declared.ChannelStats.{ChannelStats}
use Rattle.scores.specs.Score.{luma_score, Sheet, sheet, write_module, write_modules, luma_at, write_lumas, write_entry, write_cells, write_ring, write_rings, ring_chroma, chroma_written}
use Rattle.observed.specs.Colours.{colour_at, write_colours}
use Rattle.scores.proofs.Written.{modules_are}

module _ (n : ChannelStats) (palette : List Float) (hues : ℕ) (colour : ℕ → Linear) where
  turns-apart : (k i : ℕ) (luma colours : List Float)
      → turns k i (write_module n palette hues colour) (sheet luma colours) ≡ sheet (turns k i (luma_at n palette hues colour) luma) (turns k i (colour_at colour) colours)
  unfolding turns write_module luma_at colour_at
  turns-apart zero i luma colours = refl
  turns-apart (suc k) i luma colours = turns-apart k (suc i) (luma_at n palette hues colour i luma) (colour_at colour i colours)

  module _ (m : ℕ) (luma colours : List Float) where
    apart : write_modules n palette hues colour m (sheet luma colours) ≡ sheet (write_lumas n palette hues colour m luma) (write_colours colour m colours)
    unfolding for_up
    apart = turns-apart (m - 0) 0 luma colours

    module _ (hl : m ≤ length luma) (hc : 3 * m ≤ length colours) where
      found : (j : ℕ) → j < m → linear_at (write_colours colour m colours) j ≡ colour j
      found j h = ap (λ (s : Sheet). linear_at s.colours j) (sym apart) ∙ (modules_are n palette hues colour luma colours m hl hc).coloured j h

      scores : write_lumas n palette hues (linear_at (write_colours colour m colours)) m luma ≡ write_lumas n palette hues colour m luma
      unfolding luma_at
      scores =
          for_up_same (luma_at n palette hues (linear_at (write_colours colour m colours))) (luma_at n palette hues colour) m 0 luma
          (λ j l h s. ap (λ (c : Linear). set s j (luma_score n palette hues c)) (found j h))

      pub in_two : (after lit : List Float) → after ≡ write_colours colour m colours → lit ≡ write_lumas n palette hues (linear_at after) m luma →
          sheet lit after ≡ write_modules n palette hues colour m (sheet luma colours)
      in_two after lit e h =
          let q : lit ≡ write_lumas n palette hues colour m luma = h ∙ (ap (λ (l : List Float). write_lumas n palette hues (linear_at l) m luma) e ∙ scores) in
          rw (q, e) (sym apart)

-- the chroma list takes nothing of the modules' colours but each by itself, so it is the same by any list that holds them
module _ (l : Layout) (n : ChannelStats) (palette : List Float) (f g : ℕ → Linear) (m : ℕ) (cxs cys : List ℕ) (cells : ℕ → Linear) (chroma : List Float) (h : (j : ℕ) → j < m → f j ≡ g j) where
  rings_same : (count : ℕ) (s : List Float) → write_rings n palette l.hues count l.grid f m s ≡ write_rings n palette l.hues count l.grid g m s
  unfolding write_ring
  rings_same count s = for_up_same _ _ m l.grid s (λ j k i t. ap (λ (c : Linear). write_entry n palette l.hues Unmasked c (count + (j - l.grid)) t) (h j i))

  pub chroma_same : chroma_written l n palette f m cxs cys cells chroma ≡ chroma_written l n palette g m cxs cys cells chroma
  unfolding chroma_written ring_chroma
  chroma_same = rw (rings_same (length cxs) (write_cells n palette l.hues cxs cys cells (length cxs) chroma))

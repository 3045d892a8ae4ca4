-- What drawing answers by the number that its sentences give, and what holds of a card that is drawn, and of scores that are unmasked: each sentence's opposite. Assumes nothing.
use mathlib.Core.Path.{◌≡◌, refl, sym, ◌∙◌}
use mathlib.Core.Bool.{true, false}
use mathlib.Core.List.{List, [], ◌∷◌}
use Prim.Native.Nat.{ℕ, zero, suc, ◌≤◌, ◌<◌}
use native.Mathlib.Omega.{arith}
use lib.IntN.{ℤ}
use lib.ListN.{length, get_or}
use lib.Ieee.{Float}
use Rattle.sentences.specs.Sentences.{refusal, decided, at, sound, fresh}
use Rattle.sentences.proofs.Laws.{refuses, accepts, split}
use Rattle.limits.specs.Chroma.{chroma_on}
use Rattle.limits.proofs.Laws.{side_in}
use Rattle.layout.specs.Groups.{shape, placement, module_placement, Shaped, Placed, ModulesPlaced, Positions}
use Rattle.layout.proofs.Laws.{shape-sound, shaped, placed, modules-placed}
use Rattle.std.specs.Prelude.{Result, ⊤}
use Rattle.std.specs.Result.{IsErr, IsErrAnd}
use Rattle.answers.specs.declared.refusal.Refusal.{Refusal}
use Rattle.answers.specs.Answers.{number_of}
use Rattle.modulate.specs.Draw.{Card, not_drawn, all_drawn, drawn, level_at, level_at_of, hue_at, hue_at_of, entries_of, drawn_hues, levels_of, hues_of, draw_sentences, draw_of}
use Rattle.modulate.specs.Score.{unmask_sentences}
use Rattle.answers.proofs.Answers.{none_of, numbered, passed_on}
use Rattle.lists.proofs.Laws.{reached}
use Rattle.modulate.proofs.Lengths.{DrawLengths, draw_lengths, bits_long, hues-long, luma-lengths}

-- no sentence holds
pub record Accepted (q : Card) : Type 0 where
  pub shaped : Shaped q.layout
  pub lengths : DrawLengths q.bits q.layout q.xs q.ys q.cxs q.cys q.levels q.drawn
  pub modules_bits : length q.xs ≤ length q.bits
  pub placed : Placed q.layout q.xs q.ys q.cxs q.cys

module _ (q : Card) where
  -- a test whose `?` passes the refusal on
  pub not-drawn : (x : Result ⊤ Refusal) (r : Refusal) (levels hues : List ℕ) → IsErr x × IsErrAnd x (λ y. y ≡ r) → number_of r ≡ refusal (draw_sentences q) → levels ≡ q.levels → hues ≡ q.drawn →
      drawn x levels hues ≡ draw_of q
  unfolding draw_of
  not-drawn x r levels hues p e el eh =
      rw (passed_on x r p, el, eh) (refuses (not_drawn q) (all_drawn q) (number_of r) (refusal (draw_sentences q)) (numbered r) e)

  module _ (e : 0 ≡ refusal (draw_sentences q)) where
    pub is-drawn : all_drawn q ≡ draw_of q
    unfolding draw_of
    is-drawn = accepts (not_drawn q) (all_drawn q) 0 (refusal (draw_sentences q)) refl e

    -- the two groups are passed
    is_shaped : Shaped q.layout
    unfolding draw_sentences
    is_shaped = shaped q.layout 0 (split (shape q.layout) _ (shape-sound q.layout) e).0 refl

    is_placed : Placed q.layout q.xs q.ys q.cxs q.cys
    unfolding draw_sentences sound fresh
    is_placed =
        let past-shape = (split (shape q.layout) _ (shape-sound q.layout) e).1 in
        placed q.layout q.xs q.ys q.cxs q.cys 0 (split (_ ∷ []) _ refl past-shape).1 refl

    long : DrawLengths q.bits q.layout q.xs q.ys q.cxs q.cys q.levels q.drawn
    unfolding draw_sentences shape placement sound fresh at
    long = draw_lengths q.bits q.layout q.xs q.ys q.cxs q.cys q.levels q.drawn (none_of (draw_sentences q) refl 0 e refl 5)

    pub accepted : Accepted q
    accepted =
        record {
          shaped = is_shaped;
          lengths = long;
          modules_bits = omega (arith, bits_long (length q.bits) q.layout (length q.xs) (length q.cxs) long.bits_in);
          placed = is_placed;
        }

-- ---- for callers: what a drawn card is, element by element

pub record IsDrawn (q : Card) : Type 0 where
  pub fit : Accepted q
  pub left : draw_of q ≡ all_drawn q
  pub level : (i : ℕ) → i < length q.xs → get_or (levels_of q) i 0 ≡ level_at q.bits q.xs q.ys q.layout.grid q.mask i
  pub hue : chroma_on q.layout.hues ≡ true → (j : ℕ) → j < entries_of q.layout (length q.xs) (length q.cxs) →
      get_or (hues_of q) j 0 ≡ hue_at q.bits q.layout.hues (length q.xs) q.cxs q.cys j

by_number : (q : Card) (n : ℕ) → (decided n (not_drawn q) (all_drawn q)).number ≡ n
unfolding decided
by_number q zero = refl
by_number q (suc n) = refl

module _ (q : Card) where
  -- the number is that of the first sentence that holds
  pub draw-number : (draw_of q).number ≡ refusal (draw_sentences q)
  unfolding draw_of
  draw-number = by_number q (refusal (draw_sentences q))

  level_is : Accepted q → (i : ℕ) → i < length q.xs → get_or (levels_of q) i 0 ≡ level_at q.bits q.xs q.ys q.layout.grid q.mask i
  level_is a i h = (reached 0 (level_at_of q.bits q.xs q.ys q.layout.grid q.mask) q.levels (length q.xs) a.lengths.levels_in).done i h

  hue_is : Accepted q → chroma_on q.layout.hues ≡ true → (j : ℕ) → j < entries_of q.layout (length q.xs) (length q.cxs) →
      get_or (hues_of q) j 0 ≡ hue_at q.bits q.layout.hues (length q.xs) q.cxs q.cys j
  unfolding drawn_hues
  hue_is a on j h =
      let e = entries_of q.layout (length q.xs) (length q.cxs) in
      rw on
      ((reached 0 (hue_at_of q.bits q.layout.hues (length q.xs) q.cxs q.cys) q.drawn e
      (hues-long (length q.drawn) q.layout (length q.xs) (length q.cxs) a.lengths.hues_in on)).done j h)

  pub drawn-done : (draw_of q).number ≡ 0 → IsDrawn q
  drawn-done z =
      let e : 0 ≡ refusal (draw_sentences q) = sym z ∙ draw-number in
      let a = accepted q e in
      record { fit = a; left = sym (is-drawn q e); level = level_is a; hue = hue_is a }

  pub drawn-refused : ((draw_of q).number ≡ 0 → ⊥) → draw_of q ≡ not_drawn q (draw_of q).number
  unfolding draw_of
  drawn-refused z = sym (refuses (not_drawn q) (all_drawn q) (draw_of q).number (refusal (draw_sentences q)) z draw-number)

-- ---- unmasking

module _ (luma : List Float) (side : ℕ) (xs ys : List ℤ) (g : ℕ) (e : 0 ≡ refusal (unmask_sentences luma side xs ys g)) where
  none : (m : ℕ) → at m (unmask_sentences luma side xs ys g) ≡ false
  unfolding unmask_sentences module_placement sound fresh
  none = none_of (unmask_sentences luma side xs ys g) refl 0 e refl

  on_card : ModulesPlaced side g xs ys
  unfolding unmask_sentences sound fresh
  on_card = modules-placed side g xs ys 0 (split (_ ∷ _ ∷ []) _ refl e).1 refl

  one_each : (length xs ≡ length ys) × (length xs ≤ length luma)
  unfolding unmask_sentences at
  one_each = luma-lengths (length xs) (length ys) (length luma) (none 5)

  pub unmask-positions : Positions side g xs ys
  unfolding unmask_sentences at
  unmask-positions = record { side-most = (side_in side (none 2)).1; pairs = one_each.0; places-good = on_card.places-good }

  pub unmask-grid : g ≤ length xs
  unmask-grid = on_card.grid-most

  pub unmask-modules : length xs ≤ 1048576
  unmask-modules = on_card.modules-most

  pub unmask-scores : length xs ≤ length luma
  unmask-scores = one_each.1

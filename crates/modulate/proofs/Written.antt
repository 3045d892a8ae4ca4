-- Unmasking the same scores twice restores every bit of them, since turning a sign twice does; a NaN stays the NaN. Assumes nothing.
use mathlib.Core.Path.{◌≡◌, refl, sym, ap, ◌∙◌}
use mathlib.Core.Bool.{Bool, true, false, cond}
use mathlib.Core.List.{List}
use Prim.Native.Nat.{ℕ, ◌≤◌}
use native.Mathlib.Nat.{le_trans}
use lib.IntN.{ℤ}
use lib.ListN.{length}
use lib.Ieee.{Float, nan, inf, fin, neg}
use Rattle.sentences.specs.Sentences.{refusal}
use Rattle.sentences.proofs.Laws.{accepts}
use Rattle.answers.specs.Answers.{Ended}
use Rattle.answers.proofs.Answers.{list-number}
use Rattle.lists.proofs.Laws.{reached, twice}
use Rattle.modulate.specs.Score.{masked_at, unmask_at, unmasked, unmask_sentences, unmask_luma_of}
use Rattle.modulate.proofs.Accepted.{unmask-grid, unmask-scores}

pub neg-neg : (v : Float) → neg (neg v) ≡ v
unfolding neg
neg-neg nan = refl
neg-neg (inf true) = refl
neg-neg (inf false) = refl
neg-neg (fin true m e) = refl
neg-neg (fin false m e) = refl

turn_twice : (b : Bool) (v : Float) → cond b (neg (cond b (neg v) v)) (cond b (neg v) v) ≡ v
turn_twice true v = neg-neg v
turn_twice false v = refl

pub unmask-twice : (id : ℕ) (xs ys : List ℤ) (g : ℕ) (luma : List Float) → g ≤ length luma → unmasked id xs ys g (unmasked id xs ys g luma) ≡ luma
unfolding unmask_at
unmask-twice id xs ys g luma h = twice nan (unmask_at id xs ys) g luma h (λ i v. turn_twice (masked_at id xs ys i) v)

-- ---- the call: where it is accepted, a second one by the same mask restores the scores, since its sentences look at their number alone

module _ (luma : List Float) (side : ℕ) (xs ys : List ℤ) (g mask : ℕ) where
  written : refusal (unmask_sentences luma side xs ys g) ≡ 0 → (unmask_luma_of luma side xs ys g mask).list ≡ unmasked mask xs ys g luma
  unfolding unmask_luma_of
  written z = ap (λ (f : Ended Float). f.list) (sym (accepts (λ n. record { number = n; list = luma }) (record { number = 0; list = unmasked mask xs ys g luma }) 0 (refusal (unmask_sentences luma side xs ys g)) refl (sym z)))

  same_sentences : (l : List Float) → length l ≡ length luma → unmask_sentences l side xs ys g ≡ unmask_sentences luma side xs ys g
  unfolding unmask_sentences
  same_sentences l e = rw e

module _ (luma : List Float) (side : ℕ) (xs ys : List ℤ) (g mask : ℕ) (z : (unmask_luma_of luma side xs ys g mask).number ≡ 0) where
  none : refusal (unmask_sentences luma side xs ys g) ≡ 0
  unfolding unmask_luma_of
  none = sym (list-number (unmask_sentences luma side xs ys g) luma (unmasked mask xs ys g luma)) ∙ z

  all : g ≤ length luma
  all = le_trans (unmask-grid luma side xs ys g (sym none)) (unmask-scores luma side xs ys g (sym none))

  -- it leaves a score a module
  pub unmask-luma-long : length xs ≤ length (unmask_luma_of luma side xs ys g mask).list
  unmask-luma-long = rw (written luma side xs ys g mask none, (reached nan (unmask_at mask xs ys) luma g all).long) (unmask-scores luma side xs ys g (sym none))

  pub unmask-luma-twice : (unmask_luma_of (unmask_luma_of luma side xs ys g mask).list side xs ys g mask).list ≡ luma
  unmask-luma-twice =
      let once = unmasked mask xs ys g luma in
      let same = same_sentences luma side xs ys g mask once (reached nan (unmask_at mask xs ys) luma g all).long in
      rw (written luma side xs ys g mask none, written once side xs ys g mask (ap refusal same ∙ none)) (unmask-twice mask xs ys g luma all)

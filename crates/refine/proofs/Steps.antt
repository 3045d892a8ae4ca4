-- A loop over the scores replaces each by its step and keeps the others: what stands before turn i, and after the last. Assumes nothing.
use mathlib.Core.Path.{◌≡◌, refl, ap, ◌∙◌}
use mathlib.Core.List.{List, ◌++◌}
use Prim.Native.Nat.{ℕ, ◌+◌, ◌≤◌, ◌<◌}
use native.Mathlib.Omega.{arith}
use lib.IntN.{ℤ}
use lib.ListN.{length, get_or, set, take, drop}
use lib.Seq.{get_or-set_same, get_or-set_other, length-take-le}
use lib.Ieee.{Float, nan}
use Rattle.std.proofs.Common.{below_more}
use Rattle.std.proofs.lemmas.List.{get_or-take}
use Rattle.stats.specs.declared.ChannelStats.{ChannelStats}
use Rattle.lists.proofs.Front.{front_replaced}
use Rattle.lists.specs.Lists.{replaced}
use Rattle.refine.specs.declared.Levels.{Levels}
use Rattle.refine.specs.Refine.{refine_at, refine_all}
use Rattle.refine.proofs.Each as each

module _ (step : ℕ → Float → Float) (first : List Float) where
  -- the first i of s are steps, the others as they were
  pub record Stepped (i : ℕ) (s : List Float) : Type 0 where
    pub done : (j : ℕ) → j < i → get_or s j nan ≡ step j (get_or first j nan)
    pub rest : (j : ℕ) → i ≤ j → get_or s j nan ≡ get_or first j nan

  pub none_stepped : Stepped 0 first
  none_stepped = record { done = λ j h. absurd (omega arith); rest = λ j h. refl }

  module _ (i : ℕ) (s : List Float) (v : Float) (p : Stepped i s) where
    pub one_stepped : i < length s → v ≡ step i (get_or s i nan) → Stepped (i + 1) (set s i v)
    one_stepped l e =
        record {
          done = below_more (λ j. get_or (set s i v) j nan ≡ step j (get_or first j nan)) i
              (λ j h. get_or-set_other s i j v nan (λ q. omega arith) ∙ p.done j h)
              (get_or-set_same s i v nan l ∙ e ∙ ap (step i) (p.rest i (omega arith)));
          rest = λ j h. get_or-set_other s i j v nan (λ q. omega arith) ∙ p.rest j (omega arith);
        }

module _ (noise : ChannelStats) (palette : List Float) (hues : ℕ) (lv : Levels) (side : ℕ) (xs ys : List ℤ) (colours grid luma : List Float) where
  -- what module i's score becomes
  abbrev pub step_of : ℕ → Float → Float
  step_of = each.step_of noise palette hues lv side xs ys colours grid luma

  pub all_stepped : (n i : ℕ) (s : List Float) → n ≡ length xs → length xs ≤ length luma → length s ≡ length (take n luma) → length (take n luma) ≤ i
      → Stepped step_of (take n luma) i s → s ++ drop n luma ≡ refine_all noise palette hues lv side xs ys colours grid luma
  unfolding refine_at
  all_stepped n i s m h e past p =
      let l : n ≤ length luma = omega arith in
      front_replaced nan n step_of luma s l e
      (λ j q. p.done j (omega (arith, length-take-le n luma l)) ∙ ap (step_of j) (get_or-take n luma j nan q))
      ∙ ap (λ (k : ℕ). replaced nan k step_of luma) m

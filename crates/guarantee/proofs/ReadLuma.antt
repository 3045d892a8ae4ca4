-- Each luma bit whose refined score is no NaN is read as it was drawn. The module's score has the sign of its drawn level and is above 8 in magnitude, so refinement keeps the sign; unmasking turns a grid
-- module's as drawing turned its bit; and reading takes the sign. At 13 the score is at least 12 in magnitude, so refinement passes over it and leaves no NaN. Assumes nothing.
use mathlib.Core.Path.{◌≡◌, refl, sym, ap, ◌∙◌, subst}
use mathlib.Core.Bool.{Bool, true, false}
use mathlib.Core.List.{List}
use Prim.Native.Nat.{ℕ, zero, suc, ◌+◌, ◌*◌, ◌≤◌, ◌<◌}
use native.Mathlib.Nat.{one-mul, zero-mul}
use native.Mathlib.Omega.{arith}
use borrow.Author.Tests.{ltb-true, ltb-false}
use lib.Dec.{T, ltb}
use lib.ListN.{length, get_or}
use lib.Ieee.{Float, nan, binary32, neg, lt, is_nan, fits}
use lib.Ieee.Bits.{is_true}
use Rattle.floatlaws.specs.Value.{hi, lo, Num}
use Rattle.floatlaws.specs.Order.{of_lt, to_lt, hi_neg, lo_neg}
use Rattle.floatlaws.specs.Finite.{num, neg-fin}
use Rattle.limits.specs.Chroma.{weighted}
use Rattle.color.specs.Color.{whole}
use Rattle.color.specs.Palette.{palette_lab}
use Rattle.modulate.specs.Draw.{is_set, bit_of, level_at}
use Rattle.modulate.specs.Score.{unmask_at, unmasked}
use Rattle.reading.specs.Read.{reads}
use Rattle.reading.proofs.Sign.{read-zero, read_one}
use Rattle.modulate.proofs.ReadBack.{Says, read-grid, read-ring-luma}
use Rattle.lists.proofs.Laws.{Reached, reached}
use Rattle.margin.specs.declared.Threshold.{Threshold}
use Rattle.margin.specs.declared.Threshold.TheVariants.{Thirteen, Nine}
use Rattle.stats.proofs.Reliable.{zero_is}
use Rattle.scores.specs.Score.{luma_score}
use Rattle.demod.specs.Call.{module_colours}
use Rattle.refine.specs.Refine.{sure, levels_of, grid_of, refined}
use Rattle.refine.specs.Calls.{refined_of}
use Rattle.refine.proofs.Within.{all_passed-over}
use Rattle.refine.proofs.Each as each
use Rattle.refine.proofs.Sign.{eight_is, not_T, call_keeps_sign, call_fits}
use Rattle.guarantee.specs.Within.{half_sigma}
use Rattle.guarantee.specs.Card.{Setting, Card, modules, to_score, scored_card, to_refine, refined_card, unmasked_card, luma_read, module_lab, palette_colour}
use Rattle.guarantee.specs.Guarantee.{Singles, InMargin, Readable, InMarginAt, NoNan}
use Rattle.guarantee.proofs.Range.{to_T, of_not_T}
use Rattle.guarantee.proofs.Score.{least_score, enough, Dark, Light, dark-above, light-below, dark-sure, light-sure}
use Rattle.guarantee.proofs.Sample.{lab-fits, dark_score, light_score}
use Rattle.guarantee.proofs.Known.{read_at, read-long, level_two, drawn-level, scored-card, scoring_knows, refined_is, unmasked_is, held, palette-fits, in-margin}

-- a score that says the level, from `least` on
record Clearly (least : Float) (level : ℕ) (v : Float) : Type 0 where
  is : Num binary32 v
  dark : level ≡ 0 → Dark least v
  light : level ≡ 1 → Light least v

dark-clearly : {least v : Float} → Dark least v → Clearly least 0 v
dark-clearly p = record { is = p.is; dark = λ e. p; light = λ e. absurd (omega arith) }

light-clearly : {least v : Float} → Light least v → Clearly least 1 v
light-clearly p = record { is = p.is; dark = λ e. absurd (omega arith); light = λ e. p }

-- at 13 refinement passes over it
clearly-sure : (level : ℕ) (v : Float) → level < 2 → Clearly (least_score Thirteen) level v → sure v ≡ true
unfolding sure
clearly-sure zero v l p = dark-sure (p.dark refl)
clearly-sure (suc zero) v l p = light-sure (p.light refl)
clearly-sure (suc (suc n)) v l p = absurd (omega arith)

-- at 9 it has the level's sign
above_zero : {v : Float} → Num binary32 v → lt (whole 0) v ≡ true → 0 < hi binary32 v
above_zero {v} n e = omega (arith, of_lt zero_is.num n (to_T (lt (whole 0) v) e), zero_is.hi, zero_is.lo)

below-zero : {v : Float} → Num binary32 v → lt v (whole 0) ≡ true → 0 < lo binary32 v
below-zero {v} n e = omega (arith, of_lt n zero_is.num (to_T (lt v (whole 0)) e), zero_is.hi, zero_is.lo)

clearly-says : (level : ℕ) (v : Float) → Clearly (least_score Nine) level v → Says level v
clearly-says level v p =
    record {
      is = p.is;
      light = λ e. omega (arith, light-below (p.light e), hi_neg binary32 (whole 8), lo_neg binary32 (whole 8), eight_is.lo);
      dark = λ e. omega (arith, dark-above (p.dark e), eight_is.lo);
    }

says-bit : (level : ℕ) (v : Float) → level < 2 → Says level v → reads v < 2
says-bit zero v l p = let z = read-zero v p.is (p.dark refl) in omega arith
says-bit (suc zero) v l p = let z = read_one v p.is (p.light refl) in omega arith
says-bit (suc (suc n)) v l p = absurd (omega arith)

-- ---- what scoring and refinement left

module _ (s : Setting) (c : Card) (R : Readable s c) where
  abbrev pub hues : ℕ
  hues = s.layout.hues

  abbrev pub score_of : ℕ → Float
  score_of i = luma_score s.noise s.palette hues (module_colours (to_score s c) i)

  abbrev level : ℕ → ℕ
  level i = level_at c.bits s.xs s.ys s.layout.grid s.mask i

  pub luma-at : (i : ℕ) → i < modules s → get_or (scored_card s c).luma i nan ≡ score_of i
  luma-at i h = ap (λ f. get_or f.luma i nan) (scored-card s c R).left ∙ (scored-card s c R).wrote.scored i h

  luma-long : modules s ≤ length (scored_card s c).luma
  luma-long = rw (scored-card s c R).left (omega (arith, (scored-card s c R).wrote.luma-long, (scoring_knows s c R).lengths.scores))

  refined-long : modules s ≤ length (refined_card s c).luma
  unfolding refined_of refined
  refined-long =
      let r = each.reached s.noise s.palette hues (levels_of s.palette) s.layout.side s.xs s.ys (scored_card s c).colours
      (grid_of s.layout.side s.xs s.ys (scored_card s c).colours c.scratch) (scored_card s c).luma luma-long in
      rw (← refined_is s c R) (omega (arith, r.long, luma-long))

-- ---- a module's score, at a setting

module _ (least : Threshold) (s : Setting) (c : Card) (S : Singles s) (M : InMarginAt least s) (R : Readable s c) where
  by_level : (level hue : ℕ) → level < 2 → hue < hues s c R → (i : ℕ) → half_sigma s.noise (module_lab s c i) (palette_colour s level hue) ≡ true → Clearly (least_score least) level (score_of s c R i)
  unfolding palette_colour luma_score
  by_level zero hue l h i e =
      let k = scoring_knows s c R in
      let z : 0 * hues s c R + hue ≡ hue = rw (zero-mul (hues s c R)) (omega arith) in
      let f : half_sigma s.noise (module_lab s c i) (palette_lab s.palette (hues s c R) hue) ≡ true = rw z at e in
      dark-clearly (dark_score s.noise s.palette (hues s c R) (held s S) (palette-fits s S) k.inputs.palette-tame k.sigmas (in-margin least s M) (module_lab s c i) (lab-fits (module_colours (to_score s c) i)) hue (omega arith) f (enough least) h (weighted (hues s c R)))
  by_level (suc zero) hue l h i e =
      let k = scoring_knows s c R in
      let z : 1 * hues s c R + hue ≡ hues s c R + hue = rw (one-mul (hues s c R)) in
      let f : half_sigma s.noise (module_lab s c i) (palette_lab s.palette (hues s c R) (hues s c R + hue)) ≡ true = rw z at e in
      light-clearly (light_score s.noise s.palette (hues s c R) (held s S) (palette-fits s S) k.inputs.palette-tame k.sigmas (in-margin least s M) (module_lab s c i) (lab-fits (module_colours (to_score s c) i)) (hues s c R + hue) (omega arith) f (enough least) hue h refl (weighted (hues s c R)))
  by_level (suc (suc n)) hue l h i e = absurd (omega arith)

  clearly : (i : ℕ) → i < modules s → Clearly (least_score least) (level s c R i) (score_of s c R i)
  clearly i h =
      let d = drawn-level s c R i h in
      let p = R.near.each_module i h in
      by_level (level s c R i) p.hue (level_two c.bits s i) p.below i (rw d at p.near)

-- ---- at 13 refinement leaves every score, so none is a NaN

module _ (s : Setting) (c : Card) (S : Singles s) (M : InMargin s) (R : Readable s c) where
  passed_over : (refined_card s c).luma ≡ (scored_card s c).luma
  unfolding refined_of refined
  passed_over =
      ap (λ f. f.luma) (sym (refined_is s c R)) ∙
      all_passed-over s.noise s.palette s.layout.hues (levels_of s.palette) s.layout.side s.xs s.ys (scored_card s c).colours
      (grid_of s.layout.side s.xs s.ys (scored_card s c).colours c.scratch) (scored_card s c).luma
      (λ i h. ap sure (luma-at s c R i h) ∙ clearly-sure (level s c R i) (score_of s c R i) (level_two c.bits s i) (clearly Thirteen s c S M R i h))

  pub no_nan : NoNan s c
  no_nan i h = ap (λ (l : List Float). is_nan (get_or l i nan)) passed_over ∙ ap is_nan (luma-at s c R i h) ∙ of_not_T (is_nan (score_of s c R i)) (clearly Thirteen s c S M R i h).is.real

-- ---- at 9 a refined score that is no NaN says the level, and its bit is read

module _ (s : Setting) (c : Card) (S : Singles s) (M : InMarginAt Nine s) (R : Readable s c) where
  -- a score reads as a bit
  pub score_reads : (i : ℕ) → i < modules s → reads (get_or (scored_card s c).luma i nan) < 2
  score_reads i h =
      subst (λ (v : Float). reads v < 2) (sym (luma-at s c R i h))
      (says-bit (level s c R i) (score_of s c R i) (level_two c.bits s i) (clearly-says (level s c R i) (score_of s c R i) (clearly Nine s c S M R i h)))

  module _ (i : ℕ) (h : i < modules s) (r : is_nan (get_or (refined_card s c).luma i nan) ≡ false) where
    refined-says : Says (level s c R i) (get_or (refined_card s c).luma i nan)
    refined-says =
        let e = luma-at s c R i h in
        let p = clearly Nine s c S M R i h in
        let f : T (fits binary32 (get_or (scored_card s c).luma i nan)) = subst (λ (v : Float). T (fits binary32 v)) (sym e) p.is.fit in
        let k = call_keeps_sign (to_refine s c) i f in
        let n : Num binary32 (get_or (refined_card s c).luma i nan) = record { fit = call_fits (to_refine s c) i f; real = not_T (is_nan (get_or (refined_card s c).luma i nan)) r } in
        record {
          is = n;
          dark = λ z. above_zero n (k.dark (ap (lt (whole 8)) e ∙ is_true (lt (whole 8) (score_of s c R i)) (to_lt eight_is.num p.is (dark-above (p.dark z)))) r);
          light = λ z. below-zero n (k.light (ap (λ (v : Float). lt v (neg (whole 8))) e ∙ is_true (lt (score_of s c R i) (neg (whole 8))) (to_lt p.is (num (neg-fin eight_is.is)) (light-below (p.light z)))) r);
        }

    pub refined-reads : reads (get_or (refined_card s c).luma i nan) < 2
    refined-reads = says-bit (level s c R i) (get_or (refined_card s c).luma i nan) (level_two c.bits s i) refined-says

  -- unmasking
  turned : Reached nan (unmask_at s.mask s.xs s.ys) (refined_card s c).luma s.layout.grid (unmasked s.mask s.xs s.ys s.layout.grid (refined_card s c).luma)
  turned = reached nan (unmask_at s.mask s.xs s.ys) (refined_card s c).luma s.layout.grid (omega (arith, refined-long s c R, (scoring_knows s c R).placed.grid-most))

  unmasked-long : modules s ≤ length (unmasked_card s c).list
  unmasked-long = rw (unmasked_is s c R) (omega (arith, turned.long, refined-long s c R))

  unmasked_at : (i : ℕ) (v : Float) → get_or (unmasked s.mask s.xs s.ys s.layout.grid (refined_card s c).luma) i nan ≡ v → reads (get_or (unmasked_card s c).list i nan) ≡ reads v
  unmasked_at i v e = ap (λ (l : List Float). reads (get_or l i nan)) (unmasked_is s c R) ∙ ap reads e

  pub read-unmasked : (i : ℕ) → i < modules s → is_nan (get_or (refined_card s c).luma i nan) ≡ false → (b : Bool) → ltb i s.layout.grid ≡ b → reads (get_or (unmasked_card s c).list i nan) ≡ bit_of (is_set (get_or c.bits i 0))
  read-unmasked i h r true e =
      let g = ltb-true i s.layout.grid e in
      unmasked_at i _ (turned.done i g) ∙ read-grid c.bits s.xs s.ys s.layout.grid s.mask i (get_or (refined_card s c).luma i nan) (refined-says i h r) g
  read-unmasked i h r false e =
      let g = ltb-false i s.layout.grid e in
      unmasked_at i _ (turned.kept i g) ∙ read-ring-luma c.bits s.xs s.ys s.layout.grid s.mask i (get_or (refined_card s c).luma i nan) (refined-says i h r) g

  -- reading
  pub luma-bit : (i : ℕ) → i < modules s → is_nan (get_or (refined_card s c).luma i nan) ≡ false → get_or (luma_read s c).list i 0 ≡ bit_of (is_set (get_or c.bits i 0))
  luma-bit i h r = read_at (unmasked_card s c).list c.luma_bits R.accepted.luma i (omega (arith, unmasked-long)) ∙ read-unmasked i h r (ltb i s.layout.grid) refl

  pub luma-bits : modules s ≤ length (luma_read s c).list
  luma-bits = omega (arith, read-long (unmasked_card s c).list c.luma_bits R.accepted.luma, unmasked-long)

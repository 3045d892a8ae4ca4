-- The margin check, taken apart: where it says yes, each clause of document 01's sentence holds, at every colour and hue. Each clause is a test of every element, and such a test holds where no
-- element fails it. Assumes nothing.
use mathlib.Core.Path.{◌≡◌, refl, sym}
use mathlib.Core.Bool.{Bool, true, false, not}
use mathlib.Core.List.{List}
use Prim.Native.Nat.{ℕ, ◌+◌, ◌*◌, ◌<◌}
use borrow.Author.Tests.{ne_eqb}
use lib.Ieee.{Float, lt}
use Rattle.loops.specs.Loops.{any_up}
use Rattle.loops.proofs.Laws.{any_up-false}
use Rattle.limits.specs.Chroma.{chroma_on}
use Rattle.color.specs.declared.Lab.{Lab}
use Rattle.color.specs.Palette.{palette_lab}
use Rattle.stats.specs.declared.ChannelStats.{ChannelStats}
use Rattle.stats.specs.Noise.{sigma_ab_at}
use Rattle.margin.specs.Margin.{fails_at, every, level_fits, colour_fits, colours_fit, levels_fit, sigmas_fit, dark_clear, darks_clear, light_clear, lights_clear, near, far, other_far, others_far, apart, hue_clear, hues_clear, chroma_clear, in_margin}
use Rattle.stats.proofs.Tests.{both}

untrue : (b : Bool) → not b ≡ true → b ≡ false
untrue true e = sym e
untrue false e = refl

sound : (b : Bool) → not b ≡ false → b ≡ true
sound true e = refl
sound false e = sym e

-- what holds of every element holds of each
pub each : (n : ℕ) (p : ℕ → Bool) → every 0 n p ≡ true → (i : ℕ) → i < n → p i ≡ true
each n p e i h = sound (p i) (any_up-false (fails_at p) n (untrue (any_up 0 n (fails_at p)) e) i h)

-- colour i, of the hue `own`
pub record Apart (n : ChannelStats) (palette : List Float) (hues i own : ℕ) : Type 0 where
  pub at_own : near palette (palette_lab palette hues i) (sigma_ab_at n (palette_lab palette hues i).l) own ≡ true
  pub off-others : (h : ℕ) → h < hues → (h ≡ own → ⊥) → far palette (palette_lab palette hues i) (sigma_ab_at n (palette_lab palette hues i).l) h ≡ true

past-own : (palette : List Float) (c : Lab) (s : Float) (own h : ℕ) → other_far palette c s own h ≡ true → (h ≡ own → ⊥) → far palette c s h ≡ true
unfolding other_far
past-own palette c s own h e d = rw (ne_eqb h own d) at e

apart_is : (n : ChannelStats) (palette : List Float) (hues i own : ℕ) → apart n palette hues i own ≡ true → Apart n palette hues i own
unfolding apart
apart_is n palette hues i own e =
    let c = palette_lab palette hues i in
    let s = sigma_ab_at n c.l in
    let p = both (near palette c s own) (others_far palette hues c s own) e in
    record { at_own = p.0; off-others = λ h l d. past-own palette c s own h (each hues (other_far palette c s own) p.1 h l) d }

-- the margin check at a threshold
pub record Clear (threshold : Float) (n : ChannelStats) (palette : List Float) (hues : ℕ) : Type 0 where
  pub rising : lt n.l0 n.l1 ≡ true
  pub l0_small : level_fits n.l0 ≡ true
  pub l1_small : level_fits n.l1 ≡ true
  pub colour-small : (i : ℕ) → i < 2 * hues → level_fits (palette_lab palette hues i).l ≡ true
  pub sigmas-small : sigmas_fit n ≡ true
  pub dark : (h : ℕ) → h < hues → dark_clear threshold n palette hues h ≡ true
  pub light : (h : ℕ) → h < hues → light_clear threshold n palette hues h ≡ true
  pub dark-apart : chroma_on hues ≡ true → (h : ℕ) → h < hues → Apart n palette hues h h
  pub light-apart : chroma_on hues ≡ true → (h : ℕ) → h < hues → Apart n palette hues (hues + h) h

module _ (threshold : Float) (n : ChannelStats) (palette : List Float) (hues : ℕ) where
  with_chroma : chroma_clear n palette hues ≡ true → chroma_on hues ≡ true → (h : ℕ) → h < hues → Apart n palette hues h h × Apart n palette hues (hues + h) h
  unfolding chroma_clear hue_clear
  with_chroma e o h l =
      let w : hues_clear n palette hues ≡ true = rw o at e in
      let p = both (apart n palette hues h h) (apart n palette hues (hues + h) h) (each hues (hue_clear n palette hues) w h l) in
      (apart_is n palette hues h h p.0, apart_is n palette hues (hues + h) h p.1)

  small : levels_fit n palette hues ≡ true → (level_fits n.l0 ≡ true) × (level_fits n.l1 ≡ true) × ((i : ℕ) → i < 2 * hues → level_fits (palette_lab palette hues i).l ≡ true)
  unfolding levels_fit colour_fits
  small e =
      let p = both (level_fits n.l0) _ e in
      let q = both (level_fits n.l1) (colours_fit palette hues) p.1 in
      (p.0, q.0, each (2 * hues) (colour_fits palette hues) q.1)

  pub clear : in_margin threshold n palette hues ≡ true → Clear threshold n palette hues
  unfolding in_margin
  clear e =
      let a = both (lt n.l0 n.l1) _ e in
      let b = both (levels_fit n palette hues) _ a.1 in
      let c = both (sigmas_fit n) _ b.1 in
      let d = both (darks_clear threshold n palette hues) _ c.1 in
      let f = both (lights_clear threshold n palette hues) (chroma_clear n palette hues) d.1 in
      let s = small b.0 in
      record {
        rising = a.0;
        l0_small = s.0;
        l1_small = s.1;
        colour-small = s.2;
        sigmas-small = c.0;
        dark = each hues (dark_clear threshold n palette hues) d.0;
        light = each hues (light_clear threshold n palette hues) f.0;
        dark-apart = λ o h l. (with_chroma f.1 o h l).0;
        light-apart = λ o h l. (with_chroma f.1 o h l).1;
      }

-- A record that `measure` gives passes sentences 8 and 9 and holds f32 values: its levels are medians of lightnesses within 2 ^ 36 or the palette's, its sigmas are
-- within 2 ^ 40 and at least 0.75, or 0 for a level. And no distance that its sigmas are made of is a NaN. Assumes nothing.
use mathlib.Core.Path.{◌≡◌, refl, sym, ap, ◌∙◌}
use mathlib.Core.Bool.{Bool, true, false, not, cond, ◌&&◌, ◌||◌}
use mathlib.Core.List.{List}
use mathlib.Core.Option.{none-ne-some, some-injective}
use Prim.Native.Nat.{ℕ, zero, suc, ◌+◌, ◌-◌, ◌*◌, ◌^◌, ◌≤◌, ◌<◌}
use native.Mathlib.Nat.{eq-or-lt_of_le}
use mathlib.Core.Logic.{⊎_elim}
use native.Mathlib.Omega.{arith}
use borrow.Author.Tests.{ltb-false, le-leb}
use lib.Dec.{T, ltb, leb}
use lib.ListN.{length, get_or}
use lib.Ieee.{Float, nan, binary32, le, lt, eq, neg, round, fits}
use Rattle.loops.specs.Loops.{any_up, some_of}
use Rattle.loops.proofs.Laws.{any_up-false}
use Rattle.floatlaws.specs.Value.{lt_not_le}
use Rattle.floatlaws.specs.Order.{Le, of_le, to_le, le_trans}
use Rattle.floatlaws.specs.Finite.{Fin, num}
use Rattle.floatlaws.specs.Interval.{within}
use Rattle.float.specs.Select.{max}
use Rattle.float.proofs.Select.{max-num, max-right, max-left, max_le}
use Rattle.float.proofs.Single.{single-fits}
use Rattle.color.specs.Color.{whole, fraction}
use Rattle.color.specs.Palette.{level_l, wild, wild_at, wild_linear, wild_palette}
use Rattle.color.proofs.Rises.{fin_of_fraction}
use Rattle.color.proofs.Bounded.{Within, LabWithin, not-wild, lab-within}
use Rattle.color.proofs.Passed.{level-tame}
use Rattle.order.specs.Median.{median_of}
use Rattle.order.specs.Deviation.{sigma_of}
use Rattle.illum.specs.declared.IlluminationModel.{IlluminationModel}
use Rattle.illum.specs.Correct.{affine_row, mixed}
use Rattle.references.specs.References.{nominal_at, wild_colour_at, wild_colours}
use Rattle.stats.specs.declared.ChannelStats.{ChannelStats}
use Rattle.stats.specs.Noise.{nominal}
use Rattle.stats.proofs.Range.{Held}
use Rattle.stats.specs.Calls.{wild_figure, bad_noise_numbers, bad_level_sigma, bad_sigmas}
use Rattle.measure.specs.declared.Measurement.{Measurement}
use Rattle.measure.specs.Measure.{corrected_at, corrected_lab, nominal_lab, lightness_at, error_at, picked, least_sigma, spread_about, luma_sigma, chroma_sigma, figures_of, record_of, measured_of, measured, measurement, wild_corrected_at, wild_corrected, bad_corrected, Request, sentences_of, Final, final, turned_away, done, measure_of}
use Rattle.sentences.specs.Sentences.{refusal, decided}
use Rattle.answers.specs.Answers.{gives}
use Rattle.measure.specs.Columns.{RealDistances}
use Rattle.measure.proofs.Lists.{Each, picked-each}
use Rattle.measure.proofs.Accepted.{Accepted, accepted}
use Rattle.measure.proofs.Bounds.{each_append, spread-sigma_in, error_sigma_in, spread-real, error_real, level-median_in, spread-in, up36, up20, number_in, error_in}

pub record Passing (r : ChannelStats) : Type 0 where
  pub eight : bad_noise_numbers r ≡ false
  pub nine : bad_sigmas r ≡ false
  pub held : Held r

is_true : (b : Bool) → T b → b ≡ true
is_true true t = refl
is_true false t = absurd t

-- ---- one figure

figure_fine : (v : Float) → Within 40 v → wild_figure v ≡ false
unfolding wild_figure
figure_fine v i =
    rw (is_true (le v (whole (2 ^ 40))) (to_le (num i.is) (num i.to) i.high), is_true (le (neg (whole (2 ^ 40))) v) (to_le (num i.from) (num i.is) i.low))

-- a sigma: within 2 ^ 40, and at least 0.75
record Sigma (v : Float) : Type 0 where
  small : Within 40 v
  least : Le binary32 least_sigma v

least-fin : Fin binary32 least_sigma
unfolding fraction round
least-fin = fin_of_fraction 75 100 tt

least-top : Le binary32 least_sigma (whole (2 ^ 40))
unfolding fraction round le
least-top = of_le (num (fin_of_fraction 75 100 tt)) (num (fin_of_fraction (2 ^ 40) 1 tt)) tt

raised : (v : Float) → Within 40 v → Sigma (max v least_sigma)
raised v i =
    let p = num i.is in
    let q = num least-fin in
    record {
      small = within i.from i.to (max-num p q) (le_trans i.low (max-left p q)) (max_le p q i.high least-top);
      least = max-right p q;
    }

six : Sigma (whole 6)
unfolding fraction round le neg
six = record { small = number_in 6 tt tt tt tt; least = of_le (num (fin_of_fraction 75 100 tt)) (num (fin_of_fraction 6 1 tt)) tt }

least-itself : Sigma least_sigma
unfolding fraction round le neg
least-itself =
    let q = fin_of_fraction 75 100 tt in
    let b = number_in 6 tt tt tt tt in
    record { small = within b.from b.to (num q) (of_le (num b.from) (num q) tt) (of_le (num q) (num b.to) tt); least = of_le (num q) (num q) tt }

not-less : (v : Float) → Sigma v → lt v least_sigma ≡ false
not-less v s = lt_not_le (num s.small.is) (num least-fin) ∙ ap not (is_true (le least_sigma v) (to_le (num least-fin) (num s.small.is) s.least))

-- a level's sigma: that, or 0
record LevelSigma (v : Float) : Type 0 where
  small : Within 40 v
  fine : bad_level_sigma v ≡ false

or_true : (b : Bool) → (b || true) ≡ true
or_true true = refl
or_true false = refl

level-raised : (v : Float) → Sigma v → LevelSigma v
unfolding bad_level_sigma
level-raised v s =
    record { small = s.small; fine = rw (is_true (le least_sigma v) (to_le (num least-fin) (num s.small.is) s.least), or_true (eq v (whole 0))) }

level-none : LevelSigma (whole 0)
unfolding bad_level_sigma fraction round le lt eq neg
level-none = record { small = number_in 0 tt tt tt tt; fine = refl }

-- ---- a record of such figures

passing : (r : ChannelStats) → Within 40 r.l0 → Within 40 r.l1 → Sigma r.sigma_l → Sigma r.sigma_ab → LevelSigma r.sigma_ab_dark → LevelSigma r.sigma_ab_light
    → Passing r
unfolding bad_noise_numbers bad_sigmas
passing r a b c d e f =
    record {
      eight =
          rw (
            figure_fine r.l0 a,
            figure_fine r.l1 b,
            figure_fine r.sigma_l c.small,
            figure_fine r.sigma_ab d.small,
            figure_fine r.sigma_ab_dark e.small,
            figure_fine r.sigma_ab_light f.small,
          );
      nine = rw (not-less r.sigma_l c, not-less r.sigma_ab d, e.fine, f.fine);
      held =
          record {
            l0 = a.is.fit;
            l1 = b.is.fit;
            sigma-l = c.small.is.fit;
            sigma-ab = d.small.is.fit;
            sigma-ab-dark = e.small.is.fit;
            sigma-ab-light = f.small.is.fit;
          };
    }

pooled : (xs : List Float) → Each (Within 38) xs → Sigma (chroma_sigma 1 least_sigma xs)
unfolding chroma_sigma
pooled xs e = go (ltb (length xs) 1)
  where
    go : (b : Bool) → Sigma (cond b least_sigma (max (sigma_of xs) least_sigma))
    go true = least-itself
    go false = raised (sigma_of xs) (error_sigma_in xs e)

of_level : (xs : List Float) → Each (Within 38) xs → LevelSigma (chroma_sigma 8 (whole 0) xs)
unfolding chroma_sigma
of_level xs e = go (ltb (length xs) 8)
  where
    go : (b : Bool) → LevelSigma (cond b (whole 0) (max (sigma_of xs) least_sigma))
    go true = level-none
    go false = level-raised (max (sigma_of xs) least_sigma) (raised (sigma_of xs) (error_sigma_in xs e))

-- lightnesses about their medians
about_in : {dark light : List Float} → Each (Within 36) dark → Each (Within 36) light → Each (Within 37) (spread_about (median_of dark) (median_of light) dark light)
about_in {dark} {light} d l =
    each_append (spread-in (median_of dark) dark (level-median_in dark d) d) (spread-in (median_of light) light (level-median_in light l) l)

module _ (n : ℕ) (dark light errors darkErrors lightErrors : List Float) (d : Each (Within 36) dark) (l : Each (Within 36) light) (e : Each (Within 38) errors)
    (f : Each (Within 38) darkErrors) (g : Each (Within 38) lightErrors) where
  figures-pass : Passing (figures_of n (median_of dark) (median_of light) dark light errors darkErrors lightErrors)
  unfolding figures_of luma_sigma
  figures-pass =
      let xs = spread_about (median_of dark) (median_of light) dark light in
      passing (figures_of n (median_of dark) (median_of light) dark light errors darkErrors lightErrors) (up36 (level-median_in dark d)) (up36 (level-median_in light l))
      (raised (sigma_of xs) (spread-sigma_in xs (about_in d l))) (pooled errors e)
      (of_level darkErrors f) (of_level lightErrors g)

  module _ (palette : List Float) (p : Passing (nominal palette)) where
    record-passes : Passing (record_of palette n dark light errors darkErrors lightErrors)
    unfolding record_of
    record-passes = go (ltb (length dark) 3 || ltb (length light) 3)
      where
        go : (b : Bool) → Passing (cond b (nominal palette) (figures_of n (median_of dark) (median_of light) dark light errors darkErrors lightErrors))
        go true = p
        go false = figures-pass

-- ---- the colours of a call that is accepted. The floats that it is handed are f32.

first : (b c : Bool) → cond b true c ≡ false → (b ≡ false) × (c ≡ false)
first true c e = let z : ◌≡◌ {A = ℕ} 0 1 = cc in absurd (omega arith)
first false c e = (refl, e)

at_same : (p : ℕ → Bool) (i j : ℕ) → i ≡ j → p i ≡ false → p j ≡ false
at_same p i j u h = rw (← u) h

some-false : (p : ℕ → Bool) (k i : ℕ) → some_of k i p ≡ false → (j : ℕ) → i ≤ j → j < i + k → p j ≡ false
unfolding some_of
some-false p zero i e j h l = absurd (omega arith)
some-false p (suc k) i e j h l =
    let q = first (p i) (some_of k (suc i) p) e in
    ⊎_elim (λ (u : i ≡ j). at_same p i j u q.0) (λ (u : i < j). some-false p k (suc i) q.1 j u (omega arith)) (eq-or-lt_of_le h)

any_false : (p : ℕ → Bool) (n i : ℕ) → any_up i n p ≡ false → (j : ℕ) → i ≤ j → j < n → p j ≡ false
unfolding any_up
any_false p n i e j h l = some-false p (n - i) i e j h (omega arith)

abbrev pub F32 : List Float → Type 0
F32 xs = (i : ℕ) → T (fits binary32 (get_or xs i nan))

module _ (m : IlluminationModel) (flat : List Float) (n : ℕ) (ff : F32 flat) (cols : wild_colours flat n ≡ false) where
  component : (i : ℕ) → i < n → (j : ℕ) → 8 * i + 2 ≤ j → j < 8 * i + 8 → wild (get_or flat j nan) ≡ false
  unfolding wild_colour_at
  component i h j a b = any_false (wild_at flat) (8 * i + 8) (8 * i + 2) (any_up-false (wild_colour_at flat) n cols i h) j a b

  nominal-tame : (i : ℕ) → i < n → wild_linear (nominal_at flat i) ≡ false
  unfolding wild_linear
  nominal-tame i h =
      rw (
        component i h (8 * i + 5 + 0) (omega arith) (omega arith),
        component i h (8 * i + 5 + 1) (omega arith) (omega arith),
        component i h (8 * i + 5 + 2) (omega arith) (omega arith),
      )

  nominal_in : (i : ℕ) → i < n → LabWithin 36 (nominal_lab flat i)
  unfolding nominal_lab
  nominal_in i h = lab-within (nominal_at flat i) (ff (8 * i + 5 + 0)) (ff (8 * i + 5 + 1)) (ff (8 * i + 5 + 2)) (nominal-tame i h)

  module _ (right : wild_corrected m flat n ≡ false) where
    corrected_in : (i : ℕ) → i < n → LabWithin 36 (corrected_lab m flat i)
    unfolding corrected_lab wild_corrected_at corrected_at mixed affine_row
    corrected_in i h = lab-within (corrected_at m flat i) (single-fits _) (single-fits _) (single-fits _) (any_up-false (wild_corrected_at m flat) n right i h)

    l_in : (i : ℕ) → i < n → Within 36 (lightness_at m flat i)
    unfolding lightness_at
    l_in i h = (corrected_in i h).l

    e_in : (i : ℕ) → i < n → Within 38 (error_at m flat i)
    unfolding error_at
    e_in i h = error_in (corrected_lab m flat i) (nominal_lab flat i) (corrected_in i h) (nominal_in i h)

    lights : (p : ℕ → Bool) → Each (Within 36) (picked n 0 p (lightness_at m flat))
    lights p = picked-each (Within 36) n 0 p (lightness_at m flat) (λ j h. l_in j (omega arith))

    errors : (p : ℕ → Bool) → Each (Within 38) (picked n 0 p (error_at m flat))
    errors p = picked-each (Within 38) n 0 p (error_at m flat) (λ j h. e_in j (omega arith))

    -- no distance of lightnesses or of errors from their median is a NaN
    pub lights-real : (p q : ℕ → Bool) → let dark = picked n 0 p (lightness_at m flat) in let light = picked n 0 q (lightness_at m flat) in
        RealDistances (spread_about (median_of dark) (median_of light) dark light)
    lights-real p q = spread-real _ (about_in (lights p) (lights q))

    pub errors-real : (p : ℕ → Bool) → RealDistances (picked n 0 p (error_at m flat))
    errors-real p = error_real _ (errors p)

pub late : (m : IlluminationModel) (flat : List Float) (n : ℕ) → 8 ≤ n → bad_corrected m flat n ≡ false → wild_corrected m flat n ≡ false
unfolding bad_corrected
late m flat n h e = go (leb 8 n) (le-leb 8 n h) e
  where
    go : (b : Bool) → b ≡ true → (b && wild_corrected m flat n) ≡ false → wild_corrected m flat n ≡ false
    go true q e = e
    go false q e = let z : ◌≡◌ {A = ℕ} 0 1 = cc in absurd (omega arith)

module _ (m : IlluminationModel) (palette flat : List Float) (n hues : ℕ) (ff : F32 flat) (fp : F32 palette) (cols : wild_colours flat n ≡ false)
    (nums : wild_palette palette hues ≡ false) where
  nominal-pass : Passing (nominal palette)
  unfolding level_l
  nominal-pass =
      passing (nominal palette) (up20 (not-wild (level_l palette 0) (fp 0) (level-tame palette hues nums 0 (omega arith))))
      (up20 (not-wild (level_l palette 1) (fp 1) (level-tame palette hues nums 1 (omega arith)))) six six level-none level-none

  measured-pass : wild_corrected m flat n ≡ false → Passing (measured_of m palette flat n)
  unfolding measured_of
  measured-pass right =
      let l = lights m flat n ff cols right in
      let e = errors m flat n ff cols right in
      record-passes n _ _ _ _ _ (l _) (l _) (e _) (e _) (e _) palette nominal-pass

  passes : bad_corrected m flat n ≡ false → Passing (measured m palette flat n)
  unfolding measured
  passes e = go (ltb n 8) refl
    where
      go : (b : Bool) → ltb n 8 ≡ b → Passing (cond b (nominal palette) (measured_of m palette flat n))
      go true q = nominal-pass
      go false q = measured-pass (late m flat n (ltb-false n 8 q) e)

-- what an accepted call answers passes sentences 8 and 9
pub answer-passes : (m : IlluminationModel) (palette flat : List Float) (n side hues lent : ℕ) → F32 flat → F32 palette → Accepted flat n side m palette hues lent
    → Passing (measured m palette flat n)
answer-passes m palette flat n side hues lent ff fp a = passes m palette flat n hues ff fp a.colours a.numbers a.corrected

-- The theorem: a record that a call gives passes sentences 8 and 9, and holds f32 values.
module _ (q : Request) (ff : F32 q.flat) (fp : F32 q.palette) (r : Measurement) where
  by_number : (k : ℕ) → k ≡ refusal (sentences_of q) → (decided k (turned_away q) (done q)).said ≡ gives r → Passing r.noise
  unfolding decided
  by_number zero e h =
      let g : r ≡ measurement q.model q.palette q.flat q.n = sym (some-injective _ r (ap (λ s. s.value) h)) in
      rw g
      (answer-passes q.model q.palette q.flat q.n q.side q.hues (length q.scratch) ff fp
      (accepted q.flat q.cut q.n q.side q.model q.palette q.hues (length q.scratch) e))
  by_number (suc k) e h = absurd (none-ne-some r (ap (λ s. s.value) h))

  pub answered-passes : (measure_of q).said ≡ gives r → Passing r.noise
  unfolding measure_of
  answered-passes h = by_number (refusal (sentences_of q)) refl h

  pub given-passes : (s : List Float) → final (gives r) s ≡ measure_of q → Passing r.noise
  given-passes s h = answered-passes (ap (λ (x : Final). x.said) (sym h))

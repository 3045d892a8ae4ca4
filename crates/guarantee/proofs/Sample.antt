-- What the laws say of one sample inside the margin, with all that a setting gives: within half a sigma of a palette colour its luma score is above 8 in magnitude, at 13 at least 12, and has the colour's level as its sign,
-- its weight is 0.9931 or more, and the colour's hue leads. Assumes nothing.
use mathlib.Core.Path.{◌≡◌, subst}
use mathlib.Core.Logic.{◌⊎◌, inl, inr}
use mathlib.Core.Bool.{Bool, true, false, cond}
use mathlib.Core.List.{List}
use Prim.Native.Nat.{ℕ, ◌+◌, ◌*◌, ◌^◌, ◌≤◌, ◌<◌}
use native.Mathlib.Omega.{arith}
use lib.Dec.{T}
use lib.ListN.{length, get_or}
use lib.Ieee.{Float, nan, binary32, neg, le, round, fits}
use lib.Ieee.Fits.{sub-fits, mul-fits}
use Rattle.floatlaws.specs.Value.{unit, hi, lo, one_side}
use Rattle.floatlaws.specs.Order.{Le, of_le, sides, le_trans, hi_neg, lo_neg}
use Rattle.floatlaws.specs.Finite.{Fin, num, neg-fin}
use Rattle.floatlaws.specs.Const.{Const, const, is_const}
use Rattle.floatlaws.specs.Interval.{within}
use Rattle.color.specs.declared.Linear.{Linear}
use Rattle.color.specs.declared.Lab.{Lab}
use Rattle.color.specs.Color.{whole, fraction, lightness, xyz_to_lab, linear_to_lab}
use Rattle.color.specs.Palette.{hue_ab, palette_lab, wild, wild_palette}
use Rattle.color.proofs.Bounded as bounded
use Rattle.color.proofs.Passed.{hue-tame, lab-tame}
use Rattle.modulate.proofs.Decided.{Leads}
use Rattle.stats.specs.declared.ChannelStats.{ChannelStats}
use Rattle.stats.specs.Noise.{sigma_ab_at, luma_llr, reliability, hue_log_likelihoods}
use Rattle.stats.specs.Calls.{bad_sigmas}
use Rattle.stats.proofs.Range.{Held}
use Rattle.margin.proofs.Clear.{Clear, Apart}
use Rattle.scores.specs.Score.{weighed}
use Rattle.guarantee.specs.Within.{half_apart, half_sigma}
use Rattle.guarantee.proofs.Range.{Level, Tame, tame, level_in, both}
use Rattle.guarantee.proofs.Luma.{llr_in}
use Rattle.guarantee.proofs.Sigma.{Scale, Any, wider, sigma_in}
use Rattle.guarantee.proofs.Half.{Close, close}
use Rattle.guarantee.proofs.Weight.{Bounded, Near, Weight, reliable}
use Rattle.guarantee.proofs.Score.{Enough, Dark, Light, dark_llr, light_llr, sample_lightness, dark_as_is, light_as_is, dark-weighed, light-weighed}
use Rattle.guarantee.proofs.Leads.{BoundedAb, runner_up, leads}

-- ---- ranges

million : Const binary32 (whole (2 ^ 20)) 1048576 0 1
unfolding fraction round is_const
million = const binary32 (whole (2 ^ 20)) 1048576 0 1 tt

widest : Const binary32 (whole 2097152) 2097152 0 1
unfolding fraction round is_const
widest = const binary32 (whole 2097152) 2097152 0 1 tt

most : Const binary32 (whole 2000) 2000 0 1
unfolding fraction round is_const
most = const binary32 (whole 2000) 2000 0 1 tt

pub tame-any : (v : Float) → T (fits binary32 v) → wild v ≡ false → Any v
unfolding le neg fraction round
tame-any v f e =
    let p = bounded.not-wild v f e in
    within (neg-fin widest.is) widest.is (num p.is)
    (le_trans (of_le (num (neg-fin widest.is)) (num p.from) tt) p.low) (le_trans p.high (of_le (num p.to) widest.num tt))

-- a number close to one up to 2^20 in magnitude is up to 2^21
pub near-any : {s x y : Float} → Scale s → T (fits binary32 y) → wild y ≡ false → Close s x y → Any x
near-any {s} {x} {y} S f e c =
    let p = bounded.not-wild y f e in
    let a = sides p.low in
    let b = sides p.high in
    let k = sides S.high in
    within (neg-fin widest.is) widest.is (num c.is)
    (record { le = low (hi binary32 x) (lo binary32 x) (hi binary32 y) (lo binary32 y) (hi binary32 s) (lo binary32 s) (unit binary32) (hi binary32 (whole 2097152)) (lo binary32 (whole 2097152)) (hi binary32 (whole (2 ^ 20))) (hi binary32 (whole 2000)) (hi binary32 (neg (whole 2097152))) (lo binary32 (neg (whole 2097152))) (one_side binary32 x) (one_side binary32 y) c.down b.0 (omega (arith, a.1, lo_neg binary32 (whole (2 ^ 20)))) k.0 widest.hi widest.lo million.hi most.hi (hi_neg binary32 (whole 2097152)) (lo_neg binary32 (whole 2097152)) })
    (record { le = high (hi binary32 x) (lo binary32 x) (hi binary32 y) (lo binary32 y) (hi binary32 s) (lo binary32 s) (unit binary32) (hi binary32 (whole 2097152)) (lo binary32 (whole 2097152)) (hi binary32 (whole (2 ^ 20))) (hi binary32 (whole 2000)) (one_side binary32 x) (one_side binary32 y) c.up b.0 (omega (arith, a.1, lo_neg binary32 (whole (2 ^ 20)))) k.0 widest.hi widest.lo million.hi most.hi })
  where
    high : (x x' y y' s s' u w w' g k : ℕ) → (x ≡ 0) ⊎ (x' ≡ 0) → (y ≡ 0) ⊎ (y' ≡ 0) → 2 * (x + y') + s' ≤ 2 * (y + x') + s → y ≤ g → y' ≤ g → s ≤ k → w * 1 ≡ 2097152 * u → w' * 1 ≡ 0 * u → g * 1 ≡ 1048576 * u → k * 1 ≡ 2000 * u → x + w' ≤ w + x'
    high x x' y y' s s' u w w' g k (inl p) q h a b c d e f i = omega arith
    high x x' y y' s s' u w w' g k (inr p) (inl q) h a b c d e f i = omega arith
    high x x' y y' s s' u w w' g k (inr p) (inr q) h a b c d e f i = omega arith

    low : (x x' y y' s s' u w w' g k v v' : ℕ) → (x ≡ 0) ⊎ (x' ≡ 0) → (y ≡ 0) ⊎ (y' ≡ 0) → 2 * (y + x') + s' ≤ 2 * (x + y') + s → y ≤ g → y' ≤ g → s ≤ k → w * 1 ≡ 2097152 * u → w' * 1 ≡ 0 * u → g * 1 ≡ 1048576 * u → k * 1 ≡ 2000 * u → v ≡ w' → v' ≡ w → v + x' ≤ x + v'
    low x x' y y' s s' u w w' g k v v' (inl p) (inl q) h a b c d e f i j l = omega arith
    low x x' y y' s s' u w w' g k v v' (inl p) (inr q) h a b c d e f i j l = omega arith
    low x x' y y' s s' u w w' g k v v' (inr p) q h a b c d e f i j l = omega arith

-- a colour that was taken to Lab has f32 numbers
pub record LabFits (c : Lab) : Type 0 where
  pub l : T (fits binary32 c.l)
  pub a : T (fits binary32 c.a)
  pub b : T (fits binary32 c.b)

pub lab-fits : (c : Linear) → LabFits (linear_to_lab c)
unfolding xyz_to_lab lightness
lab-fits c = record { l = sub-fits binary32 _ _; a = mul-fits binary32 _ _; b = mul-fits binary32 _ _ }

-- ---- a palette and a record inside the margin

pub record Fits (palette : List Float) : Type 0 where
  pub at : (i : ℕ) → T (fits binary32 (get_or palette i nan))

-- hue h leads, with some number between its likelihood and the others'
pub record HueLeads (ll : List Float) (hues h : ℕ) : Type 0 where
  pub y : Float
  pub leads : Leads ll hues h y

module _ {threshold : Float} (n : ChannelStats) (palette : List Float) (hues : ℕ) (held : Held n) (P : Fits palette) (calm : wild_palette palette hues ≡ false) (sigmas : bad_sigmas n ≡ false) (margin : Clear threshold n palette hues) where
  good : Tame n
  good = tame threshold n palette hues held sigmas margin

  colour-in : (i : ℕ) → i < 2 * hues → Bounded (palette_lab palette hues i)
  unfolding palette_lab
  colour-in i h =
      let t = lab-tame palette hues calm i h in
      record { l = tame-any _ (P.at _) t.l; a = tame-any _ (P.at _) t.a; b = tame-any _ (P.at _) t.b }

  point_in : (h : ℕ) → h < hues → BoundedAb (hue_ab palette h)
  unfolding hue_ab
  point_in h l =
      let t = hue-tame palette hues calm h l in
      record { a = tame-any _ (P.at _) t.a; b = tame-any _ (P.at _) t.b }

  colour-level : (i : ℕ) → i < 2 * hues → Level (palette_lab palette hues i).l
  unfolding palette_lab
  colour-level i h = level_in _ (P.at _) (margin.colour-small i h)

  -- a sample near palette colour i
  module _ (sample : Lab) (F : LabFits sample) (i : ℕ) (h : i < 2 * hues) (e : half_sigma n sample (palette_lab palette hues i) ≡ true) where
    near : Near n sample (palette_lab palette hues i)
    unfolding half_sigma palette_lab
    near =
        let p = both (half_apart n.sigma_l sample.l (palette_lab palette hues i).l) _ e in
        let q = both (half_apart (sigma_ab_at n (palette_lab palette hues i).l) sample.a (palette_lab palette hues i).a) (half_apart (sigma_ab_at n (palette_lab palette hues i).l) sample.b (palette_lab palette hues i).b) p.1 in
        record { l = close _ _ _ F.l (P.at _) p.0; a = close _ _ _ F.a (P.at _) q.0; b = close _ _ _ F.b (P.at _) q.1 }

    scale : Scale (sigma_ab_at n (palette_lab palette hues i).l)
    scale = sigma_in n good (palette_lab palette hues i).l (colour-in i h).l

    sample_in : Bounded sample
    unfolding palette_lab
    sample_in =
        let t = lab-tame palette hues calm i h in
        record { l = near-any (wider good.sigma-l) (P.at _) t.l near.l; a = near-any scale (P.at _) t.a near.a; b = near-any scale (P.at _) t.b near.b }

    -- the weight is at least 0.9931
    pub weight : Weight (reliability n sample palette hues)
    weight = reliable n good palette hues colour-in sample sample_in i h near

    score_fin : Fin binary32 (luma_llr n sample.l)
    score_fin = (llr_in n good (sample_lightness good.sigma-l (colour-level i h) near.l)).is

    -- the colour's hue leads
    pub hue-leads : (own : ℕ) → own < hues → Apart n palette hues i own → (out : List Float) → hues ≤ length out → HueLeads (hue_log_likelihoods n sample palette hues out) hues own
    hue-leads own l a out r =
        record {
          y = runner_up n good palette hues point_in sample sample_in i own l (colour-in i h) a near;
          leads = leads n good palette hues point_in sample sample_in i own l (colour-in i h) a near out r;
        }

    -- the luma score, weighed (w) or as it is
    module _ {least : Float} (E : Enough threshold least) where
      -- of a dark colour
      dark_at : i < hues → Le binary32 threshold (luma_llr n sample.l)
      dark_at l = dark_llr n good palette hues threshold (num E.is) i (colour-level i h) (margin.dark i l) near.l

      pub dark_score : i < hues → (w : Bool) → Dark least (cond w (weighed (luma_llr n sample.l) (reliability n sample palette hues)) (luma_llr n sample.l))
      unfolding weighed
      dark_score l true = dark-weighed E score_fin weight (dark_at l)
      dark_score l false = dark_as_is E score_fin (dark_at l)

      -- of a light one
      light-at : (o : ℕ) → o < hues → i ≡ hues + o → Le binary32 (luma_llr n sample.l) (neg threshold)
      light-at o l z =
          light_llr n good palette hues threshold (num E.is) o (subst (λ (j : ℕ). Level (palette_lab palette hues j).l) z (colour-level i h)) (margin.light o l)
          (subst (λ (j : ℕ). Close n.sigma_l sample.l (palette_lab palette hues j).l) z near.l)

      pub light_score : (o : ℕ) → o < hues → i ≡ hues + o → (w : Bool) → Light least (cond w (weighed (luma_llr n sample.l) (reliability n sample palette hues)) (luma_llr n sample.l))
      unfolding weighed
      light_score o l z true = light-weighed E score_fin weight (light-at o l z)
      light_score o l z false = light_as_is E score_fin (light-at o l z)

-- The numbers of a noise record that passes the margin check and sentences 8 and 9: each test bounds one of them, and a number between finite bounds is finite. Assumes nothing.
use mathlib.Core.Path.{◌≡◌, refl, sym, ◌∙◌, subst}
use mathlib.Core.Logic.{◌⊎◌, inl, inr}
use mathlib.Core.Bool.{Bool, true, false, not, ◌&&◌, ◌||◌}
use mathlib.Core.List.{List}
use Prim.Native.Nat.{ℕ}
use native.Mathlib.Omega.{arith}
use lib.Dec.{T}
use lib.Ieee.{Float, nan, inf, fin, binary32, neg, lt, le, eq, round, fits, is_nan}
use Rattle.sentences.proofs.Laws.{neither}
use Rattle.floatlaws.specs.Value.{Num}
use Rattle.floatlaws.specs.Order.{Lt, of_le, of_lt, of_not_lt}
use Rattle.floatlaws.specs.Finite.{num, neg-fin}
use Rattle.floatlaws.specs.Const.{Const, const, is_const}
use Rattle.floatlaws.specs.Interval.{In, within}
use Rattle.float.specs.Select.{abs}
use Rattle.float.proofs.Select.{abs-fits, abs-nan, of_abs_le}
use Rattle.color.specs.Color.{whole, fraction}
use Rattle.stats.specs.declared.ChannelStats.{ChannelStats}
use Rattle.margin.specs.Margin.{level_fits, sigmas_fit}
use Rattle.stats.specs.Calls.{bad_level_sigma, bad_sigmas}
use Rattle.stats.proofs.Range.{Held}
use Rattle.margin.proofs.Clear.{Clear}

-- ---- tests

pub to_T : (b : Bool) → b ≡ true → T b
to_T b e = subst T (sym e) tt

pub of_T : (b : Bool) → T b → b ≡ true
of_T true t = refl
of_T false t = absurd t

pub of_not_T : (b : Bool) → T (not b) → b ≡ false
of_not_T true t = absurd t
of_not_T false t = refl

pub both : (a b : Bool) → a && b ≡ true → (a ≡ true) × (b ≡ true)
both true b e = (refl, e)
both false b e = let z : ◌≡◌ {A = ℕ} 0 1 = cc in absurd (omega arith)

pub either : (a b : Bool) → a || b ≡ true → (a ≡ true) ⊎ (b ≡ true)
either true b e = inl refl
either false b e = inr e

pub was_true : (b : Bool) → not b ≡ false → b ≡ true
was_true true e = refl
was_true false e = let z : ◌≡◌ {A = ℕ} 0 1 = cc in absurd (omega arith)

-- what is at most something is no NaN
le_real : (x y : Float) → le x y ≡ true → is_nan x ≡ false
unfolding le lt eq is_nan
le_real nan y e = sym e
le_real (inf s) y e = refl
le_real (fin s m d) y e = refl

real : (x : Float) → is_nan x ≡ false → T (not (is_nan x))
real x e = rw e tt

pub number : (x y : Float) → T (fits binary32 x) → le x y ≡ true → Num binary32 x
number x y f e = record { fit = f; real = real x (le_real x y e) }

-- ---- the constants

pub most-level : Const binary32 (whole 256) 256 0 1
unfolding fraction round is_const
most-level = const binary32 (whole 256) 256 0 1 tt

pub least-sigma : Const binary32 (fraction 75 100) 3 0 4
unfolding fraction round is_const
least-sigma = const binary32 (fraction 75 100) 3 0 4 tt

pub most-sigma : Const binary32 (whole 1000) 1000 0 1
unfolding fraction round is_const
most-sigma = const binary32 (whole 1000) 1000 0 1 tt

-- ---- "at most 256 in magnitude"

abbrev pub Level : Float → Type 0
Level v = In binary32 (neg (whole 256)) (whole 256) v

pub level_in : (v : Float) → T (fits binary32 v) → level_fits v ≡ true → Level v
unfolding level_fits
level_in v f e =
    let a : Num binary32 (abs v) = number (abs v) (whole 256) (abs-fits binary32 v f) e in
    let n : Num binary32 v = record { fit = f; real = real v (sym (abs-nan v) ∙ le_real (abs v) (whole 256) e) } in
    let s = of_abs_le (of_le a most-level.num (to_T (le (abs v) (whole 256)) e)) in
    within (neg-fin most-level.is) most-level.is n s.0 s.1

-- ---- a sigma from 0.75 to 1,000

abbrev pub Sigma : Float → Type 0
Sigma v = In binary32 (fraction 75 100) (whole 1000) v

sigma_in : (v : Float) → T (fits binary32 v) → le v (whole 1000) ≡ true → lt v (fraction 75 100) ≡ false → Sigma v
sigma_in v f e h =
    let n = number v (whole 1000) f e in
    within least-sigma.is most-sigma.is n (of_not_lt n least-sigma.num (rw h tt)) (of_le n most-sigma.num (to_T (le v (whole 1000)) e))

-- of a level: none, or one
abbrev pub LevelSigma : Float → Type 0
LevelSigma v = (le v (whole 0) ≡ true) ⊎ Sigma v

le_of_eq : (x y : Float) → eq x y ≡ true → le x y ≡ true
unfolding le
le_of_eq x y e = by (lt x y) (eq x y) e
  where
    by : (a b : Bool) → b ≡ true → a || b ≡ true
    by true b e = refl
    by false b e = e

level-sigma : (v : Float) → T (fits binary32 v) → le v (whole 1000) ≡ true → bad_level_sigma v ≡ false → LevelSigma v
unfolding bad_level_sigma
level-sigma v f e h = by (either (eq v (whole 0)) (le (fraction 75 100) v) (was_true _ h))
  where
    by : (eq v (whole 0) ≡ true) ⊎ (le (fraction 75 100) v ≡ true) → LevelSigma v
    by (inl p) = inl (le_of_eq v (whole 0) p)
    by (inr p) =
        let n = number v (whole 1000) f e in
        inr (within least-sigma.is most-sigma.is n (of_le least-sigma.num n (to_T (le (fraction 75 100) v) p)) (of_le n most-sigma.num (to_T (le v (whole 1000)) e)))

-- ---- the record

pub record Tame (n : ChannelStats) : Type 0 where
  pub l0 : Level n.l0
  pub l1 : Level n.l1
  pub rising : Lt binary32 n.l0 n.l1
  pub sigma-l : Sigma n.sigma_l
  pub sigma-ab : Sigma n.sigma_ab
  pub dark : LevelSigma n.sigma_ab_dark
  pub light : LevelSigma n.sigma_ab_light

pub tame : (threshold : Float) (n : ChannelStats) (palette : List Float) (hues : ℕ) → Held n → bad_sigmas n ≡ false → Clear threshold n palette hues → Tame n
unfolding bad_sigmas sigmas_fit
tame threshold n palette hues f b c =
    let s = neither (lt n.sigma_l (fraction 75 100)) _ b in
    let t = neither (lt n.sigma_ab (fraction 75 100)) _ s.1 in
    let u = neither (bad_level_sigma n.sigma_ab_dark) (bad_level_sigma n.sigma_ab_light) t.1 in
    let v = both (le n.sigma_l (whole 1000)) _ c.sigmas-small in
    let w = both (le n.sigma_ab (whole 1000)) _ v.1 in
    let x = both (le n.sigma_ab_dark (whole 1000)) (le n.sigma_ab_light (whole 1000)) w.1 in
    let l0 = level_in n.l0 f.l0 c.l0_small in
    let l1 = level_in n.l1 f.l1 c.l1_small in
    record {
      l0 = l0;
      l1 = l1;
      rising = of_lt (num l0.is) (num l1.is) (to_T (lt n.l0 n.l1) c.rising);
      sigma-l = sigma_in n.sigma_l f.sigma-l v.0 s.0;
      sigma-ab = sigma_in n.sigma_ab f.sigma-ab w.0 t.0;
      dark = level-sigma n.sigma_ab_dark f.sigma-ab-dark x.0 u.0;
      light = level-sigma n.sigma_ab_light f.sigma-ab-light x.1 u.1;
    }

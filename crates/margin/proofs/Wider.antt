-- The margin check says yes at a lower threshold wherever it does at a higher one: a score that is at least the one is at least the other, and nothing else of the sentence has the threshold. So yes at 13
-- gives yes at 9. Assumes nothing.
use mathlib.Core.Path.{◌≡◌, sym, ap}
use mathlib.Core.Bool.{Bool, true, not, ◌&&◌}
use mathlib.Core.List.{List}
use Prim.Native.Nat.{ℕ}
use native.Mathlib.Omega.{arith}
use lib.Dec.{T}
use lib.Ieee.{Float, nan, inf, fin, binary32, neg, lt, le, eq, round, fits, is_nan}
use lib.Ieee.Fits.{div-fits}
use lib.Ieee.Bits.{is_true}
use Rattle.loops.proofs.Laws.{any_up-none}
use Rattle.answers.specs.Answers.{gives}
use Rattle.answers.proofs.Answers.{given-none-holds, given_is, says-given}
use Rattle.floatlaws.specs.Value.{Num}
use Rattle.floatlaws.specs.Order.{Le, of_le, to_le, le_trans, neg-num, neg_anti}
use Rattle.color.specs.Color.{fraction}
use Rattle.stats.specs.declared.ChannelStats.{ChannelStats}
use Rattle.margin.specs.declared.Threshold.{Threshold}
use Rattle.margin.specs.declared.Threshold.TheVariants as threshold
use Rattle.stats.specs.Noise.{luma_llr}
use Rattle.margin.specs.Margin.{fails_at, every, levels_fit, sigmas_fit, dark_clear, darks_clear, light_clear, lights_clear, chroma_clear, in_margin}
use Rattle.stats.specs.Calls.{sentences_of}
use Rattle.margin.specs.Calls.{least_of, margin_at_answer}
use Rattle.stats.proofs.Tests.{both}
use Rattle.stats.proofs.Range.{twenty_is, to_T, le_real, held_fits}
use Rattle.margin.proofs.Clear.{each}

-- ---- tests

every-wider : (n : ℕ) (p q : ℕ → Bool) → ((i : ℕ) → p i ≡ true → q i ≡ true) → every 0 n p ≡ true → every 0 n q ≡ true
every-wider n p q h e = ap not (any_up-none (fails_at q) n (λ j l. ap not (h j (each n p e j l))))

all : (a b : Bool) → a ≡ true → b ≡ true → a && b ≡ true
all a b p q = rw (p, q)

-- ---- the score is an f32

llr_fits : (n : ChannelStats) (l : Float) → T (fits binary32 (luma_llr n l))
unfolding luma_llr
llr_fits n l = held_fits twenty_is.is _ (div-fits binary32 _ _)

real-right : (x y : Float) → le x y ≡ true → T (not (is_nan y))
unfolding le lt eq is_nan
real-right nan nan e = let z : ◌≡◌ {A = ℕ} 0 1 = cc in absurd (omega arith)
real-right (inf s) nan e = let z : ◌≡◌ {A = ℕ} 0 1 = cc in absurd (omega arith)
real-right (fin s m d) nan e = let z : ◌≡◌ {A = ℕ} 0 1 = cc in absurd (omega arith)
real-right x (inf s) e = tt
real-right x (fin s m d) e = tt

-- ---- two thresholds, a not below b

module _ {a b : Float} (A : Num binary32 a) (B : Num binary32 b) (h : Le binary32 b a) where
  at_least : (v : Float) → T (fits binary32 v) → le a v ≡ true → le b v ≡ true
  at_least v f e =
      let n : Num binary32 v = record { fit = f; real = real-right a v e } in
      is_true (le b v) (to_le B n (le_trans h (of_le A n (to_T (le a v) e))))

  at_most : (v : Float) → T (fits binary32 v) → le v (neg a) ≡ true → le v (neg b) ≡ true
  at_most v f e =
      let n : Num binary32 v = record { fit = f; real = le_real v (neg a) e } in
      is_true (le v (neg b)) (to_le n (neg-num B) (le_trans (of_le n (neg-num A) (to_T (le v (neg a)) e)) (neg_anti h)))

  module _ (n : ChannelStats) (palette : List Float) (hues : ℕ) where
    dark : (i : ℕ) → dark_clear a n palette hues i ≡ true → dark_clear b n palette hues i ≡ true
    unfolding dark_clear
    dark i e = at_least _ (llr_fits n _) e

    light : (i : ℕ) → light_clear a n palette hues i ≡ true → light_clear b n palette hues i ≡ true
    unfolding light_clear
    light i e = at_most _ (llr_fits n _) e

    pub wider : in_margin a n palette hues ≡ true → in_margin b n palette hues ≡ true
    unfolding in_margin
    wider e =
        let p = both (lt n.l0 n.l1) _ e in
        let q = both (levels_fit n palette hues) _ p.1 in
        let r = both (sigmas_fit n) _ q.1 in
        let d = both (darks_clear a n palette hues) _ r.1 in
        let l = both (lights_clear a n palette hues) (chroma_clear n palette hues) d.1 in
        all (lt n.l0 n.l1) _ p.0
        (all (levels_fit n palette hues) _ q.0
        (all (sigmas_fit n) _ r.0
        (all (darks_clear b n palette hues) _ (every-wider hues (dark_clear a n palette hues) (dark_clear b n palette hues) dark d.0)
        (all (lights_clear b n palette hues) (chroma_clear n palette hues) (every-wider hues (light_clear a n palette hues) (light_clear b n palette hues) light l.0) l.1))))

-- ---- the settings

pub least-num : (least : Threshold) → Num binary32 (least_of least)
unfolding fraction round fits is_nan
least-num threshold.Thirteen = record { fit = tt; real = tt }
least-num threshold.Nine = record { fit = tt; real = tt }

lower : Le binary32 (least_of threshold.Nine) (least_of threshold.Thirteen)
unfolding le fraction round
lower = of_le (least-num threshold.Nine) (least-num threshold.Thirteen) tt

pub yes_at_nine : (n : ChannelStats) (palette : List Float) (hues : ℕ) → margin_at_answer threshold.Thirteen n palette hues ≡ gives true → margin_at_answer threshold.Nine n palette hues ≡ gives true
yes_at_nine n palette hues e =
    let ss = sentences_of n palette hues in
    let v = in_margin (least_of threshold.Thirteen) n palette hues in
    let w = in_margin (least_of threshold.Nine) n palette hues in
    let yes = wider (least-num threshold.Thirteen) (least-num threshold.Nine) lower n palette hues (sym (given_is ss v true (sym e))) in
    sym (says-given ss w true (sym (given-none-holds ss v true (sym e))) (sym yes))

-- A score above 8 in magnitude keeps its sign where the refined score is no NaN. What is added is within 8 or a NaN, and a NaN leaves a NaN. So the exact sum has the score's sign, and it does not round
-- to 0, since the sum of two f32 is a whole number of the smallest f32; and holding it to ±20 keeps the sign. Assumes nothing.
use mathlib.Core.Path.{◌≡◌, refl, sym, ap, ◌∙◌, subst}
use mathlib.Core.Logic.{◌⊎◌, inl, inr, ⊎_elim}
use mathlib.Core.Bool.{Bool, true, false, not, ◌||◌}
use mathlib.Core.List.{List}
use Rattle.std.specs.Prelude.{Option, Some, None}
use Prim.Native.Nat.{ℕ, zero, suc, ◌≤◌, ◌<◌}
use native.Mathlib.Omega.{arith}
use borrow.Author.Tests.{ltb-true, ltb-false}
use lib.Dec.{T, ltb, eqb}
use lib.ListN.{length, get_or}
use lib.Ieee.{Float, nan, inf, fin, binary32, lt, neg, add, mul, round, is_nan, fits, of_bits}
use lib.Ieee.Fits.{add-fits, mul-fits}
use lib.Ieee.Bits.{is_true}
use Rattle.floatlaws.specs.Value.{unit-pos, hi, lo, Num, one_side}
use Rattle.floatlaws.specs.Order.{Le, Lt, of_lt, to_lt, of_not_lt, hi_neg, lo_neg, above-none}
use Rattle.floatlaws.specs.Ops.{mul-swap}
use Rattle.floatlaws.specs.Finite.{num, neg-fin, add_num'}
use Rattle.floatlaws.specs.Const.{Const, const, is_const}
use Rattle.floatlaws.specs.Interval.{In, within}
use Rattle.floatlaws.proofs.Interval.{mul_in_signed}
use Rattle.floatlaws.proofs.Exact.{add-above, add-below}
use Rattle.float.specs.Select.{clamp}
use Rattle.float.proofs.Select.{clamp-nan, clamp-num, clamp_gt, clamp_lt}
use Rattle.limits.specs.Chroma.{weighted}
use Rattle.color.specs.declared.Linear.{Linear}
use Rattle.color.specs.Color.{fraction, whole, luminance, linear_to_lab}
use Rattle.color.specs.Palette.{linear_at}
use Rattle.stats.specs.declared.ChannelStats.{ChannelStats}
use Rattle.stats.specs.Arithmetic.{◌⊕◌, ◌⊗◌}
use Rattle.stats.proofs.Range.{twenty_is, to_T, held_fits}
use Rattle.stats.proofs.Reliable.{zero_is, reliability_in}
use Rattle.local.specs.declared.Window.{Window}
use Rattle.local.specs.declared.LocalFit.{LocalFit}
use Rattle.local.specs.declared.Plane.{Plane}
use Rattle.local.specs.Local.{halves_of, amount_of, fit_of, concluded, local_fit}
use Rattle.sentences.specs.Sentences.{refusal}
use Rattle.lists.proofs.Laws.{Reached}
use Rattle.refine.specs.declared.Levels.{Levels}
use Rattle.refine.specs.Window.{window_of}
use Rattle.places.specs.Places.{square_of}
use Rattle.refine.specs.Refine.{sure, deglared, weighed_amount, added, add_fit, refine_one, levels_of, grid_of, refined}
use Rattle.refine.specs.Calls.{Request, Final, sentences_of, refined_of, refine_of}
use Rattle.refine.specs.Sign.{KeepsSign, StepKeepsSign, CallKeepsSign}
use Rattle.refine.proofs.Within.{Within, AmountWithin, amount-within, either}
use Rattle.refine.proofs.Each.{reached}
use Rattle.refine.proofs.Accepted.{at_refused, at_done, accepted}

-- ---- tests and constants

pub not_T : (b : Bool) → b ≡ false → T (not b)
not_T b e = subst (λ (t : Bool). T (not t)) (sym e) tt

never : {A : Type 0} → true ≡ false → A
never e = let z : ◌≡◌ {A = ℕ} 0 1 = cc in absurd (omega arith)

pub eight_is : Const binary32 (whole 8) 8 0 1
unfolding fraction round is_const
eight_is = const binary32 (whole 8) 8 0 1 tt

-- a score that a test finds on one side of something is no NaN
real-above : (x v : Float) → lt x v ≡ true → T (not (is_nan v))
unfolding lt is_nan
real-above nan nan e = never (sym e)
real-above (inf s) nan e = never (sym e)
real-above (fin s m d) nan e = never (sym e)
real-above x (inf s) e = tt
real-above x (fin s m d) e = tt

real-below : (v x : Float) → lt v x ≡ true → T (not (is_nan v))
unfolding lt is_nan
real-below nan x e = never (sym e)
real-below (inf s) x e = tt
real-below (fin s m d) x e = tt

-- ---- what is added: a number within 8, or a NaN

abbrev Small : Float → Type 0
Small a = (a ≡ nan) ⊎ In binary32 (neg (whole 8)) (whole 8) a

between : (a : Float) → Within (whole 8) a → Num binary32 a → In binary32 (neg (whole 8)) (whole 8) a
between a p n =
    let m = neg-fin eight_is.is in
    within m eight_is.is n (of_not_lt n (num m) (not_T (lt a (neg (whole 8))) p.low)) (of_not_lt eight_is.num n (not_T (lt (whole 8) a) p.high))

small : (a : Float) → T (fits binary32 a) → Within (whole 8) a → Small a
small nan f p = inl refl
small (inf s) f p = inr (between (inf s) p (record { fit = f; real = unfold is_nan in tt }))
small (fin s m e) f p = inr (between (fin s m e) p (record { fit = f; real = unfold is_nan in tt }))

-- times a weight from 0 to 1
weighed-small : (a w : Float) → In binary32 (whole 0) (whole 1) w → Small a → Small (a ⊗ w)
unfolding mul neg fraction round
weighed-small a w q (inl e) = inl (ap (λ (x : Float). x ⊗ w) e)
weighed-small a w q (inr p) = inr (rw (mul-swap binary32 a w) (mul_in_signed q p tt))

-- ---- the sum, held to ±20

-- a NaN leaves a NaN
add-nan : (v : Float) → v ⊕ nan ≡ nan
unfolding add
add-nan nan = refl
add-nan (inf s) = refl
add-nan (fin s m e) = refl

added-nan : (v : Float) → is_nan (added v nan) ≡ true
unfolding added is_nan
added-nan v = rw (add-nan v, clamp-nan (neg (whole 20)) (whole 20)) refl

twenty-order : Le binary32 (neg (whole 20)) (whole 20)
twenty-order = omega (arith, hi_neg binary32 (whole 20), lo_neg binary32 (whole 20), twenty_is.lo)

-- what is below zero is not above it
pub below_none : (x : Float) → 0 < lo binary32 x → hi binary32 x ≡ 0
below_none x h = ⊎_elim (λ (e : hi binary32 x ≡ 0). e) (λ (e : lo binary32 x ≡ 0). absurd (omega arith)) (one_side binary32 x)

module _ {v a : Float} (n : Num binary32 v) (p : In binary32 (neg (whole 8)) (whole 8) a) where
  sum : Num binary32 (v ⊕ a)
  sum = add_num' n p.is

  held : Num binary32 (added v a)
  unfolding added
  held = clamp-num (num (neg-fin twenty_is.is)) twenty_is.num twenty-order sum

  added-above : Lt binary32 (whole 8) v → Lt binary32 (whole 0) (added v a)
  unfolding added
  added-above h =
      let l : Lt binary32 (neg a) v = omega (arith, p.low, hi_neg binary32 a, lo_neg binary32 a, hi_neg binary32 (whole 8), lo_neg binary32 (whole 8)) in
      let s = add-above n (num p.is) sum l in
      let z = above-none binary32 (v ⊕ a) s in
      clamp_gt (num (neg-fin twenty_is.is)) twenty_is.num sum
      (record { lt = omega (arith, zero_is.hi, zero_is.lo) })
      (record { lt = omega (arith, zero_is.hi, zero_is.lo, twenty_is.hi, twenty_is.lo, unit-pos binary32) })

  added-below : Lt binary32 v (neg (whole 8)) → Lt binary32 (added v a) (whole 0)
  unfolding added
  added-below h =
      let l : Lt binary32 v (neg a) = omega (arith, p.high, hi_neg binary32 a, lo_neg binary32 a, hi_neg binary32 (whole 8), lo_neg binary32 (whole 8)) in
      let s = add-below n (num p.is) sum l in
      let z = below_none (v ⊕ a) s in
      clamp_lt (num (neg-fin twenty_is.is)) twenty_is.num sum
      (record { lt = omega (arith, zero_is.hi, zero_is.lo) })
      (record { lt = omega (arith, zero_is.hi, zero_is.lo, twenty_is.hi, twenty_is.lo, hi_neg binary32 (whole 20), lo_neg binary32 (whole 20), unit-pos binary32) })

-- what the law's tests say of an f32 score
above_8 : (v : Float) → T (fits binary32 v) → lt (whole 8) v ≡ true → Num binary32 v × Lt binary32 (whole 8) v
above_8 v f h = let n : Num binary32 v = record { fit = f; real = real-above (whole 8) v h } in (n, of_lt eight_is.num n (to_T (lt (whole 8) v) h))

below_8 : (v : Float) → T (fits binary32 v) → lt v (neg (whole 8)) ≡ true → Num binary32 v × Lt binary32 v (neg (whole 8))
below_8 v f h =
    let n : Num binary32 v = record { fit = f; real = real-below v (neg (whole 8)) h } in (n, of_lt n (num (neg-fin eight_is.is)) (to_T (lt v (neg (whole 8))) h))

-- what refinement makes of an f32 score: an f32, with the score's sign
record Kept (before after : Float) : Type 0 where
  fit : T (fits binary32 after)
  sign : KeepsSign before after

added-fits : (v a : Float) → T (fits binary32 (added v a))
unfolding added
added-fits v a = held_fits twenty_is.is _ (add-fits binary32 v a)

added-sign : (v a : Float) → T (fits binary32 v) → Small a → KeepsSign v (added v a)
added-sign v a f (inl e) =
    let t : is_nan (added v a) ≡ true = ap (λ (x : Float). is_nan (added v x)) e ∙ added-nan v in
    record { dark = λ h r. never (sym t ∙ r); light = λ h r. never (sym t ∙ r) }
added-sign v a f (inr p) =
    record {
      dark = λ h r. let n = above_8 v f h in is_true (lt (whole 0) (added v a)) (to_lt zero_is.num (held n.0 p) (added-above n.0 p n.1));
      light = λ h r. let n = below_8 v f h in is_true (lt (added v a) (whole 0)) (to_lt (held n.0 p) zero_is.num (added-below n.0 p n.1));
    }

-- a score that stays
same_sign : (v : Float) → T (fits binary32 v) → KeepsSign v v
same_sign v f =
    record {
      dark = λ h r.
          let n = above_8 v f h in
          is_true (lt (whole 0) v) (to_lt zero_is.num n.0 (record { lt = omega (arith, n.1, eight_is.lo, zero_is.hi, zero_is.lo) }));
      light = λ h r.
          let n = below_8 v f h in
          is_true (lt v (whole 0)) (to_lt n.0 zero_is.num (record { lt = omega (arith, n.1, eight_is.lo, hi_neg binary32 (whole 8), lo_neg binary32 (whole 8), zero_is.hi, zero_is.lo) }));
    }

added_keeps : (v a : Float) → T (fits binary32 v) → Small a → Kept v (added v a)
added_keeps v a f s = record { fit = added-fits v a; sign = added-sign v a f s }

same_keeps : (v : Float) → T (fits binary32 v) → Kept v v
same_keeps v f = record { fit = f; sign = same_sign v f }

-- at the edge: the least f32 above 8 stays above 0 by 2 ^ -20, and 8 itself may become 0
least_above : added (of_bits binary32 0x4100_0001) (neg (whole 8)) ≡ of_bits binary32 0x3580_0000
unfolding added clamp lt neg add fraction round of_bits
least_above = refl

at_eight : added (whole 8) (neg (whole 8)) ≡ whole 0
unfolding added clamp lt neg add fraction round
at_eight = refl

-- ---- the local amount is an f32

abbrev AmountFits : Option LocalFit → Type 0
AmountFits None = T true
AmountFits (Some f) = T (fits binary32 f.amount)

fit-fits : (w : Window) (light : List Bool) (y0 gap : Float) (p : Option Plane) → AmountFits (concluded w light y0 gap p)
unfolding concluded fit_of amount_of
fit-fits w light y0 gap None = tt
fit-fits w light y0 gap (Some p) = held_fits eight_is.is _ (mul-fits binary32 _ _)

amount-fits : (w : Window) (y0 gap : Float) → AmountFits (local_fit w y0 gap)
unfolding local_fit
amount-fits w y0 gap = either AmountFits (eqb (halves_of w).nl 0 || eqb (halves_of w).nh 0) None _ tt (fit-fits w _ y0 gap _)

-- ---- one module

module _ (noise : ChannelStats) (palette : List Float) (hues : ℕ) (lv : Levels) (c : Linear) where
  weighed : (amount base step : Float) → Small amount → Small (weighed_amount noise palette hues lv c amount base step)
  unfolding weighed_amount
  weighed amount base step s =
      either Small (weighted hues) _ amount (weighed-small amount _ (reliability_in noise (linear_to_lab (deglared c base step lv)) palette hues) s) s

  fit_keeps : (score : Float) (f : Option LocalFit) → T (fits binary32 score) → AmountFits f → AmountWithin f → Kept score (add_fit noise palette hues lv c score f)
  unfolding add_fit
  fit_keeps score None t g h = same_keeps score t
  fit_keeps score (Some f) t g h = added_keeps score _ t (weighed f.amount f.base f.step (small f.amount g h))

kept : (noise : ChannelStats) (palette : List Float) (hues : ℕ) (lv : Levels) (c : Linear) (w : Window) (score : Float) → T (fits binary32 score) → Kept score (refine_one noise palette hues lv c w score)
unfolding refine_one
kept noise palette hues lv c w score t =
    let y0 = luminance c in
    either (Kept score) (sure score) score _ (same_keeps score t)
    (either (Kept score) (ltb w.count 12) score _ (same_keeps score t)
    (fit_keeps noise palette hues lv c score (local_fit w y0 lv.gap) t (amount-fits w y0 lv.gap) (amount-within w y0 lv.gap)))

pub keeps_sign : StepKeepsSign
keeps_sign noise palette hues lv c w score t = (kept noise palette hues lv c w score t).sign

-- ---- the call: refused, the list is as it was lent; accepted, each listed score is refined by itself and the tail is as it was

module _ (f : ℕ → Float → Float) (l s : List Float) (n i : ℕ) (r : Reached nan f l n s) (k : (v : Float) → T (fits binary32 v) → Kept v (f i v)) (t : T (fits binary32 (get_or l i nan))) where
  each_keeps : (b : Bool) → ltb i n ≡ b → Kept (get_or l i nan) (get_or s i nan)
  each_keeps true e = subst (Kept (get_or l i nan)) (sym (r.done i (ltb-true i n e))) (k (get_or l i nan) t)
  each_keeps false e = subst (Kept (get_or l i nan)) (sym (r.kept i (ltb-false i n e))) (same_keeps (get_or l i nan) t)

module _ (q : Request) (i : ℕ) (t : T (fits binary32 (get_or q.luma i nan))) where
  refined_keeps : length q.xs ≤ length q.luma → Kept (get_or q.luma i nan) (get_or (refined_of q).luma i nan)
  unfolding refined_of refined
  refined_keeps room =
      let lv = levels_of q.palette in
      let grid = grid_of q.side q.xs q.ys q.colours q.scratch in
      each_keeps _ q.luma _ (length q.xs) i (reached q.noise q.palette q.hues lv q.side q.xs q.ys q.colours grid q.luma room)
      (kept q.noise q.palette q.hues lv (linear_at q.colours i) (window_of q.side grid (square_of q.side q.xs q.ys i))) t (ltb i (length q.xs)) refl

  by_number : (n : ℕ) → n ≡ refusal (sentences_of q) → Kept (get_or q.luma i nan) (get_or (refine_of q).luma i nan)
  by_number zero e = subst (λ (f : Final). Kept (get_or q.luma i nan) (get_or f.luma i nan)) (at_done q e) (refined_keeps (accepted q e).long.listed.luma-long)
  by_number (suc n) e =
      subst (λ (f : Final). Kept (get_or q.luma i nan) (get_or f.luma i nan)) (at_refused q (suc n) e (λ z. omega arith)) (same_keeps (get_or q.luma i nan) t)

pub call_keeps_sign : CallKeepsSign
call_keeps_sign q i t = (by_number q i t (refusal (sentences_of q)) refl).sign

-- a refined f32 is an f32
pub call_fits : (q : Request) (i : ℕ) → T (fits binary32 (get_or q.luma i nan)) → T (fits binary32 (get_or (refine_of q).luma i nan))
call_fits q i t = (by_number q i t (refusal (sentences_of q)) refl).fit

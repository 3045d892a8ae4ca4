-- The luma scores of an accepted scoring are within 20, and refinement, which clamps, leaves them within 20 or makes a NaN; of such a score sentence 19 holds where it is a NaN. Assumes nothing.
use mathlib.Core.Path.{◌≡◌, refl, sym, subst}
use mathlib.Core.Bool.{Bool, true, false}
use Prim.Native.Nat.{ℕ, zero, suc, ◌<◌, ◌≤◌}
use native.Mathlib.Omega.{arith}
use lib.Dec.{T}
use lib.ListN.{length, get_or}
use lib.Ieee.{Float, nan, Format, binary32, lt, neg}
use Rattle.floatlaws.specs.Value.{Num}
use Rattle.floatlaws.specs.Order.{Le, of_lt}
use Rattle.floatlaws.specs.Finite.{num}
use Rattle.floatlaws.specs.Interval.{In}
use Rattle.sentences.specs.Sentences.{refusal}
use Rattle.color.specs.Color.{whole}
use Rattle.demod.proofs.Accepted.{done-answer}
use Rattle.demod.proofs.Range.{luma_in}
use Rattle.refine.specs.Refine.{levels_of, grid_of, refined}
use Rattle.refine.specs.Calls.{Request, Final, sentences_of, refined_of, refine_of}
use Rattle.refine.proofs.Accepted.{accepted, at_done, at_refused}
use Rattle.refine.proofs.Each.{all_within}
use Rattle.refine.proofs.Within.{Within}
use Rattle.guarantee.specs.Card.{Setting, Card, to_score, to_refine, scored_card}
use Rattle.totals.proofs.Score.{unfit-within}
use Rattle.promises.specs.Noise.{HeldAsSingles}
use Rattle.promises.specs.Season.{OnlyNanUnfit}
use Rattle.promises.proofs.Held.{held}

not-below : {f : Format} {x y : Float} → Num f x → Num f y → Le f y x → lt x y ≡ false
not-below {f} {x} {y} p q h = by (lt x y) refl
  where
    by : (b : Bool) → lt x y ≡ b → b ≡ false
    by true e = let l = of_lt p q (subst T (sym e) tt) in absurd (omega arith)
    by false e = refl

within_20 : (v : Float) → In binary32 (neg (whole 20)) (whole 20) v → Within (whole 20) v
within_20 v p = record { low = not-below (num p.is) (num p.from) p.low; high = not-below (num p.to) (num p.is) p.high }

-- what refinement leaves of scores within 20
module _ (q : Request) (w : (i : ℕ) → i < length q.xs → Within (whole 20) (get_or q.luma i nan)) (i : ℕ) (l : i < length q.xs) where
  refined_all : length q.xs ≤ length q.luma → Within (whole 20) (get_or (refined_of q).luma i nan)
  unfolding refined_of refined
  refined_all room =
      all_within q.noise q.palette q.hues (levels_of q.palette) q.side q.xs q.ys q.colours
      (grid_of q.side q.xs q.ys q.colours q.scratch) q.luma room w i l

  by_number : (n : ℕ) → n ≡ refusal (sentences_of q) → Within (whole 20) (get_or (refine_of q).luma i nan)
  by_number zero e =
      subst (λ (f : Final). Within (whole 20) (get_or f.luma i nan)) (at_done q e) (refined_all (accepted q e).long.listed.luma-long)
  by_number (suc n) e = subst (λ (f : Final). Within (whole 20) (get_or f.luma i nan)) (at_refused q (suc n) e (λ z. omega arith)) (w i l)

  refine-within : Within (whole 20) (get_or (refine_of q).luma i nan)
  refine-within = by_number (refusal (sentences_of q)) refl

scored-within : (s : Setting) (c : Card) → HeldAsSingles s.noise → (scored_card s c).number ≡ 0 → (i : ℕ) → i < length s.xs
    → Within (whole 20) (get_or (scored_card s c).luma i nan)
scored-within s c h z i l = within_20 _ (luma_in (to_score s c) (held s.noise h) (done-answer (to_score s c) z) i l)

pub only-nan-unfit : OnlyNanUnfit
only-nan-unfit s c h z i l =
    let w = refine-within (to_refine s c) (scored-within s c h z) i l in
    unfit-within _ w.low w.high

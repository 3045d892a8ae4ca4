-- `highest` meets its contract: what is left from h on gives the same, hue 0 not beating itself. Assumes nothing.
use mathlib.Core.Path.{◌≡◌, refl, ap, ◌∙◌}
use mathlib.Core.Bool.{Bool, true, false, cond}
use mathlib.Core.List.{List}
use Prim.Native.Nat.{ℕ, ◌≤◌, ◌<◌}
use native.Mathlib.Omega.{arith}
use lib.ListN.{length, get_or, take}
use lib.Seq.{length-take-le, get_or-take}
use lib.Ieee.{Float, nan}
use borrow.Author.Rules.{rules}
use Rattle.loops.specs.Loops.{for_up}
use Rattle.loops.proofs.Laws.{loops, Left, for_up-turn, turn_to}
use Rattle.counts.specs.Counts.{beats, better, highest_of}
use Rattle.counts.proofs.Ranks.{highest-here, better_in}
use Rattle.counts.proofs.highest.Goals as goal
use Rattle.counts.proofs.highest.Goals.{then-beats, else-beats}

either_way : (b : Bool) (i : ℕ) → cond b i i ≡ i
either_way true i = refl
either_way false i = refl

first : (ll : List Float) → better ll 0 0 ≡ 0
unfolding better
first ll = either_way (beats (get_or ll 0 nan) (get_or ll 0 nan)) 0

begun : (ll : List Float) (k : ℕ) → 0 < k → Left (better ll) k 0 0 (highest_of ll k)
begun ll k l = record { same = for_up-turn (better ll) k 0 0 l ∙ ap (for_up 1 k (better ll)) (first ll) }

module _ (r : Bool) (ll : List Float) (k h best b : ℕ) (long : k ≤ length ll) (l : h < length (take k ll)) (e : r ≡ beats (get_or (take k ll) h nan) (get_or ll best nan)) where
  there : r ≡ beats (get_or ll h nan) (get_or ll best nan)
  there = rw (← get_or-take k ll h nan (let p = length-take-le k ll long in omega arith)) e

  new : r ≡ true → b ≡ h → b ≡ better ll h best
  unfolding better
  new t g = rw (← there, t, g)

  old : r ≡ false → b ≡ best → b ≡ better ll h best
  unfolding better
  old t g = rw (← there, t, g)

pub loop-h-init : goal.loop-h-init
loop-h-init c = (c.requires.0, begun _ _ c.requires.0)

pub loop-h-preserved : goal.loop-h-preserved
loop-h-preserved c =
    let at = c in
    let e : at.if-beats.best ≡ better at.args.likelihoods.now at.loop-h.h at.loop-h.best = elim at.if-beats.branch [ then-beats w ↦ search (new, rules) | else-beats w ↦ search (old, rules) ] in
    let p = length-take-le at.args.hues at.args.likelihoods.now at.requires.1 in
    let l : at.loop-h.h < at.args.hues = omega arith in
    (better_in _ _ _ _ _ e l at.loop-h.invariant.0, turn_to at.loop-h.invariant.1 l e)

pub returns : goal.returns
returns c =
    let at = c in
    let p = length-take-le at.args.hues at.args.likelihoods.now at.requires.1 in
    let e : at.loop-h.best ≡ highest_of at.args.likelihoods.now at.args.hues = search (loops, rules) in
    (e, highest-here _ _ _ at.requires.0 e)

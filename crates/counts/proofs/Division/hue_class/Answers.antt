-- `Division::hue_class` meets its contract: with chroma on the hue of the highest likelihood. Assumes nothing.
use mathlib.Core.Path.{◌≡◌, refl, sym, ◌∙◌}
use mathlib.Core.Bool.{Bool, true, false, not}
use mathlib.Core.List.{List}
use Prim.Native.Nat.{ℕ, ◌≤◌}
use native.Mathlib.Omega.{arith}
use lib.Ieee.{Float, nan, binary32, of_bits}
use lib.ListN.{length, replicate}
use borrow.Author.Rules.{rules}
use Rattle.lists.proofs.Laws.{reached}
use Rattle.limits.specs.Limits.{bad_hues}
use Rattle.limits.specs.Chroma.{chroma_on}
use Rattle.color.specs.declared.Lab.{Lab}
use Rattle.color.proofs.Numbers.{n0}
use Rattle.stats.specs.declared.ChannelStats.{ChannelStats}
use Rattle.stats.specs.Noise.{denominator, hue_log_likelihood, put_likelihood, hue_log_likelihoods}
use Rattle.counts.specs.Counts.{highest_of, hue_class}
use Rattle.counts.proofs.Bounds.{some-hues, few-hues}
use Rattle.counts.proofs.Division.hue_class.Goals as goal

is_off : (b : Bool) → not b ≡ true → b ≡ false
is_off true e = sym e
is_off false e = refl

is_on : (b : Bool) → not b ≡ false → b ≡ true
is_on true e = refl
is_on false e = sym e

module _ (n : ChannelStats) (palette : List Float) (k : ℕ) (s : Lab) (b : Bool) (e : b ≡ chroma_on k) where
  off : not b ≡ true → 0 ≡ hue_class n palette k s
  unfolding hue_class
  off t = rw (← e, is_off b t)

  on : (r : ℕ) (ll : List Float) → not b ≡ false → ll ≡ hue_log_likelihoods n s palette k (replicate 16 (of_bits binary32 0)) → r ≡ highest_of ll k → r ≡ hue_class n palette k s
  unfolding hue_class
  on r ll t h g = let z : chroma_on k ≡ true = sym e ∙ is_on b t in rw z (rw (h, n0) at g)

room : (n : ChannelStats) (palette : List Float) (k : ℕ) (s : Lab) (ll : List Float) → ll ≡ hue_log_likelihoods n s palette k (replicate 16 (of_bits binary32 0)) → bad_hues k ≡ false → k ≤ length ll
unfolding put_likelihood
room n palette k s ll e ok =
    let few = few-hues k ok in
    let p = reached nan (λ h v. hue_log_likelihood s (denominator n s) palette h) (replicate 16 (of_bits binary32 0)) k few in
    rw e (omega (arith, p.long))

pub returns-then-not-chroma_on : goal.returns-then-not-chroma_on
returns-then-not-chroma_on c = search (off)

pub hue_log_likelihoods_of-requires : goal.hue_log_likelihoods_of-requires
hue_log_likelihoods_of-requires c = search (few-hues)

pub highest-requires : goal.highest-requires
highest-requires c = (search (some-hues), search (room))

pub returns : goal.returns
returns c = search (on)

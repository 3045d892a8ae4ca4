-- `Division::counts_of` meets its contract: the entries are cleared, and every colour counted. Assumes nothing.
use mathlib.Core.Path.{◌≡◌, ap, ◌∙◌}
use mathlib.Core.List.{List, ◌++◌}
use Prim.Native.Nat.{ℕ, ◌≤◌}
use native.Mathlib.Omega.{arith}
use lib.ListN.{length, get_or, take, drop, replicate}
use lib.Seq.{length-take-le}
use lib.Ieee.{Float}
use borrow.Author.Rules.{rules}
use Rattle.std.proofs.lemmas.List.{length-replicate, get_or-replicate}
use Rattle.stats.specs.declared.ChannelStats.{ChannelStats}
use Rattle.lists.proofs.Front.{front_replaced}
use Rattle.counts.specs.Counts.{classes, cleared, count_all, counted, Sums}
use Rattle.counts.proofs.Sums.{none_yet}
use Rattle.counts.proofs.Divided.{divided}
use Rattle.counts.proofs.Division.counts_of.Goals as goal

-- m is what the code's `classes` gave, s the entries that were filled
module _ (k m : ℕ) (out s : List ℕ) (e : m ≡ classes k) (long : classes k ≤ length out) (f : s ≡ replicate (length (take m out)) 0) where
  zeros : s ++ drop m out ≡ cleared m out
  zeros =
      let h : m ≤ length out = omega arith in
      let t = length-take-le m out h in
      front_replaced 0 m (λ i x. 0) out s h (ap length f ∙ length-replicate _ _)
      (λ j q. ap (λ (l : List ℕ). get_or l j 0) f ∙ get_or-replicate _ j 0 0 (omega arith))

  begun : Sums (classes k) 0 (s ++ drop m out)
  begun = rw (← e) (none_yet m out (s ++ drop m out) (omega arith) zeros)

  same : (n : ChannelStats) (palette : List Float) (after : List ℕ) → after ≡ count_all n palette k (s ++ drop m out) → after ≡ counted n palette k out
  same n palette after h = h ∙ ap (count_all n palette k) (zeros ∙ ap (λ (x : ℕ). cleared x out) e)

pub count_all-requires : goal.count_all-requires
count_all-requires c = begun _ _ _ _ c.classes.ensures c.requires (c.fill.ensures.after (search rules))

pub returns : goal.returns
returns c =
    let h = same _ _ _ _ c.classes.ensures c.requires (c.fill.ensures.after (search rules)) _ _ _ c.count_all.ensures.0 in
    (h, divided _ _ _ _ (search rules) c.requires _ h c.count_all.ensures.1)

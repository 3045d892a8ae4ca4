-- `order::mad_sigma_core` meets its contract: the work changes no more than the first half of scratch, and all of it is cleared. Assumes nothing.
use mathlib.Core.Path.{◌≡◌, refl, ap, ◌∙◌}
use mathlib.Core.List.{List, map, ◌++◌}
use Prim.Native.Nat.{ℕ, ◌+◌, ◌*◌, ◌≤◌}
use native.Mathlib.Omega.{arith}
use borrow.Author.Tests.{ne_eqb}
use lib.ListN.{length, take, drop, replicate}
use lib.Seq.{drop-drop, length-take-le}
use lib.Ieee.{Float, binary32, of_bits, mul, round}
use Rattle.order.specs.Median.{zero32, median_of}
use Rattle.order.specs.Deviation.{scale, deviation, sigma_of, cleared, spread, mad_sigma}
use Rattle.order.proofs.mad_sigma_core.Goals as goal

-- the code's 1.4826 and 0
literal : of_bits binary32 1069401558 ≡ scale
unfolding of_bits round scale
literal = refl

zero : of_bits binary32 0 ≡ zero32
unfolding of_bits
zero = refl

none : (values scratch : List Float) → length values ≡ 0 → spread zero32 scratch ≡ mad_sigma values scratch
unfolding mad_sigma sigma_of
none values scratch h = rw h

-- what is the same behind n is the same behind 2 * n
behind : (n : ℕ) (s t : List Float) → drop n s ≡ drop n t → drop (2 * n) s ≡ drop (2 * n) t
behind n s t h =
    let q : 2 * n ≡ n + n = omega arith in
    rw (q, ← drop-drop n n s, ← drop-drop n n t) (ap (drop n) h)

module _ (values s s₁ s₂ s₃ : List Float) (m mad : Float) where
  some : (length values ≡ 0 → ⊥) → m ≡ median_of values → mad ≡ median_of (map (deviation m) values) → drop (length values) s₁ ≡ drop (length values) s
      → drop (length values) s₂ ≡ drop (length values) s₁ → s₃ ≡ cleared (2 * length values) s₂
      → spread (mul binary32 scale mad) s₃ ≡ mad_sigma values s
  unfolding mad_sigma sigma_of
  some z em ed h₁ h₂ h₃ =
      rw (ne_eqb (length values) 0 z, h₃, behind (length values) s₂ s (h₂ ∙ h₁), ed, em)

pub returns-then-n-eq0 : goal.returns-then-n-eq0
unfolding of_bits
returns-then-n-eq0 c = none _ _ c.if-n-eq0.true

-- the zeros that `fill` writes to the front
zeros : (n : ℕ) (s w : List Float) (v : Float) → v ≡ zero32 → n ≤ length s → w ≡ replicate (length (take n s)) v → w ++ drop n s ≡ cleared n s
zeros n s w v ev h e = rw (e, length-take-le n s h, ev)

pub returns : goal.returns
returns c =
    let m = c.median_in-m in
    let d = c.deviation_in-mad in
    let l : 2 * length c.args.values.now ≤ length d.new.work = omega arith in
    let z = zeros _ d.new.work c.fill.new.self _ zero l (c.fill.ensures.after (λ y p. p)) in
    rw literal (some _ _ _ _ _ _ _ c.if-n-eq0.false m.ensures.0 d.ensures.0 m.ensures.1 d.ensures.1 z)

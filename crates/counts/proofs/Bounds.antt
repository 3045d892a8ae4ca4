-- How many hue classes there are, for a hue count that sentence 3 lets pass: from 1 to 16. Assumes nothing.
use mathlib.Core.Path.{◌≡◌}
use mathlib.Core.Bool.{Bool, true, false, cond}
use Prim.Native.Nat.{ℕ, ◌≤◌, ◌<◌}
use native.Mathlib.Omega.{arith}
use Rattle.limits.specs.Limits.{bad_hues}
use Rattle.limits.specs.Chroma.{chroma_on, hue_classes}
use Rattle.limits.proofs.Laws.{hues_in}

some_where : (b : Bool) (k : ℕ) → 0 < k → 0 < cond b k 1
some_where true k h = h
some_where false k h = omega arith

few_where : (b : Bool) (k : ℕ) → k ≤ 16 → cond b k 1 ≤ 16
few_where true k h = h
few_where false k h = omega arith

module _ (k : ℕ) (h : bad_hues k ≡ false) where
  pub some-hues : 0 < k
  some-hues = (hues_in k h).least

  pub few-hues : k ≤ 16
  few-hues = (hues_in k h).most

  pub some-classes : 0 < hue_classes k
  unfolding hue_classes
  some-classes = some_where (chroma_on k) k some-hues

  pub few-classes : hue_classes k ≤ 16
  unfolding hue_classes
  few-classes = few_where (chroma_on k) k few-hues

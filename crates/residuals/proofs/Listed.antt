-- The list of a function's values at successive numbers, element by element. Assumes nothing.
use mathlib.Core.Path.{◌≡◌, refl, sym, ap, ◌∙◌}
use mathlib.Core.List.{List}
use Prim.Native.Nat.{ℕ, zero, suc, ◌+◌, ◌<◌}
use native.Mathlib.Omega.{arith}
use lib.ListN.{length, get_or}
use lib.Ieee.{Float, nan}
use Rattle.illum.specs.declared.IlluminationModel.{IlluminationModel}
use Rattle.residuals.specs.Residual.{residual, listed, residuals_of}

listed-length : (k i : ℕ) (f : ℕ → Float) → length (listed k i f) ≡ k
unfolding listed
listed-length zero i f = refl
listed-length (suc k) i f = ap suc (listed-length k (suc i) f)

listed_at : (k i : ℕ) (f : ℕ → Float) (j : ℕ) → j < k → get_or (listed k i f) j nan ≡ f (i + j)
unfolding listed
listed_at zero i f j h = absurd (omega arith)
listed_at (suc k) i f zero h = ap f (first i)
  where
    first : (i : ℕ) → i ≡ i + zero
    first i = omega arith
listed_at (suc k) i f (suc j) h = listed_at k (suc i) f j (omega arith) ∙ ap f (next i j)
  where
    next : (i j : ℕ) → suc i + j ≡ i + suc j
    next i j = omega arith

module _ (m : IlluminationModel) (flat : List Float) (n : ℕ) where
  pub residuals-length : n ≡ length (residuals_of m flat n)
  unfolding residuals_of
  residuals-length = sym (listed-length n 0 (residual m flat))

  pub residuals_at : (i : ℕ) (r : Float) → i < n → r ≡ residual m flat i → r ≡ get_or (residuals_of m flat n) i nan
  unfolding residuals_of
  residuals_at i r h e = e ∙ ap (residual m flat) (zero-plus i) ∙ sym (listed_at n 0 (residual m flat) i h)
    where
      zero-plus : (i : ℕ) → i ≡ 0 + i
      zero-plus i = omega arith

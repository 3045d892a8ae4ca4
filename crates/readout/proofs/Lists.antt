-- Lists in arrays of fixed length: the first n of an array of zeros are n zeros. Assumes nothing.
use mathlib.Core.Path.{◌≡◌, refl, sym, ap, ◌∙◌}
use mathlib.Core.List.{List, ◌∷◌}
use Prim.Native.Nat.{ℕ, zero, suc, ◌≤◌}
use native.Mathlib.Omega.{arith}
use lib.ListN.{length, take, replicate, length-replicate}

-- the first n of an array of one value
pub first_same : {A : Type 0} (n m : ℕ) (a : A) → n ≤ m → take n (replicate m a) ≡ replicate n a
first_same zero m a h = refl
first_same (suc n) zero a h = absurd (omega arith)
first_same (suc n) (suc m) a h = ap {B = List _} (λ r. a ∷ r) (first_same n m a (omega arith))

pub same_long : {A : Type 0} (n m : ℕ) (a : A) → n ≤ m → n ≡ length (take n (replicate m a))
same_long n m a h = sym (ap length (first_same n m a h) ∙ length-replicate n a)

pub first_as : {A : Type 0} (n k m : ℕ) (a : A) → n ≡ k → n ≤ m → take n (replicate m a) ≡ replicate k a
first_as n k m a e h = first_same n m a h ∙ ap (λ (j : ℕ). replicate j a) e

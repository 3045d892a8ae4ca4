-- Sums that a loop makes, from the left: `sum_to f g n` is ((0 + g 0) + g 1) + .. + g (n - 1), each addition rounded. It keeps the order, term by
-- term, and terms from a to b sum to what n times a and n times b sum to. Assumes nothing.
use Rattle.std.specs.Prelude.{◌≡◌, refl, ℕ, zero, suc, ◌<◌, Bool, true, false, ◌&&◌, pos, T, Float}
use Rattle.std.proofs.Common.{ap, ◌∙◌, subst, le_refl, le_of_suc-le-suc, not-suc-le-zero}
use Rattle.std.proofs.Math.Nat.{le_step}
use Rattle.std.specs.Float.{fin, Format}
use Rattle.std.specs.Float.Ieee.{add, fits}
use Rattle.std.specs.Float.Ieee.Fits.{and_l, and_r}
use Rattle.std.specs.Float.Ieee.Scale.{finite}
use Rattle.floatlaws.specs.Value.{Num}
use Rattle.floatlaws.specs.Finite.{Fin, num, add_num'}

unfoldable pub sum_to : Format → (ℕ → Float) → ℕ → Float
sum_to f g zero = fin false 0 (pos 0)
sum_to f g (suc n) = add f (sum_to f g n) (g n)

pub start : (f : Format) → Fin f (fin false 0 (pos 0))
start f = record { fit = unfold fits in tt; finite = tt }

-- finite terms sum to no NaN
pub sum_num : (f : Format) (g : ℕ → Float) (n : ℕ) → ((i : ℕ) → i < n → Fin f (g i)) → Num f (sum_to f g n)
unfolding sum_to
sum_num f g zero p = num (start f)
sum_num f g (suc n) p = add_num' (sum_num f g n (λ i h. p i (le_step h))) (p n (le_refl (suc n)))

-- ---- the sums of up to n times a, each from the one before, are finite: n additions, where the test is computed
unfoldable pub sums-finite : Format → Float → ℕ → Float → Bool
unfolding add
sums-finite f a zero s = true
sums-finite f a (suc n) s = let t = add f s a in finite t && sums-finite f a n t

-- n times a, on top of s
unfoldable onto : Format → Float → ℕ → Float → Float
onto f a zero s = s
onto f a (suc n) s = onto f a n (add f s a)

onto_last : (f : Format) (a : Float) (n : ℕ) (s : Float) → onto f a (suc n) s ≡ add f (onto f a n s) a
unfolding onto
onto_last f a zero s = refl
onto_last f a (suc n) s = onto_last f a n (add f s a)

onto_is : (f : Format) (a : Float) (n : ℕ) → onto f a n (fin false 0 (pos 0)) ≡ sum_to f (λ i. a) n
unfolding onto sum_to
onto_is f a zero = refl
onto_is f a (suc n) = onto_last f a n (fin false 0 (pos 0)) ∙ ap (λ (z : Float). add f z a) (onto_is f a n)

onto-finite : (f : Format) (a : Float) (n : ℕ) (s : Float) → T (sums-finite f a n s) → (k : ℕ) → k < n → T (finite (onto f a (suc k) s))
unfolding onto sums-finite
onto-finite f a zero s t k h = absurd (not-suc-le-zero h)
onto-finite f a (suc n) s t zero h = and_l (finite (add f s a)) (sums-finite f a n (add f s a)) t
onto-finite f a (suc n) s t (suc k) h =
    onto-finite f a n (add f s a) (and_r (finite (add f s a)) (sums-finite f a n (add f s a)) t) k (le_of_suc-le-suc h)

pub each-finite : (f : Format) (a : Float) (n : ℕ) → T (sums-finite f a n (fin false 0 (pos 0))) → (k : ℕ) → k < n → T (finite (sum_to f (λ i. a) (suc k)))
each-finite f a n t k h = subst (λ (z : Float). T (finite z)) (onto_is f a (suc k)) (onto-finite f a n (fin false 0 (pos 0)) t k h)

-- The laws of specs/Sum.antt that rest on rounding keeping the order (`near_mono`, specs/Near.antt). Assumes nothing.
use Rattle.std.specs.Prelude.{ℕ, zero, suc, ◌<◌, false, pos, T, Float}
use Rattle.std.proofs.Common.{le_refl}
use Rattle.std.proofs.Math.Nat.{le_step}
use Rattle.std.specs.Float.{fin, Format}
use Rattle.std.specs.Float.Ieee.Fits.{and_i}
use Rattle.std.specs.Float.Ieee.Scale.{finite}
use Rattle.floatlaws.specs.Order as Order
use Rattle.floatlaws.specs.Order.{Le}
use Rattle.floatlaws.specs.Finite.{Fin, num, add_num'}
use Rattle.floatlaws.proofs.Mono.{add_mono}
use Rattle.floatlaws.specs.Interval.{In, point}
use Rattle.floatlaws.proofs.Interval.{add_in}
use Rattle.floatlaws.specs.Sum.{sum_to, start, sum_num, sums-finite, each-finite}

pub sum_mono : (f : Format) (g h : ℕ → Float) (n : ℕ) → ((i : ℕ) → i < n → Fin f (g i)) → ((i : ℕ) → i < n → Fin f (h i))
    → ((i : ℕ) → i < n → Le f (g i) (h i)) → Le f (sum_to f g n) (sum_to f h n)
unfolding sum_to
sum_mono f g h zero p q l = Order.le_refl f (fin false 0 (pos 0))
sum_mono f g h (suc n) p q l =
    let a = sum_num f g n (λ i k. p i (le_step k)) in
    let b = sum_num f h n (λ i k. q i (le_step k)) in
    let P = p n (le_refl (suc n)) in
    let Q = q n (le_refl (suc n)) in
    add_mono a b (num P) (num Q) (add_num' a P) (add_num' b Q)
    (sum_mono f g h n (λ i k. p i (le_step k)) (λ i k. q i (le_step k)) (λ i k. l i (le_step k))) (l n (le_refl (suc n)))

terms_in : (f : Format) (a b : Float) (g : ℕ → Float) (n : ℕ) → ((i : ℕ) → i < n → In f a b (g i))
    → ((k : ℕ) → k < n → T (finite (sum_to f (λ i. a) (suc k)))) → ((k : ℕ) → k < n → T (finite (sum_to f (λ i. b) (suc k))))
    → In f (sum_to f (λ i. a) n) (sum_to f (λ i. b) n) (sum_to f g n)
unfolding sum_to
terms_in f a b g zero p s t = point (start f)
terms_in f a b g (suc n) p s t =
    add_in (terms_in f a b g n (λ i k. p i (le_step k)) (λ i k. s i (le_step k)) (λ i k. t i (le_step k))) (p n (le_refl (suc n)))
    (and_i (finite (sum_to f (λ i. a) (suc n))) (finite (sum_to f (λ i. b) (suc n))) (s n (le_refl (suc n))) (t n (le_refl (suc n))))

pub sum_in : (f : Format) (a b : Float) (g : ℕ → Float) (n : ℕ) → ((i : ℕ) → i < n → In f a b (g i)) → T (sums-finite f a n (fin false 0 (pos 0)))
    → T (sums-finite f b n (fin false 0 (pos 0)))
    → In f (sum_to f (λ i. a) n) (sum_to f (λ i. b) n) (sum_to f g n)
sum_in f a b g n p s t = terms_in f a b g n p (each-finite f a n s) (each-finite f b n t)

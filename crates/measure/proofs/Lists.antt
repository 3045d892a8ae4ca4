-- Laws of the lists that are picked: how one goes on from i, that equal tests and equal values give equal lists, that two tests which exclude each other
-- pick no more than there are, and that what holds of every value holds of every element. Assumes nothing.
use mathlib.Core.Path.{◌≡◌, refl, ap}
use mathlib.Core.Bool.{Bool, true, false, cond}
use mathlib.Core.List.{List, [], ◌∷◌}
use Prim.Native.Nat.{ℕ, zero, suc, ◌+◌, ◌-◌, ◌≤◌, ◌<◌}
use native.Mathlib.Omega.{arith}
use lib.ListN.{length}
use lib.Ieee.{Float}
use Rattle.measure.specs.Measure.{picked}

sub-done : (n i : ℕ) → n ≤ i → n - i ≡ zero
sub-done n i h = omega arith

sub-turn : (n i : ℕ) → i < n → n - i ≡ suc (n - suc i)
sub-turn n i h = omega arith

sub-zero : (n : ℕ) → n - 0 ≡ n
sub-zero n = omega arith

module _ (p : ℕ → Bool) (f : ℕ → Float) (n : ℕ) where
  pub picked-begin : picked (n - 0) 0 p f ≡ picked n 0 p f
  picked-begin = ap (λ (k : ℕ). picked k 0 p f) (sub-zero n)

  pub picked-done : (i : ℕ) → n ≤ i → picked (n - i) i p f ≡ []
  unfolding picked
  picked-done i h = ap (λ (k : ℕ). picked k i p f) (sub-done n i h)

  pub picked-turn : (i : ℕ) → i < n → picked (n - i) i p f ≡ cond (p i) (f i ∷ picked (n - suc i) (suc i) p f) (picked (n - suc i) (suc i) p f)
  unfolding picked
  picked-turn i h = ap (λ (k : ℕ). picked k i p f) (sub-turn n i h)

pub picked_same : (k i : ℕ) (p q : ℕ → Bool) (f g : ℕ → Float) → ((j : ℕ) → i ≤ j → j < i + k → p j ≡ q j)
    → ((j : ℕ) → i ≤ j → j < i + k → q j ≡ true → f j ≡ g j) → picked k i p f ≡ picked k i q g
unfolding picked
picked_same zero i p q f g hp hf = refl
picked_same (suc k) i p q f g hp hf =
    let t = picked_same k (suc i) p q f g (λ j a b. hp j (omega arith) (omega arith)) (λ j a b. hf j (omega arith) (omega arith)) in
    rw (hp i (omega arith) (omega arith), t) (go (q i) (hf i (omega arith) (omega arith)) (picked k (suc i) q g))
  where
    go : (b : Bool) → (b ≡ true → f i ≡ g i) → (rest : List Float) → cond b (f i ∷ rest) rest ≡ cond b (g i ∷ rest) rest
    go true h rest = ap (λ (x : Float). x ∷ rest) (h refl)
    go false h rest = refl

-- of tests that are never both true
either : (b c : Bool) (x y : Float) (xs ys : List Float) (k : ℕ) → (b ≡ true → c ≡ false) → length xs + length ys ≤ k
    → length (cond b (x ∷ xs) xs) + length (cond c (y ∷ ys) ys) ≤ suc k
either true true x y xs ys k h l = let e = h refl in let z : ◌≡◌ {A = ℕ} 0 1 = cc in absurd (omega arith)
either true false x y xs ys k h l = omega arith
either false true x y xs ys k h l = omega arith
either false false x y xs ys k h l = omega arith

pub picked_two : (k i : ℕ) (p q : ℕ → Bool) (f g : ℕ → Float) → ((j : ℕ) → p j ≡ true → q j ≡ false) → length (picked k i p f) + length (picked k i q g) ≤ k
unfolding picked
picked_two zero i p q f g h = omega arith
picked_two (suc k) i p q f g h =
    either (p i) (q i) (f i) (g i) (picked k (suc i) p f) (picked k (suc i) q g) k (h i) (picked_two k (suc i) p q f g h)

pub picked-few : (k i : ℕ) (p : ℕ → Bool) (f : ℕ → Float) → length (picked k i p f) ≤ k
unfolding picked
picked-few zero i p f = omega arith
picked-few (suc k) i p f = one (p i) (picked k (suc i) p f) (picked-few k (suc i) p f)
  where
    one : (b : Bool) (xs : List Float) → length xs ≤ k → length (cond b (f i ∷ xs) xs) ≤ suc k
    one true xs l = omega arith
    one false xs l = omega arith

-- P of every element
pub data Each (P : Float → Type 0) : List Float → Type 0 where
  none : Each P []
  one : {x : Float} {xs : List Float} → P x → Each P xs → Each P (x ∷ xs)

pub picked-each : (P : Float → Type 0) (k i : ℕ) (p : ℕ → Bool) (f : ℕ → Float) → ((j : ℕ) → j < i + k → P (f j)) → Each P (picked k i p f)
unfolding picked
picked-each P zero i p f h = none
picked-each P (suc k) i p f h = go (p i) (picked k (suc i) p f) (picked-each P k (suc i) p f (λ j l. h j (omega arith)))
  where
    go : (b : Bool) (xs : List Float) → Each P xs → Each P (cond b (f i ∷ xs) xs)
    go true xs e = one (h i (omega arith)) e
    go false xs e = e

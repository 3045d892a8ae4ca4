-- What it is to be the last entry of a position: it stands there, and no later one does; and where there is none, no entry stands there. By the definition, entry by entry from the last. Assumes nothing.
use mathlib.Core.Path.{◌≡◌, refl, sym, ap}
use mathlib.Core.Logic.{⊎_elim}
use mathlib.Core.Bool.{Bool, true, false, cond}
use mathlib.Core.Option.{Option, none, some, none-ne-some, some-injective}
use Prim.Native.Nat.{ℕ, zero, suc, ◌≤◌, ◌<◌}
use native.Mathlib.Nat.{eq-or-lt_of_le}
use native.Mathlib.Omega.{arith}
use borrow.Author.Tests.{ltb-true, ltb-false}
use lib.Dec.{ltb}
use Rattle.places.specs.Last.{last_where}

pub record IsLast (p : ℕ → Bool) (n i : ℕ) : Type 0 where
  pub below : i < n
  pub holds : p i ≡ true
  pub later : (j : ℕ) → i < j → j < n → p j ≡ false

at_equal : (p : ℕ → Bool) (b : Bool) (i j : ℕ) → i ≡ j → p i ≡ b → p j ≡ b
at_equal p b i j e h = rw (← e) h

pub last_is : (p : ℕ → Bool) (n i : ℕ) → last_where p n ≡ some i → IsLast p n i
unfolding last_where
last_is p zero i e = absurd (none-ne-some i e)
last_is p (suc n) i e = by (last_is p n i) (p n) refl e
  where
    by : (last_where p n ≡ some i → IsLast p n i) → (b : Bool) → p n ≡ b → cond b (some n) (last_where p n) ≡ some i → IsLast p (suc n) i
    by earlier true t h =
        let q : n ≡ i = some-injective n i h in
        record { below = omega arith; holds = at_equal p true n i q t; later = λ j l m. absurd (omega arith) }
    by earlier false t h =
        let r = earlier h in
        record {
          below = omega (arith, r.below);
          holds = r.holds;
          later = λ j l m. ⊎_elim (λ (k : j ≡ n). at_equal p false n j (sym k) t) (λ (k : j < n). r.later j l k) (eq-or-lt_of_le (let z : j ≤ n = omega arith in z));
        }

pub none_is : (p : ℕ → Bool) (n : ℕ) → last_where p n ≡ none → (j : ℕ) → j < n → p j ≡ false
unfolding last_where
none_is p zero e j l = absurd (omega arith)
none_is p (suc n) e j l = by (λ h k. none_is p n h j k) (p n) refl e
  where
    by : (last_where p n ≡ none → j < n → p j ≡ false) → (b : Bool) → p n ≡ b → cond b (some n) (last_where p n) ≡ none → p j ≡ false
    by earlier true t h = absurd (none-ne-some n (sym h))
    by earlier false t h = ⊎_elim (λ (k : j ≡ n). at_equal p false n j (sym k) t) (λ (k : j < n). earlier h k) (eq-or-lt_of_le (let z : j ≤ n = omega arith in z))

-- and the other way about: an entry that is the last is the one that is found, and where none holds, none is
pub is_last : (p : ℕ → Bool) (n i : ℕ) → IsLast p n i → last_where p n ≡ some i
is_last p n i l = by (last_where p n) refl
  where
    unlike : (j : ℕ) → p j ≡ true → p j ≡ false → ⊥
    unlike j t f = let z : ◌≡◌ {A = ℕ} 0 1 = cc in omega arith

    same : (j : ℕ) (s t : Bool) → ltb i j ≡ s → ltb j i ≡ t → (i < j → ⊥) → (j < i → ⊥) → j ≡ i
    same j true t e f a b = absurd (a (ltb-true i j e))
    same j false true e f a b = absurd (b (ltb-true j i f))
    same j false false e f a b = omega (arith, ltb-false i j e, ltb-false j i f)

    by : (o : Option ℕ) → last_where p n ≡ o → o ≡ some i
    by none e = absurd (unlike i l.holds (none_is p n e i l.below))
    by (some j) e =
        let q = last_is p n j e in
        ap some (same j (ltb i j) (ltb j i) refl refl (λ h. unlike j q.holds (l.later j h q.below)) (λ h. unlike i l.holds (q.later i h l.below)))

pub is_none : (p : ℕ → Bool) (n : ℕ) → ((j : ℕ) → j < n → p j ≡ false) → last_where p n ≡ none
unfolding last_where
is_none p zero h = refl
is_none p (suc n) h = rw (h n (omega arith)) (is_none p n (λ j l. h j (omega arith)))

-- Back substitution reads no place of x that it has not written: it gives the same unknowns whatever x holds, and leaves what is past it.
-- Assumes nothing.
use mathlib.Core.Path.{◌≡◌, refl, sym, ap, ◌∙◌}
use mathlib.Core.List.{List, ◌++◌}
use mathlib.Core.Logic.{◌⊎◌, inl, inr, ⊎_elim}
use Prim.Native.Nat.{ℕ, zero, suc, zero-le, suc-le-suc, ◌+◌, ◌-◌, ◌≤◌, ◌<◌}
use native.Mathlib.Nat.{le_refl, eq-or-lt_of_le}
use native.Mathlib.Omega.{arith}
use lib.ListN.{length, get_or, set, drop, replicate, length-set, length-append, length-drop, length-replicate, get_or-append}
use lib.Seq.{get_or-set_same, get_or-set_other, get_or-append-add, get_or-drop, ext_get_or}
use lib.Ieee.{Float, nan, binary64, sub, mul, div}
use Rattle.loops.specs.Loops.{for_down}
use Rattle.loops.proofs.Laws.{for_up_same, for_down_keeps}
use Rattle.math.specs.Gauss.{at, residual_at, residual, unknown, back_substitute, unknowns, zero64}

-- x and y agree from place r on, below n
Agree : ℕ → ℕ → List Float → List Float → Type 0
Agree n r x y = (k : ℕ) → r ≤ k → k < n → get_or x k nan ≡ get_or y k nan

le_or_lt : (n i : ℕ) → (n ≤ i) ⊎ (i < n)
le_or_lt zero i = inl zero-le
le_or_lt (suc n) zero = inr (suc-le-suc zero-le)
le_or_lt (suc n) (suc i) = ⊎_elim (λ p. inl (suc-le-suc p)) (λ p. inr (suc-le-suc p)) (le_or_lt n i)

set-agree : (r k : ℕ) (x y : List Float) (v w : Float) → r < length x → r < length y → r ≤ k → v ≡ w → (r < k → get_or x k nan ≡ get_or y k nan)
    → get_or (set x r v) k nan ≡ get_or (set y r w) k nan
set-agree r k x y v w hx hy p e h =
    ⊎_elim
    (λ (z : r ≡ k). ap (λ (j : ℕ). get_or (set x r v) j nan) (sym z) ∙ get_or-set_same x r v nan hx ∙ e ∙ sym (get_or-set_same y r w nan hy) ∙ ap (λ (j : ℕ). get_or (set y r w) j nan) z)
    (λ (z : r < k). get_or-set_other x r k v nan (λ u. omega arith) ∙ h z ∙ sym (get_or-set_other y r k w nan (λ u. omega arith)))
    (eq-or-lt_of_le p)

module _ (n : ℕ) (a b : List Float) where
  residual_same : (r : ℕ) (x y : List Float) → Agree n (suc r) x y → residual n a b x r ≡ residual n a b y r
  unfolding Agree residual_at
  residual_same r x y h =
      for_up_same (residual_at n a x r) (residual_at n a y r) n (r + 1) (get_or b r nan)
      (λ j p q s. ap (λ (v : Float). sub binary64 s (mul binary64 (at n a r j) v)) (h j (omega arith) q))

  step_same : (r : ℕ) (x y : List Float) → r < length x → r < length y → Agree n (suc r) x y → Agree n r (unknown n a b r x) (unknown n a b r y)
  unfolding Agree unknown
  step_same r x y hx hy h k p q =
      set-agree r k x y _ _ hx hy p (ap (λ (v : Float). div binary64 v (at n a r r)) (residual_same r x y h)) (λ z. h k z q)

  length-unknown : (r : ℕ) (x : List Float) → length (unknown n a b r x) ≡ length x
  unfolding unknown
  length-unknown r x = simp length-set

  down_same : (r : ℕ) (x y : List Float) → r ≤ n → n ≤ length x → n ≤ length y → Agree n r x y → Agree n 0 (for_down r (unknown n a b) x) (for_down r (unknown n a b) y)
  unfolding for_down
  down_same zero x y hr hx hy h = h
  down_same (suc r) x y hr hx hy h =
      down_same r (unknown n a b r x) (unknown n a b r y) (omega arith) (omega (arith, length-unknown r x)) (omega (arith, length-unknown r y))
      (step_same r x y (omega arith) (omega arith) h)

  -- as long as x, and the same past place n
  Kept : List Float → List Float → Type 0
  Kept x s = (length s ≡ length x) × ((k : ℕ) → n ≤ k → get_or s k nan ≡ get_or x k nan)

  kept : (x : List Float) → Kept x (back_substitute n a b x)
  unfolding Kept unknown
  kept x =
      for_down_keeps (Kept x) (unknown n a b) n x (refl, λ k p. refl)
      (λ j q s h. (length-unknown j s ∙ h.0, λ k p. get_or-set_other s j k _ nan (λ u. omega arith) ∙ h.1 k p))

  pub unknowns-long : length (unknowns n a b) ≡ n
  unfolding Kept
  unknowns-long = (kept (replicate n zero64)).0 ∙ length-replicate n zero64

  pub fresh : (x : List Float) → n ≤ length x → back_substitute n a b x ≡ unknowns n a b ++ drop n x
  unfolding Agree Kept
  fresh x hx =
      let z = replicate n zero64 in
      let l = unknowns-long in
      ext_get_or nan (back_substitute n a b x) (unknowns n a b ++ drop n x)
      (omega (arith, (kept x).0, length-append (unknowns n a b) (drop n x), length-drop n x))
      (λ i h. ⊎_elim
      (λ (q : n ≤ i). (kept x).1 i q ∙ ap (λ (j : ℕ). get_or x j nan) (omega arith) ∙ sym (get_or-drop n x (i - n) nan)
      ∙ sym (get_or-append-add (unknowns n a b) (drop n x) (i - n) nan) ∙ ap (λ (j : ℕ). get_or (unknowns n a b ++ drop n x) j nan) (omega arith))
      (λ (q : i < n). down_same n x z (le_refl n) hx (omega (arith, length-replicate n zero64)) (λ k p r. absurd (omega arith)) i (omega arith) q
      ∙ sym (get_or-append (unknowns n a b) (drop n x) nan i (omega arith)))
      (le_or_lt n i))

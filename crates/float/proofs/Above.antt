-- Where a square root is above a number c: exactly where its radicand is above d, the last f32 whose root is not. A larger number has no smaller
-- root (`sqrt_mono`), and between d and the next f32, e, there is none (`spaced_up`); so a test of a root needs no root. Assumes nothing.
use Rattle.std.proofs.Common.{◌≡◌, ℕ, zero, suc, ◌+◌, ◌*◌, ◌^◌, ◌<◌, ◌≤◌, true, false, not, T, ◌⊎◌, sym, refl, ◌∙◌, inl, inr, le_of_eq, lt_of_lt_of_le, mul-pos, arith, pow_pos, le-ltb, lt-ltb}
use lib.Ieee.{Float, nan, inf, fin, binary32, lt, is_nan, fits}
use Rattle.floatlaws.specs.Value.{hi, lo, mag, Num, lt_is, both-sides}
use Rattle.floatlaws.specs.Order.{Le, Lt, of_lt, of_not_lt, le_trans, lt_le_trans, total, above-none}
use Rattle.floatlaws.specs.Finite.{Fin, num, mag-zero}
use Rattle.floatlaws.specs.Interval.{plain, minus}
use Rattle.floatlaws.specs.Nearest.{held, spaced_up}
use Rattle.float.specs.Root.{sqrt_of}
use Rattle.float.proofs.Select.{le_inf}
use Rattle.float.proofs.Roots.{sqrt-num, sqrt_mono}

-- ---- the test `lt` by the order
lt_nan : (x : Float) → lt x nan ≡ false
unfolding lt
lt_nan nan = refl
lt_nan (inf s) = refl
lt_nan (fin s m e) = refl

module _ {x y : Float} (p : Num binary32 x) (q : Num binary32 y) where
  is_lt : Lt binary32 x y → lt x y ≡ true
  is_lt h = lt_is p q ∙ lt-ltb (hi binary32 x + lo binary32 y) (hi binary32 y + lo binary32 x) h.lt

  is_not_lt : Le binary32 y x → lt x y ≡ false
  is_not_lt h = lt_is p q ∙ le-ltb (hi binary32 x + lo binary32 y) (hi binary32 y + lo binary32 x) h.le

-- ---- d is q * 2 ^ k units and e one more, q having 24 binary digits
above_zero : (q k a : ℕ) → 2 ^ 23 ≤ q → a ≡ q * 2 ^ k → 0 < a
above_zero q k a h e = let p : 0 < q = omega arith in lt_of_lt_of_le (mul-pos p (pow_pos k)) (le_of_eq (sym e))

module _ (c d e : Float) (C : Num binary32 c) (D : Fin binary32 d) (E : Fin binary32 e) (q k : ℕ) (full : 2 ^ 23 ≤ q)
    (at-d : hi binary32 d ≡ q * 2 ^ k) (at-e : hi binary32 e ≡ (q + 1) * 2 ^ k)
    (last : T (not (lt c (sqrt_of d)))) (past : T (lt c (sqrt_of e))) where
  d_plus : lo binary32 d ≡ 0
  d_plus = above-none binary32 d (above_zero q k (hi binary32 d) full at-d)

  e_plus : lo binary32 e ≡ 0
  e_plus = above-none binary32 e (above_zero (q + 1) k (hi binary32 e) (omega arith) at-e)

  next : (x : Float) → Num binary32 x → lo binary32 x ≡ 0 → Lt binary32 d x → Le binary32 e x
  next nan p z h = absurd (unfold is_nan in p.real)
  next (inf true) p z h = absurd (omega (arith, minus binary32 (inf true) tt, d_plus))
  next (inf false) p z h = le_inf (num E)
  next (fin s m j) p z h =
      let b = both-sides binary32 (fin s m j) in
      let l : q * 2 ^ k < mag binary32 (fin s m j) = omega (arith, d_plus) in
      let u = spaced_up binary32 k (mag binary32 (fin s m j)) (held (record { fit = p.fit; finite = tt })) q (λ _. full) l in
      omega (arith, e_plus)

  of_plus : (x : Float) → Num binary32 x → lo binary32 x ≡ 0 → lt c (sqrt_of x) ≡ lt d x
  of_plus x p z = go (total binary32 x d)
    where
      go : Le binary32 x d ⊎ Lt binary32 d x → lt c (sqrt_of x) ≡ lt d x
      go (inl h) =
          is_not_lt C (sqrt-num p z).0 (le_trans (sqrt_mono p (num D) z h) (of_not_lt C (sqrt-num (num D) d_plus).0 last)) ∙ sym (is_not_lt (num D) p h)
      go (inr h) =
          is_lt C (sqrt-num p z).0 (lt_le_trans (of_lt C (sqrt-num (num E) e_plus).0 past) (sqrt_mono (num E) p e_plus (next x p z h)))
          ∙ sym (is_lt (num D) p h)

  of_minus : (x : Float) → Num binary32 x → hi binary32 x ≡ 0 → lt c nan ≡ lt d x
  of_minus x p z = lt_nan c ∙ sym (is_not_lt (num D) p (omega (arith, d_plus)))

  pub sqrt-above : (x : Float) → T (fits binary32 x) → lt c (sqrt_of x) ≡ lt d x
  sqrt-above nan F = unfold sqrt_of in (lt_nan c ∙ sym (lt_nan d))
  sqrt-above (inf false) F = of_plus (inf false) (record { fit = F; real = unfold is_nan in tt }) (plain binary32 (inf false) tt)
  sqrt-above (inf true) F = unfold sqrt_of in of_minus (inf true) (record { fit = F; real = unfold is_nan in tt }) (minus binary32 (inf true) tt)
  sqrt-above (fin s zero j) F =
      of_plus (fin s 0 j) (record { fit = F; real = unfold is_nan in tt }) (omega (arith, both-sides binary32 (fin s 0 j), mag-zero binary32 s j))
  sqrt-above (fin false (suc m) j) F =
      of_plus (fin false (suc m) j) (record { fit = F; real = unfold is_nan in tt }) (plain binary32 (fin false (suc m) j) tt)
  sqrt-above (fin true (suc m) j) F =
      unfold sqrt_of in of_minus (fin true (suc m) j) (record { fit = F; real = unfold is_nan in tt }) (minus binary32 (fin true (suc m) j) tt)

-- Euclid's loop gives the greatest common divisor, so that the mean's two numbers have no common factor and are the sum over the modules. Assumes nothing.
use mathlib.Core.Path.{◌≡◌, refl, sym, ap, ap₂, ◌∙◌, subst}
use mathlib.Core.Logic.{◌⊎◌, inl, inr}
use mathlib.Core.Bool.{Bool, true, false, not}
use Prim.Native.Nat.{ℕ, zero, suc, ◌*◌, ◌/◌, ◌%◌, ◌≤◌, ◌<◌, ◌∣◌}
use native.Mathlib.Nat.{lt_irrefl, zero-mul, one-mul, mul_assoc, mul_comm, mul_right_comm, eq_of_mul-eq-mul_right, mod-lt, eq-zero-or-pos, pos_of_dvd_of_pos, eq-one_of_dvd-one}
use native.Mathlib.Nat.{dvd_refl, dvd-zero, dvd-mul_left, dvd-mul_right, dvd_antisymm, dvd-mod_iff, div-mul_cancel, mul-dvd-mul_right, dvd_of_mul-dvd-mul_right}
use native.Mathlib.Omega.{arith}
use borrow.Author.Tests.{eqb-true, eq-eqb, ne_eqb}
use lib.Dec.{eqb}
use Rattle.loops.specs.Loops.{while_go, while_do}
use Rattle.loops.proofs.Laws.{LeftWhile, turn_while, done_while}
use Rattle.totals.specs.declared.Totals.{Totals}
use Rattle.totals.specs.declared.Ratio.{Ratio}
use Rattle.totals.specs.LowestTerms.{Pair, pair, rest, goes_further, next, gcd, over, ratio_of, Lowest}
use Rattle.totals.specs.Batch.{Good}

-- ---- the loop

on_above : (y : ℕ) (b : Bool) → eqb y 0 ≡ b → not b ≡ true → 0 < y
on_above y true e h = let z : ◌≡◌ {A = ℕ} 0 1 = cc in absurd (omega arith)
on_above zero false e h = let z : ◌≡◌ {A = ℕ} 0 1 = cc (eq-eqb 0 0 refl) in absurd (omega arith)
on_above (suc y) false e h = omega arith

falls : (p : Pair) → goes_further p ≡ true → rest (next p) < rest p
unfolding goes_further next
falls p h = mod-lt p.x (on_above p.y (eqb p.y 0) refl h)

module _ {x y : ℕ} {r : Pair} (inv : LeftWhile rest goes_further next (pair x y) r) where
  pub again : (y ≡ 0 → ⊥) → LeftWhile rest goes_further next (pair y (x % y)) r
  unfolding goes_further next
  again h = turn_while rest goes_further next falls inv (ap not (ne_eqb y 0 h)) refl

  pub last : y ≡ 0 → x ≡ r.x
  unfolding goes_further
  last h = ap (λ (p : Pair). p.x) (done_while inv (ap not (eq-eqb y 0 h)))

-- ---- the greatest common divisor

pub record Greatest (a b g : ℕ) : Type 0 where
  pub first : g ∣ a
  pub second : g ∣ b
  pub greatest : (d : ℕ) → d ∣ a → d ∣ b → d ∣ g

none_left : (a b : ℕ) → b ≡ 0 → Greatest a b a
none_left a b e = rw e (record { first = dvd_refl a; second = dvd-zero a; greatest = λ d p q. p })

turned : (a b g : ℕ) → Greatest b (a % b) g → Greatest a b g
turned a b g p =
    record {
      first = (dvd-mod_iff g p.first).0 p.second;
      second = p.first;
      greatest = λ d u w. p.greatest d w ((dvd-mod_iff d w).1 u);
    }

off_zero : (y : ℕ) (b : Bool) → eqb y 0 ≡ b → not b ≡ false → y ≡ 0
off_zero y true e h = eqb-true y 0 e
off_zero y false e h = let z : ◌≡◌ {A = ℕ} 0 1 = cc in absurd (omega arith)

off : (p : Pair) → goes_further p ≡ false → p.y ≡ 0
unfolding goes_further
off p h = off_zero p.y (eqb p.y 0) refl h

fewer : (k : ℕ) (p : Pair) → goes_further p ≡ true → p.y ≤ suc k → (next p).y ≤ k
unfolding next
fewer k p e h = omega (arith, falls p e)

turned-next : (p : Pair) (g : ℕ) → Greatest (next p).x (next p).y g → Greatest p.x p.y g
unfolding next
turned-next p g q = turned p.x p.y g q

loop_greatest : (k : ℕ) (b : Bool) (p : Pair) → goes_further p ≡ b → p.y ≤ k → Greatest p.x p.y (while_go k b goes_further next p).x
unfolding while_go
loop_greatest zero b p e h = none_left p.x p.y (omega arith)
loop_greatest (suc k) false p e h = none_left p.x p.y (off p e)
loop_greatest (suc k) true p e h = turned-next p _ (loop_greatest k (goes_further (next p)) (next p) refl (fewer k p e h))

pub gcd-greatest : (a b : ℕ) → Greatest a b (gcd a b)
unfolding gcd while_do
gcd-greatest a b = loop_greatest b (goes_further (pair a b)) (pair a b) refl (omega arith)

-- ---- the mean

pub gcd-pos : (a b : ℕ) → (b ≡ 0 → ⊥) → 0 < gcd a b
gcd-pos a b h = pos_of_dvd_of_pos (gcd-greatest a b).second (above b h)
  where
    above : (b : ℕ) → (b ≡ 0 → ⊥) → 0 < b
    above zero h = absurd (h refl)
    above (suc b) h = omega arith

-- n / m is a / b, where g was divided out of both
module _ (a b g : ℕ) (G : Greatest a b g) (B : 0 < b) where
  g_pos : 0 < g
  g_pos = pos_of_dvd_of_pos G.second B

  n_is : a / g * g ≡ a
  n_is = div-mul_cancel g G.first

  m_is : b / g * g ≡ b
  m_is = div-mul_cancel g G.second

  pub quotient-pos : 0 < b / g
  quotient-pos = go (eq-zero-or-pos (b / g))
    where
      go : (b / g ≡ 0) ⊎ (0 < b / g) → 0 < b / g
      go (inl e) = absurd (lt_irrefl 0 (subst (λ (x : ℕ). 0 < x) (sym m_is ∙ ap (λ (x : ℕ). x * g) e ∙ zero-mul g) B))
      go (inr l) = l

  pub crossed : a / g * b ≡ a * (b / g)
  crossed =
      ap (λ (x : ℕ). a / g * x) (sym m_is ∙ mul_comm (b / g) g)
      ∙ sym (mul_assoc (a / g) g (b / g))
      ∙ ap (λ (x : ℕ). x * (b / g)) n_is

  pub coprime : (d : ℕ) → d ∣ a / g → d ∣ b / g → d ≡ 1
  coprime d p q =
      eq-one_of_dvd-one
      (dvd_of_mul-dvd-mul_right d g_pos
      (subst (λ (x : ℕ). d * g ∣ x) (sym (one-mul g))
      (G.greatest (d * g)
      (subst (λ (x : ℕ). d * g ∣ x) n_is (mul-dvd-mul_right d p g))
      (subst (λ (x : ℕ). d * g ∣ x) m_is (mul-dvd-mul_right d q g)))))

module _ (t : Totals) where
  pub ratio-none : t.modules ≡ 0 → over 0 1 ≡ ratio_of t
  unfolding ratio_of
  ratio-none e = rw (eq-eqb t.modules 0 e)

  pub ratio-some : (g : ℕ) → (t.modules ≡ 0 → ⊥) → g ≡ gcd t.sum t.modules → over (t.sum / g) (t.modules / g) ≡ ratio_of t
  unfolding ratio_of
  ratio-some g h e = rw (ne_eqb t.modules 0 h, e)

  lowest-none : t.modules ≡ 0 → Good t → Lowest t (over 0 1)
  lowest-none e g =
      record {
        above_zero = omega arith;
        same = let z : t.sum ≡ 0 = omega (arith, g.sum) in rw (e, z);
        no_factor = λ d p q. eq-one_of_dvd-one q;
      }

  lowest-some : 0 < t.modules → Lowest t (over (t.sum / gcd t.sum t.modules) (t.modules / gcd t.sum t.modules))
  lowest-some h =
      let g = gcd t.sum t.modules in
      let G = gcd-greatest t.sum t.modules in
      record {
        above_zero = quotient-pos t.sum t.modules g G h;
        same = crossed t.sum t.modules g G h;
        no_factor = coprime t.sum t.modules g G h;
      }

  pub lowest : Good t → Lowest t (ratio_of t)
  lowest g = go (eq-zero-or-pos t.modules)
    where
      go : (t.modules ≡ 0) ⊎ (0 < t.modules) → Lowest t (ratio_of t)
      go (inl e) = subst (Lowest t) (ratio-none e) (lowest-none e g)
      go (inr l) = subst (Lowest t) (ratio-some _ (λ (e : t.modules ≡ 0). omega arith) refl) (lowest-some l)

-- g is what the code's `gcd` gave
pub divisor-pos : (a b g : ℕ) → (b ≡ 0 → ⊥) → g ≡ gcd a b → 0 < g
divisor-pos a b g h e = rw e (gcd-pos a b h)

-- ---- no other fraction is the same in lowest terms

-- with no common factor of n and d, and n / d the same as k / e, d divides e: no more than e divides both n * e and d * e
divides : (n d k e : ℕ) → ((x : ℕ) → x ∣ n → x ∣ d → x ≡ 1) → 0 < e → n * e ≡ k * d → d ∣ e
divides n d k e f E c =
    let G = gcd-greatest (n * e) (d * e) in
    let h = gcd (n * e) (d * e) in
    let x : h / e * e ≡ h = div-mul_cancel e (G.greatest e (dvd-mul_left e n) (dvd-mul_left e d)) in
    let p : h / e ∣ n = dvd_of_mul-dvd-mul_right (h / e) E (subst (λ (y : ℕ). y ∣ n * e) (sym x) G.first) in
    let q : h / e ∣ d = dvd_of_mul-dvd-mul_right (h / e) E (subst (λ (y : ℕ). y ∣ d * e) (sym x) G.second) in
    let one : h ≡ e = sym x ∙ ap (λ (y : ℕ). y * e) (f (h / e) p q) ∙ one-mul e in
    subst (λ (y : ℕ). d ∣ y) one (G.greatest d (subst (λ (y : ℕ). d ∣ y) (sym c) (dvd-mul_left d k)) (dvd-mul_right d e))

crossing : (s b n d k e : ℕ) → 0 < b → n * b ≡ s * d → k * b ≡ s * e → n * e ≡ k * d
crossing s b n d k e B p q =
    eq_of_mul-eq-mul_right b B (n * e) (k * d)
    (mul_right_comm n e b ∙ ap (λ (x : ℕ). x * e) p ∙ mul_right_comm s d e ∙ ap (λ (x : ℕ). x * d) (sym q) ∙ mul_right_comm k b d)

pub only-lowest : (t : Totals) (q r : Ratio) → 0 < t.modules → Lowest t q → Lowest t r → q ≡ r
only-lowest t q r B p o =
    let c = crossing t.sum t.modules q.numerator q.denominator r.numerator r.denominator B p.same o.same in
    let d : q.denominator ≡ r.denominator =
    dvd_antisymm (divides q.numerator q.denominator r.numerator r.denominator p.no_factor o.above_zero c)
    (divides r.numerator r.denominator q.numerator q.denominator o.no_factor p.above_zero (sym c)) in
    let n : q.numerator ≡ r.numerator =
    eq_of_mul-eq-mul_right q.denominator p.above_zero q.numerator r.numerator (ap (λ (x : ℕ). q.numerator * x) d ∙ c) in
    ap₂ over n d

pub ruleset ratios = (ratio-none, ratio-some, divisor-pos)

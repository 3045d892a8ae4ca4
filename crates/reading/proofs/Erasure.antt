-- A score reads as 2 exactly where neither test holds; and turning its sign exchanges the two tests, since a comparison with zero looks at the sign and at whether there is a magnitude. Assumes nothing.
use mathlib.Core.Path.{◌≡◌, refl, sym, ap, ◌∙◌}
use mathlib.Core.Bool.{Bool, true, false, cond}
use Prim.Native.Nat.{ℕ, zero-le, ◌+◌, ◌*◌, ◌≤◌}
use native.Mathlib.Nat.{zero-mul, add-zero}
use native.Mathlib.Omega.{arith}
use borrow.Author.Tests.{le-ltb}
use lib.Dec.{ltb}
use lib.IntN.{pos}
use lib.Ieee.{Float, nan, inf, fin, up, down, lt, neg}
use Rattle.reading.specs.Read.{reads}
use Rattle.reading.specs.Erasure.{turned, NoSign, Erasures}

-- what is read is 0, 1 or 2
pub reads-most : (v : Float) → reads v ≤ 2
unfolding reads
reads-most v = by (lt v (fin false 0 (pos 0))) (lt (fin false 0 (pos 0)) v)
  where
    by : (b c : Bool) → cond b 1 (cond c 0 2) ≤ 2
    by true c = omega arith
    by false true = omega arith
    by false false = omega arith

erased : (v : Float) → NoSign v → reads v ≡ 2
unfolding reads
erased v p = rw (p.not-below, p.not-above)

only : (v : Float) → reads v ≡ 2 → NoSign v
unfolding reads
only v e = by (lt v (fin false 0 (pos 0))) (lt (fin false 0 (pos 0)) v) refl refl
  where
    by : (b a : Bool) → lt v (fin false 0 (pos 0)) ≡ b → lt (fin false 0 (pos 0)) v ≡ a → NoSign v
    by true a p q = let z = rw p at e in absurd (omega arith)
    by false true p q = let z = rw (p, q) at e in absurd (omega arith)
    by false false p q = record { not-below = p; not-above = q }

-- ±0 has the magnitude 0 × d, for some d
never : (a d : ℕ) → ltb a (0 * d) ≡ false
never a d = rw (zero-mul d) (le-ltb a 0 zero-le)

some : (a d : ℕ) → ltb 0 (a + 0 * d) ≡ ltb (0 * d) a
some a d = rw (zero-mul d) (ap (ltb 0) (add-zero a))

below-neg : (v : Float) → lt (neg v) (fin false 0 (pos 0)) ≡ lt (fin false 0 (pos 0)) v
unfolding lt neg
below-neg nan = refl
below-neg (inf true) = refl
below-neg (inf false) = refl
below-neg (fin true m e) = never (m * up e * 1) (down e)
below-neg (fin false m e) = some (m * up e * 1) (down e)

above-neg : (v : Float) → lt (fin false 0 (pos 0)) (neg v) ≡ lt v (fin false 0 (pos 0))
unfolding lt neg
above-neg nan = refl
above-neg (inf true) = refl
above-neg (inf false) = refl
above-neg (fin true m e) = sym (some (m * up e * 1) (down e))
above-neg (fin false m e) = sym (never (m * up e * 1) (down e))

no : {A : Type 0} → false ≡ true → A
no e = let z : ◌≡◌ {A = ℕ} 0 1 = cc in absurd (omega arith)

not-both : {A : Type 0} (v : Float) → lt v (fin false 0 (pos 0)) ≡ true → lt (fin false 0 (pos 0)) v ≡ true → A
unfolding lt
not-both nan p q = no p
not-both (inf true) p q = no q
not-both (inf false) p q = no p
not-both (fin true m e) p q = no q
not-both (fin false m e) p q = no (sym (never (m * up e * 1) (down e)) ∙ p)

turning : (v : Float) → reads (neg v) ≡ turned (reads v)
unfolding reads
turning v = by (lt v (fin false 0 (pos 0))) (lt (fin false 0 (pos 0)) v) refl refl
  where
    by : (b a : Bool) → lt v (fin false 0 (pos 0)) ≡ b → lt (fin false 0 (pos 0)) v ≡ a → reads (neg v) ≡ turned (reads v)
    by true true p q = not-both v p q
    by true false p q = rw (below-neg v, above-neg v, p, q)
    by false true p q = rw (below-neg v, above-neg v, p, q)
    by false false p q = rw (below-neg v, above-neg v, p, q)

pub erasures : Erasures
erasures = record { erased = erased; only = only; turning = turning }

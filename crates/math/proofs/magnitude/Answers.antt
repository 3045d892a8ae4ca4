-- `math::magnitude` meets its contract: what is not below 0 is its own magnitude, or is -0, which compares as +0 does. Assumes nothing.
use mathlib.Core.Path.{◌≡◌, refl, sym}
use mathlib.Core.Bool.{Bool, true, false}
use Prim.Native.Nat.{ℕ, zero, suc, ◌+◌, ◌*◌}
use native.Mathlib.Nat.{add-zero, zero-add, mul-one, zero-mul, mul-pos, zero-lt-suc}
use native.Mathlib.Omega.{arith}
use borrow.Author.Tests.{ltb-true, ltb-false, le-ltb}
use lib.IntN.{ℤ}
use lib.Ieee.{Float, nan, inf, fin, up, down, below, lt, neg, of_bits}
use lib.Ieee.Fits.{up_pos}
use Rattle.float.specs.Select.{abs}
use Rattle.math.specs.Gauss.{Alike, zero64}
use Rattle.math.proofs.magnitude.Goals as goal

alike : (r v : Float) → r ≡ v → Alike r v
alike r v e = record { below = λ y. rw e; above = λ y. rw e }

no : {A : Type 0} → false ≡ true → A
no e = let z : ◌≡◌ {A = ℕ} 0 1 = cc in absurd (omega arith)

downward : (x : Float) → lt x zero64 ≡ true → neg x ≡ abs x
unfolding lt neg abs
downward nan t = no t
downward (inf true) t = refl
downward (inf false) t = no t
downward (fin true m e) t = refl
downward (fin false m e) t = absurd (omega (arith, ltb-true (m * up e * 1) (0 * 1 * down e) t, zero-mul (down e)))

-- 0 of either sign against t b
nought-below : (a b : ℕ) (t : Bool) → a ≡ 0 → below true a t b ≡ below false a t b
nought-below a b false e = rw (e, zero-add b)
nought-below a b true e = le-ltb b a (omega arith)

nought-above : (a b : ℕ) (t : Bool) → a ≡ 0 → below t b true a ≡ below t b false a
nought-above a b false e = sym (le-ltb b a (omega arith))
nought-above a b true e = rw (e, add-zero b)

nothing : (m : ℕ) (e : ℤ) → lt (fin true m e) zero64 ≡ false → m ≡ 0
unfolding lt
nothing zero e t = refl
nothing (suc m) e t =
    absurd (omega (arith, mul-one (suc m * up e), ltb-false 0 (suc m * up e * 1 + 0 * 1 * down e) t, mul-pos (zero-lt-suc m) (up_pos e)))

minus-zero : (m : ℕ) (e : ℤ) → m ≡ 0 → Alike (fin true m e) (fin false m e)
unfolding lt
minus-zero m e z = record { below = under; above = over }
  where
    none : (k : ℕ) → m * up e * k ≡ 0
    none k = rw (z, zero-mul (up e), zero-mul k)

    under : (y : Float) → lt (fin true m e) y ≡ lt (fin false m e) y
    under nan = refl
    under (inf t) = refl
    under (fin t n d) = nought-below (m * up e * down d) (n * up d * down e) t (none (down d))

    over : (y : Float) → lt y (fin true m e) ≡ lt y (fin false m e)
    over nan = refl
    over (inf t) = refl
    over (fin t n d) = nought-above (m * up e * down d) (n * up d * down e) t (none (down d))

upward : (x : Float) → lt x zero64 ≡ false → Alike x (abs x)
unfolding lt abs
upward nan t = alike nan nan refl
upward (inf true) t = no (sym t)
upward (inf false) t = alike (inf false) (inf false) refl
upward (fin false m e) t = alike (fin false m e) (fin false m e) refl
upward (fin true m e) t = minus-zero m e (nothing m e t)

pub returns-then-x : goal.returns-then-x
unfolding of_bits
returns-then-x c = alike _ _ (downward _ c.if-x.true)

pub returns-else-x : goal.returns-else-x
unfolding of_bits
returns-else-x c = upward _ c.if-x.false

-- `references::short_scratch` meets its contract: a quarter of the length is below n exactly where the length is below 4 × n.
-- Assumes nothing.
use mathlib.Core.Path.{◌≡◌, refl, sym}
use mathlib.Core.Bool.{Bool, true, false}
use Prim.Native.Nat.{ℕ, ◌*◌, ◌/◌, ◌<◌, ◌≤◌}
use native.Mathlib.Omega.{arith}
use lib.Dec.{ltb}
use borrow.Author.Tests.{lt-ltb, le-ltb, ltb-true, ltb-false}
use Rattle.references.specs.References.{short_scratch}
use Rattle.references.proofs.short_scratch.Goals as goal

quarter : (len n : ℕ) (b : Bool) → (b ≡ true → len / 4 < n) → (b ≡ false → n ≤ len / 4) → b ≡ ltb len (4 * n)
quarter len n true h k = sym (lt-ltb len (4 * n) (omega (arith, h refl)))
quarter len n false h k = sym (le-ltb len (4 * n) (omega (arith, k refl)))

same : (len n : ℕ) → ltb (len / 4) n ≡ short_scratch len n
unfolding short_scratch
same len n = quarter len n (ltb (len / 4) n) (ltb-true (len / 4) n) (ltb-false (len / 4) n)

pub returns : goal.returns
returns c = same _ _

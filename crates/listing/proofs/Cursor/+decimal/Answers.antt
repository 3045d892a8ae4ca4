-- `listing::Cursor::decimal` meets its contract: the digits of a tenth, where it has any, and then the last one. Assumes nothing.
use mathlib.Core.List.{[], ◌∷◌}
use Prim.Native.Nat.{ℕ, ◌+◌, ◌/◌, ◌%◌, ◌≤◌, ◌<◌}
use mathlib.Core.Path.{◌≡◌}
use native.Mathlib.Omega.{arith}
use Rattle.listing.specs.declared.Cursor.{Cursor}
use Rattle.listing.specs.Listing.{decimal}
use Rattle.listing.specs.Writes.{Writes}
use Rattle.listing.proofs.Write.{after}
use Rattle.listing.proofs.Digits.{one_digit_is, more-digits_are}
use Rattle.listing.proofs.Cursor.+decimal.Goals as goal
use Rattle.listing.proofs.Cursor.+decimal.Goals.{then-n-ge10, else-n-ge10}

more : (n : ℕ) (x y z : Cursor) → 10 ≤ n → Writes (decimal (n / 10)) x y → Writes ((48 + n % 10) ∷ []) y z → Writes (decimal n) x z
more n x y z h e f = rw (more-digits_are n h) (after (decimal (n / 10)) ((48 + n % 10) ∷ []) x y z e f)

one : (n : ℕ) (x z : Cursor) → n < 10 → Writes ((48 + n % 10) ∷ []) x z → Writes (decimal n) x z
one n x z h e = let d : n % 10 ≡ n = omega arith in rw (one_digit_is n h, ← d) e

pub returns : goal.returns
returns t c =
    let e = c.put.ensures in
    elim c.if-n-ge10.branch [
      | then-n-ge10 w ↦ more _ _ _ _ w.if-n-ge10.true w.decimal.ensures (rw w.self-is at e)
      | else-n-ge10 w ↦ one _ _ _ w.if-n-ge10.false (rw w.self-is at e)
    ]

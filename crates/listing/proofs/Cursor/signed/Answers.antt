-- `listing::Cursor::signed` meets its contract: a minus sign where there is one, and the size. Assumes nothing.
use mathlib.Core.Bool.{true, false}
use mathlib.Core.List.{[], ◌∷◌}
use mathlib.Core.Path.{◌≡◌, ap, ◌∙◌}
use Prim.Native.Nat.{ℕ, suc}
use native.Mathlib.Omega.{arith}
use borrow.Author.Tests.{ltb-true}
use lib.Dec.{ltb}
use lib.IntN.{ℤ, pos, negsuc, nat_abs}
use lib.Signed.{lt_z}
use mir.Facts.{to_z-of_z}
use Rattle.listing.specs.declared.Cursor.{Cursor}
use Rattle.listing.specs.Listing.{decimal, signed}
use Rattle.listing.specs.Writes.{Writes}
use Rattle.listing.proofs.Write.{after}
use Rattle.listing.proofs.Cursor.signed.Goals as goal
use Rattle.listing.proofs.Cursor.signed.Goals.{then-v-lt0, else-v-lt0}

none_below : (n : ℕ) → ltb n 0 ≡ true → ⊥
none_below n h = let q = ltb-true n 0 h in omega arith

minus : (v : ℤ) (x y z : Cursor) → lt_z v (pos 0) ≡ true → Writes (45 ∷ []) x y → Writes (decimal (nat_abs v)) y z → Writes (signed v) x z
unfolding signed
minus (pos n) x y z h e f = absurd (none_below n h)
minus (negsuc n) x y z h e f = after (45 ∷ []) (decimal (suc n)) x y z e f

plain : (v : ℤ) (x z : Cursor) → lt_z v (pos 0) ≡ false → Writes (decimal (nat_abs v)) x z → Writes (signed v) x z
unfolding signed
plain (pos n) x z h e = e
plain (negsuc n) x z h e = let q : ◌≡◌ {A = ℕ} 0 1 = cc in absurd (omega arith)

pub returns : goal.returns
returns c =
    let same = to_z-of_z c.ranges.v in
    let e = rw (c.unsigned_abs.ensures.value ∙ ap nat_abs same) at c.decimal.ensures in
    elim c.if-v-lt0.branch [
      | then-v-lt0 w ↦ minus _ _ _ _ (rw same at w.if-v-lt0.true) w.put.ensures (rw w.self-is at e)
      | else-v-lt0 w ↦ plain _ _ _ (rw same at w.if-v-lt0.false) (rw w.self-is at e)
    ]

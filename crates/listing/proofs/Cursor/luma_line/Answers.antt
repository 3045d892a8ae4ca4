-- `listing::Cursor::luma_line` meets its contract: its pieces, one after the other. Assumes nothing.
use mathlib.Core.List.{[], ◌∷◌}
use Prim.Native.Nat.{ℕ}
use lib.IntN.{ℤ}
use lib.Ieee.{Float}
use mir.Syntax.{w32}
use mir.Val.{SFits, to_z, of_z}
use mir.Facts.{to_z-of_z}
use Rattle.listing.specs.declared.Cursor.{Cursor}
use Rattle.listing.specs.Listing.{signed, space, score_end, luma_line}
use Rattle.listing.specs.Writes.{Writes}
use Rattle.listing.proofs.Write.{pieces}
use Rattle.listing.proofs.Cursor.luma_line.Goals as goal

line : (x y : ℤ) (score : Float) (bit : ℕ) (t a b c d e : Cursor) → SFits w32 x → SFits w32 y → Writes (76 ∷ 32 ∷ []) t a → Writes (signed (to_z w32 (of_z w32 x))) a b → Writes space b c →
    Writes (signed (to_z w32 (of_z w32 y))) c d → Writes (score_end score bit) d e → Writes (luma_line x y score bit) t e
unfolding luma_line
line x y score bit t a b c d e f g h i j k l =
    let p : Writes (signed x) a b = rw (to_z-of_z f) at i in
    let q : Writes (signed y) c d = rw (to_z-of_z g) at k in
    search (pieces) depth 15 fits 50000

pub returns : goal.returns
returns c = search (line)

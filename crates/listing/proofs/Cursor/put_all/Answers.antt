-- `listing::Cursor::put_all` meets its contract: each byte is written after those before it. Assumes nothing.
use mathlib.Core.List.{List, [], ◌∷◌}
use Prim.Native.Nat.{ℕ, ◌+◌, ◌<◌}
use lib.ListN.{length, get_or, take}
use Rattle.std.proofs.lemmas.List.{take_more}
use Rattle.listing.specs.declared.Cursor.{Cursor}
use Rattle.listing.specs.Writes.{Writes}
use Rattle.listing.proofs.Write.{nothing, after}
use Rattle.listing.proofs.Cursor.put_all.Goals as goal

next : (bs : List ℕ) (i : ℕ) (x y z : Cursor) → i < length bs → Writes (take i bs) x y → Writes (get_or bs i 0 ∷ []) y z → Writes (take (i + 1) bs) x z
next bs i x y z h e f = rw (take_more bs i 0 h) (after (take i bs) (get_or bs i 0 ∷ []) x y z e f)

pub loop-b-init : goal.loop-b-init
loop-b-init c = nothing _

pub loop-b-preserved : goal.loop-b-preserved
loop-b-preserved c = search (next)

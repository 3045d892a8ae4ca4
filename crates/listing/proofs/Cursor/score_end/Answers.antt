-- `listing::Cursor::score_end` meets its contract: its pieces, one after the other. Assumes nothing.
use mathlib.Core.Path.{◌≡◌}
use Prim.Native.Nat.{ℕ}
use lib.Ieee.{Float, binary32, to_bits}
use Rattle.listing.specs.declared.Cursor.{Cursor}
use Rattle.listing.specs.Listing.{hex, decimal, space, line_feed, score_end}
use Rattle.listing.specs.Writes.{Writes}
use Rattle.listing.proofs.Write.{pieces}
use Rattle.listing.proofs.Cursor.score_end.Goals as goal

ends : (score : Float) (bit n m : ℕ) (t a b c d e : Cursor) → n ≡ to_bits binary32 score → m ≡ bit → Writes space t a → Writes (hex 8 n) a b → Writes space b c → Writes (decimal m) c d → Writes line_feed d e →
    Writes (score_end score bit) t e
unfolding score_end
ends score bit n m t a b c d e g h p q r u v = rw (← g, ← h) (search (pieces) depth 15 fits 50000)

pub returns : goal.returns
returns c = search (ends)

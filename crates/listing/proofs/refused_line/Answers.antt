-- `listing::refused_line` meets its contract: its pieces, one after the other. Assumes nothing.
use mathlib.Core.List.{[], ◌∷◌}
use Prim.Native.Nat.{ℕ}
use borrow.Author.Rules.{rules}
use Rattle.listing.specs.declared.Cursor.{Cursor}
use Rattle.listing.specs.Listing.{decimal, line_feed, refused_line}
use Rattle.listing.specs.Writes.{Writes}
use Rattle.listing.proofs.Write.{pieces, ended}
use Rattle.listing.proofs.refused_line.Goals as goal

line : (n : ℕ) (t a b c : Cursor) → Writes (114 ∷ 101 ∷ 102 ∷ 117 ∷ 115 ∷ 101 ∷ 100 ∷ 32 ∷ []) t a → Writes (decimal n) a b → Writes line_feed b c → Writes (refused_line n) t c
unfolding refused_line
line n t a b c e f g = search (pieces) depth 15 fits 50000

pub returns : goal.returns
returns c = ended _ _ _ _ (line _ _ _ _ _ c.put_all.ensures c.decimal.ensures c.put.ensures) (search rules)

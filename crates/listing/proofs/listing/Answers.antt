-- `listing::listing` meets its contract: its three parts, one after the other. Assumes nothing.
use mathlib.Core.List.{List}
use Prim.Native.Nat.{ℕ}
use borrow.Author.Rules.{rules}
use lib.IntN.{ℤ}
use lib.Ieee.{Float}
use Rattle.listing.specs.declared.Cursor.{Cursor}
use Rattle.listing.specs.Listing.{fit_line, luma_lines, chroma_lines, listing}
use Rattle.listing.specs.Writes.{Writes}
use Rattle.listing.proofs.Write.{pieces, ended}
use Rattle.listing.proofs.listing.Goals as goal

module _ (terms kept rejected modules : ℕ) (xs ys : List ℤ) (luma : List Float) (bits : List ℕ) (places : ℕ) (chroma : List Float) (symbols : List ℕ) (t a b c : Cursor) where
  whole : Writes (fit_line terms kept rejected) t a → Writes (luma_lines modules xs ys luma bits) a b → Writes (chroma_lines places chroma symbols) b c →
      Writes (listing terms kept rejected modules xs ys luma bits places chroma symbols) t c
  unfolding listing
  whole e f g = search (pieces) depth 10

pub returns : goal.returns
returns c = ended _ _ _ _ (whole _ _ _ _ _ _ _ _ _ _ _ _ _ _ _ c.fit_line.ensures c.luma_lines.ensures c.chroma_lines.ensures) (search rules)

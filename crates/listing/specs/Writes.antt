-- What a cursor writes: bytes at its place, one after the other, into the slice that it holds. Definitions only.
use Rattle.std.specs.Prelude.{◌≡◌, List, ℕ}
use Rattle.listing.specs.declared.Cursor.{Cursor}
use Rattle.listing.specs.Text.{Text, text, written}

abbrev pub text_of : Cursor → Text
text_of c = text c.at c.out.now

-- it holds the slice that it held, with these bytes written
pub record Writes (bs : List ℕ) (before after : Cursor) : Type 0 where
  pub same_slice : after.out.ghost_name ≡ before.out.ghost_name
  pub text_is : text_of after ≡ written bs (text_of before)

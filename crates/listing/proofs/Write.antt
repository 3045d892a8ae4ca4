-- What is written piece by piece is written as a whole: a list of bytes is written one byte after the other, so two lists one after the other are their sum. Assumes nothing.
use mathlib.Core.Path.{◌≡◌, refl, sym, ap, ◌∙◌}
use mathlib.Core.List.{List, [], ◌∷◌, ◌++◌, append_assoc, append-nil}
use Prim.Native.Nat.{ℕ, zero, suc, ◌+◌, ◌≤◌, ◌<◌}
use native.Mathlib.Omega.{arith}
use native.Mathlib.Numerals.{add-one}
use native.Mathlib.Nat.{add-zero, zero-add}
use borrow.Author.Tests.{lt-ltb, le-ltb}
use lib.ListN.{length, set}
use Rattle.listing.specs.declared.Cursor.{Cursor}
use Rattle.listing.specs.Text.{Text, text, byte, written, row, rows, lines_below}
use Rattle.listing.specs.Writes.{text_of, Writes}

-- one byte, where there is room and where not
module _ (at : ℕ) (out : List ℕ) (b : ℕ) where
  pub room : at < length out → text (at + 1) (set out at b) ≡ written (b ∷ []) (text at out)
  unfolding written byte
  room h = rw (lt-ltb at (length out) h)

  pub full : length out ≤ at → text at out ≡ written (b ∷ []) (text at out)
  unfolding written byte
  full h = rw (le-ltb at (length out) h)

-- two lists one after the other
both : (a b : List ℕ) (t : Text) → written (a ++ b) t ≡ written b (written a t)
unfolding written
both [] b t = refl
both (x ∷ a) b t = both a b (byte x t)

pub nothing : (x : Cursor) → Writes [] x x
unfolding written
nothing x = record { same_slice = refl; text_is = refl }

pub after : (a b : List ℕ) (x y z : Cursor) → Writes a x y → Writes b y z → Writes (a ++ b) x z
after a b x y z e f =
    record { same_slice = f.same_slice ∙ e.same_slice; text_is = f.text_is ∙ ap (written b) e.text_is ∙ sym (both a b (text x.at x.out.now)) }

-- the pieces of a line
pub piece : (p : List ℕ) (ps : List (List ℕ)) (x y z : Cursor) → Writes p x y → Writes (row ps) y z → Writes (row (p ∷ ps)) x z
unfolding row
piece p ps x y z e f = after p (row ps) x y z e f

pub no_piece : (x : Cursor) → Writes (row []) x x
unfolding row
no_piece x = nothing x

pub ruleset pieces = (piece, no_piece)

-- the lines of a list, one more of them at its end
more_rows : (f : ℕ → List ℕ) (k i : ℕ) → rows f (suc k) i ≡ rows f k i ++ f (i + k)
unfolding rows
more_rows f zero i = append-nil (f i) ∙ ap f (sym (add-zero i))
more_rows f (suc k) i =
    ap (λ (l : List ℕ). f i ++ l) (more_rows f k (suc i) ∙ ap (λ (n : ℕ). rows f k (suc i) ++ f n) (let e : suc i + k ≡ i + suc k = omega arith in e))
    ∙ sym (append_assoc (f i) (rows f k (suc i)) (f (i + suc k)))

pub no_lines : (f : ℕ → List ℕ) (x : Cursor) → Writes (lines_below f 0) x x
unfolding rows
no_lines f x = nothing x

pub next_line : (f : ℕ → List ℕ) (i : ℕ) (x y z : Cursor) → Writes (lines_below f i) x y → Writes (f i) y z → Writes (lines_below f (i + 1)) x z
next_line f i x y z e g =
    rw (add-one i, more_rows f i 0) (after (rows f i 0) (f (0 + i)) x y z e (rw (zero-add i) g))

-- a slice that was lent to a cursor ends as the cursor left it
pub ended : (bs : List ℕ) (x y : Cursor) (left : List ℕ) → Writes bs x y → (x.out.ghost_name ≡ y.out.ghost_name → left ≡ y.out.now) → text y.at left ≡ written bs (text_of x)
ended bs x y left w h = ap (text y.at) (h (sym w.same_slice)) ∙ w.text_is

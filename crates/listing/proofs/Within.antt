-- The place after what was written lies in the slice: a byte moves it by one where there is room, and not where there is none.
-- Assumes nothing.
use mathlib.Core.Path.{◌≡◌, refl, sym, subst}
use mathlib.Core.Bool.{Bool, true, false, cond}
use mathlib.Core.List.{List, [], ◌∷◌}
use Prim.Native.Nat.{ℕ, ◌+◌, ◌≤◌, ◌<◌}
use native.Mathlib.Omega.{arith}
use borrow.Author.Tests.{ltb-true}
use lib.Dec.{ltb}
use lib.ListN.{length, set, take, length-set}
use lib.Seq.{length-take-le}
use Rattle.listing.specs.Text.{Text, text, byte, written}

-- the place lies in the slice
abbrev Inside : Text → Type 0
Inside t = t.at ≤ length t.out

-- where there is room and where not
by_room : (b : ℕ) (t : Text) (there : Bool) → (there ≡ true → t.at < length t.out) → Inside t → Inside (cond there (text (t.at + 1) (set t.out t.at b)) t)
by_room b t true room h = let r = room refl in omega (arith, length-set t.out t.at b)
by_room b t false room h = h

byte_inside : (b : ℕ) (t : Text) → Inside t → Inside (byte b t)
unfolding byte
byte_inside b t = by_room b t (ltb t.at (length t.out)) (ltb-true t.at (length t.out))

written-inside : (bs : List ℕ) (t : Text) → Inside t → Inside (written bs t)
unfolding written
written-inside [] t h = h
written-inside (b ∷ bs) t h = written-inside bs (byte b t) (byte_inside b t h)

-- from the start of a slice on, the text's length is one that `&out[..n]` takes
module _ (bs out left : List ℕ) (n : ℕ) (e : text n left ≡ written bs (text 0 out)) where
  pub within : n ≤ length left
  within = subst Inside (sym e) (written-inside bs (text 0 out) (omega arith))

  pub within_is : n ≡ length (take n left)
  within_is = sym (length-take-le n left within)

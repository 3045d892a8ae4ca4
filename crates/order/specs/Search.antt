-- What the search for a rank asks of the values, and of where it stands, and what it is to count them. Definitions only.
use Rattle.std.specs.Prelude.{List, ℕ, Bool, ◌≡◌, ◌≤◌, ◌<◌, T, length, Float}
use Rattle.std.specs.Float.{binary32}
use Rattle.std.specs.Float.Ieee.{fits}
use Rattle.order.specs.Law.{count}
use Rattle.order.specs.declared.Bracket.{Bracket}

-- there are values, and few enough to be counted
pub record Countable (v : List Float) : Type 0 where
  pub some : 0 < length v
  pub most : length v ≤ 4096

-- and the search is at a place of one of them
pub record SearchIn (v : List Float) (b : Bracket) : Type 0 where
  pub most : length v ≤ 4096
  pub inside : b.at < length v

-- n is how many elements of xs pass the test that gives these answers, whatever test of floats that is
abbrev pub CountsBy : (Float → Bool → Type 0) → List Float → ℕ → Type 0
CountsBy Gives xs n = (f : Float → Bool) → ((x : Float) (b : Bool) → T (fits binary32 x) → Gives x b → b ≡ f x) → n ≡ count f xs

-- A constant of a program, and what it is worth: (n - m) / d, with the denominator multiplied out. Where the float and the numbers are closed antt
-- computes the test: `const binary32 (fin false 3 (negsuc 1)) 3 0 4 (unfold is_const in tt)` is 0.75. Assumes nothing.
use Rattle.std.specs.Prelude.{◌≡◌, ℕ, ◌*◌, Bool, ◌&&◌, T, eqb, Float}
use Rattle.std.proofs.Common.{eqb→eq}
use Rattle.std.specs.Float.{Format}
use Rattle.std.specs.Float.Ieee.{fits}
use Rattle.std.specs.Float.Ieee.Fits.{and_l, and_r}
use Rattle.std.specs.Float.Ieee.Scale.{finite}
use Rattle.floatlaws.specs.Value.{unit, mag, hi, lo, Num}
use Rattle.floatlaws.specs.Finite.{Fin, num}

pub record Const (f : Format) (x : Float) (n m d : ℕ) : Type 0 where
  pub is : Fin f x
  pub num : Num f x
  pub hi : hi f x * d ≡ n * unit f
  pub lo : lo f x * d ≡ m * unit f

unfoldable pub is_const : Format → Float → ℕ → ℕ → ℕ → Bool
unfolding unit mag hi lo fits
is_const f x n m d = fits f x && finite x && eqb (hi f x * d) (n * unit f) && eqb (lo f x * d) (m * unit f)

pub const : (f : Format) (x : Float) (n m d : ℕ) → T (is_const f x n m d) → Const f x n m d
unfolding is_const
const f x n m d t =
    let a : Bool = fits f x in
    let b : Bool = finite x in
    let c : Bool = eqb (hi f x * d) (n * unit f) in
    let e : Bool = eqb (lo f x * d) (m * unit f) in
    let i : Fin f x =
    record { fit = and_l a b (and_l (a && b) c (and_l (a && b && c) e t)); finite = and_r a b (and_l (a && b) c (and_l (a && b && c) e t)) } in
    record {
      is = i;
      num = num i;
      hi = eqb→eq (hi f x * d) (n * unit f) (and_r (a && b) c (and_l (a && b && c) e t));
      lo = eqb→eq (lo f x * d) (m * unit f) (and_r (a && b && c) e t);
    }

-- One pass's equations change a model's surfaces and its affine part, and nothing else: each step writes only those. Assumes nothing.
use mathlib.Core.Path.{◌≡◌, refl, subst}
use mathlib.Core.Bool.{Bool, true, false, cond}
use mathlib.Core.List.{List}
use Prim.Native.Nat.{ℕ}
use lib.Dec.{ltb}
use lib.Ieee.{Float}
use Rattle.std.specs.Prelude.{Option, None, Some}
use Rattle.std.specs.Option.{option_map}
use Rattle.std.proofs.lemmas.Option.{none-some, same_Some}
use Rattle.illum.specs.declared.IlluminationModel.{IlluminationModel}
use Rattle.equations.specs.declared.Affine.{Affine}
use Rattle.equations.specs.Live.{live_count}
use Rattle.equations.specs.Once.{surfaces_of, affine_of, with_affine, solved_once, fit_once}

-- the same terms, side and counts
pub record Alike (m k : IlluminationModel) : Type 0 where
  pub terms : k.terms ≡ m.terms
  pub side : k.side ≡ m.side
  pub rejected : k.rejected ≡ m.rejected
  pub kept : k.kept ≡ m.kept

surfaces_alike : (m : IlluminationModel) (flat live : List Float) (n count : ℕ) → Alike m (surfaces_of m flat live n count)
unfolding surfaces_of
surfaces_alike m flat live n count = record { terms = refl; side = refl; rejected = refl; kept = refl }

affine_alike : (m s k : IlluminationModel) (a : Option Affine) → Alike m s → option_map (with_affine s) a ≡ Some k → Alike m k
affine_alike m s k (Some a) h e = let p = same_Some (with_affine s a) k e in subst (Alike m) p (record { terms = h.terms; side = h.side; rejected = h.rejected; kept = h.kept })
affine_alike m s k None h e = absurd (none-some k e)

once-alike : (m k : IlluminationModel) (o : Option IlluminationModel) (b : Bool) → (o ≡ Some k → Alike m k) → cond b None o ≡ Some k → Alike m k
once-alike m k o true h e = absurd (none-some k e)
once-alike m k o false h e = h e

pub fit-once-alike : (m : IlluminationModel) (flat live : List Float) (n : ℕ) (k : IlluminationModel) → fit_once m flat live n ≡ Some k → Alike m k
unfolding fit_once
fit-once-alike m flat live n k =
    let count = live_count live n in
    let s = surfaces_of m flat live n count in
    once-alike m k (solved_once m flat live n count) (ltb count 8) (affine_alike m s k (affine_of s flat live n) (surfaces_alike m flat live n count))

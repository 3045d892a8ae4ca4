-- The marks of a corrected colour are those of its position: the three inverses are marked by the gains there, which no colour enters. So a count of colours is a count of positions. Assumes nothing.
use Rattle.std.proofs.Common.{◌≡◌, ℕ, ◌+◌, Bool, true, false, cond, refl, ap, ◌∙◌}
use lib.Ieee.{Float}
use Rattle.color.specs.declared.Linear.{Linear}
use Rattle.illum.specs.declared.IlluminationModel.{IlluminationModel}
use Rattle.illum.specs.declared.Unshaded.{Unshaded}
use Rattle.illum.specs.Surface.{deshade}
use Rattle.illum.specs.Correct.{unshaded, any_held, count_held, held_at}
use Rattle.loops.specs.Loops.{raise}

module _ (d : Unshaded) (k : ℕ) (r : Bool) (e : r ≡ any_held d) where
  pub one_more : r ≡ true → k + 1 ≡ count_held d k
  unfolding count_held
  one_more t = cc

  pub as_many : r ≡ false → k ≡ count_held d k
  unfolding count_held
  as_many t = cc

pub held_by_position : (m : IlluminationModel) (x y : Float) (c : Linear) → any_held (unshaded m x y c) ≡ held_at m x y
unfolding any_held unshaded deshade held_at
held_by_position m x y c = refl

-- a colour that is counted by its inverses is counted by its position: p says of which numbers the position has a mark
pub counts-position : (m : IlluminationModel) (x y : Float) (c : Linear) (d : Unshaded) (k r : ℕ) (p : ℕ → Bool) (i : ℕ) → r ≡ count_held d k → d ≡ unshaded m x y c → held_at m x y ≡ p i → r ≡ raise p i k
unfolding count_held raise
counts-position m x y c d k r p i e u h = e ∙ ap (λ (b : Bool). cond b (k + 1) k) (ap any_held u ∙ held_by_position m x y c ∙ h)

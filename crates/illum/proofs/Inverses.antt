-- The three channels' inverses of a model, by its terms: 4, or else as with 9. Assumes nothing.
use Rattle.std.proofs.Common.{◌≡◌, ℕ, ◌≤◌, List, ne_eqb, refl, ◌∙◌, arith}
use lib.Ieee.{Float}
use Rattle.color.specs.declared.Linear.{Linear}
use Rattle.illum.specs.declared.IlluminationModel.{IlluminationModel}
use Rattle.illum.specs.declared.Inverse.{Inverse}
use Rattle.illum.specs.declared.Unshaded.{Unshaded}
use Rattle.illum.specs.Surface.{terms_used, basis_at, summed, inverted, deshade}
use Rattle.illum.specs.Correct.{inverses, unshaded_by, unshaded}
use Rattle.illum.proofs.Terms.{used-most}

-- of surfaces of n terms, which are as many as are used
pub few : (n : ℕ) → terms_used n ≡ n → n ≤ 9
few n e = omega (arith, used-most n, e)

pub of_sums : (n : ℕ) (gain flare b : List Float) (o g f : Float) (i : Inverse) → terms_used n ≡ n → g ≡ summed n gain b → f ≡ summed n flare b → i ≡ inverted g f o → i ≡ deshade n gain flare b o
unfolding deshade
of_sums n gain flare b o g f i e eg ef ei = ei ∙ rw (eg, ef, e) refl

pub ruleset used = (few, of_sums)

pub three : (t : ℕ) (m : IlluminationModel) (x y : Float) (k : Linear) (at : List Float) (r g b : Inverse) → at ≡ basis_at t m.side x y
    → r ≡ deshade t m.gain_r m.flare_r at k.r → g ≡ deshade t m.gain_g m.flare_g at k.g
    → b ≡ deshade t m.gain_b m.flare_b at k.b → ◌≡◌ {A = Unshaded} (record { r = r; g = g; b = b }) (unshaded_by t m x y k)
unfolding unshaded_by
three t m x y k at r g b ea er eg eb = cc

-- of surfaces, and so of a model
module _ (terms : ℕ) (side : Float) (gain-r gain-g gain-b flare-r flare-g flare-b : List Float) (x y : Float) (k : Linear) (d : Unshaded) where
  pub lent-four : d ≡ inverses 4 side gain-r gain-g gain-b flare-r flare-g flare-b x y k → terms ≡ 4
      → d ≡ inverses terms side gain-r gain-g gain-b flare-r flare-g flare-b x y k
  lent-four e h = rw h e

  pub lent-nine : d ≡ inverses 9 side gain-r gain-g gain-b flare-r flare-g flare-b x y k → (terms ≡ 4 → ⊥)
      → d ≡ inverses terms side gain-r gain-g gain-b flare-r flare-g flare-b x y k
  unfolding basis_at deshade terms_used
  lent-nine e h = rw (ne_eqb terms 4 h) e

module _ (m : IlluminationModel) (x y : Float) (k : Linear) (d : Unshaded) where
  pub of_four : d ≡ unshaded_by 4 m x y k → m.terms ≡ 4 → d ≡ unshaded m x y k
  unfolding unshaded_by unshaded
  of_four e h = lent-four _ _ _ _ _ _ _ _ _ _ _ _ e h

  pub of_nine : d ≡ unshaded_by 9 m x y k → (m.terms ≡ 4 → ⊥) → d ≡ unshaded m x y k
  unfolding unshaded_by unshaded
  of_nine e h = lent-nine _ _ _ _ _ _ _ _ _ _ _ _ e h

pub ruleset by_terms = (of_four, of_nine)

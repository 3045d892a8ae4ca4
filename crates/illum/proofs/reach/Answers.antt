-- `illum::reach` meets its contract, by its tests. The numbers of the model that it is handed are f64s, and the side an f32.
-- Assumes nothing.
use Rattle.std.proofs.Common.{◌≡◌, zero, suc, Bool, true, false, not, ◌&&◌, List, [], ◌∷◌, map, refl}
use lib.Ieee.{Float, binary32, binary64, add, neg, le, fits, of_bits}
use mir.Val.{WT, WTs, vfloat, of_list}
use denote.Struct.Laws.{val}
use Rattle.illum.specs.declared.IlluminationModel.{IlluminationModel}
use Rattle.illum.specs.Surface.{zero64, one64}
use Rattle.illum.specs.Tests.{any_of_model}
use Rattle.illum.specs.Reach.{Typed, Values, most_side, most_number, is_from, large_affine, large_gains, large_flares, in_scale, span, reach_of}
use Rattle.illum.specs.contracts.IlluminationModel.{the_type}
use Rattle.illum.proofs.IlluminationModel.TheLaws.{the_laws}
use Rattle.illum.proofs.reach.Goals as goal

module _ (m : IlluminationModel) (l s : Bool) (el : l ≡ any_of_model (λ v. not (is_from most_number v)) m) (es : s ≡ in_scale m.side) where
  some : (le one64 m.side && le m.side most_side && s && not l) ≡ true → span (neg m.side) (add binary32 m.side m.side) ≡ reach_of m
  unfolding reach_of large_affine large_gains large_flares
  some h = rw (← el, ← es, h) refl

  none : (le one64 m.side && le m.side most_side && s && not l) ≡ false → span one64 zero64 ≡ reach_of m
  unfolding reach_of large_affine large_gains large_flares
  none h = rw (← el, ← es, h) refl

-- of an array of f64s each is one
values : (l : List Float) → WTs (of_list (map (vfloat binary64) l)) → Values l
values [] w k = unfold fits in tt
values (v ∷ l) w zero = w.0
values (v ∷ l) w (suc k) = values l w.1 k

typed : (m : IlluminationModel) → WT (val the_type the_laws m) → Typed m
typed m w =
    record {
      affine-r = values m.affine_r w.0;
      affine-g = values m.affine_g w.1.0;
      affine-b = values m.affine_b w.1.1.0;
      gain-r = values m.gain_r w.1.1.1.0;
      gain-g = values m.gain_g w.1.1.1.1.0;
      gain-b = values m.gain_b w.1.1.1.1.1.0;
      flare-r = values m.flare_r w.1.1.1.1.1.1.0;
      flare-g = values m.flare_g w.1.1.1.1.1.1.1.0;
      flare-b = values m.flare_b w.1.1.1.1.1.1.1.1.0;
      side = w.1.1.1.1.1.1.1.1.1.1.0;
    }

pub returns-then-model-in_scale : goal.returns-then-model-in_scale
unfolding of_bits
returns-then-model-in_scale c =
    (some _ _ _ c.any_large-large.ensures c.in_scale.ensures c.if-model-in_scale.true, typed _ c.struct_known-then-model-in_scale-2-1.given)

pub returns : goal.returns
unfolding of_bits
returns c = (none _ _ _ c.any_large-large.ensures c.in_scale.ensures c.if-model-in_scale.false, typed _ c.struct_known-2-1.given)

-- `local::Samples::fit_plane` meets its contract: the sums make the normal equations. Assumes nothing.
use Rattle.std.specs.Prelude.{Option}
use mathlib.Core.Bool.{Bool}
use mathlib.Core.List.{List}
use mathlib.Core.Path.{◌≡◌, ◌∙◌}
use Rattle.local.specs.Local.{fit_plane}
use Rattle.local.specs.Sums.{place_sums, light_sums, plane_by}
use Rattle.local.specs.declared.LightSums.{LightSums}
use Rattle.local.specs.declared.Plane.{Plane}
use Rattle.local.specs.declared.PlaceSums.{PlaceSums}
use Rattle.local.specs.declared.Window.{Window}
use Rattle.local.proofs.Sums.{same_plane}
use Rattle.local.proofs.Samples.fit_plane.Goals as goal

fitted : (w : Window) (light : List Bool) (p : PlaceSums) (l : LightSums) (r : Option Plane) → p ≡ place_sums w → l ≡ light_sums w light → r ≡ plane_by p l → r ≡ fit_plane w light
fitted w light p l r ep el e = rw (ep, el) at e ∙ same_plane w light

pub returns : goal.returns
returns c = search (fitted)

-- One pass's equations: the Rust's `fit_once`, channel by channel and row by row, in its order of operations. Definitions only.
-- The Rust collects the rows and hands them to `least_squares`; here each live reference's row is added to the normal equations as it comes.
use Rattle.std.specs.Prelude.{cond, List, [], ◌∷◌, ℕ, ◌+◌, ◌*◌, ltb, leb, get_or, set, replicate, Float, Option, None, Some}
use Rattle.std.specs.Option.{option_map}
use Rattle.std.specs.Float.{nan, binary64}
use Rattle.std.specs.Float.Ieee.{mul}
use Rattle.loops.specs.Loops.{for_up}
use Rattle.math.specs.Gauss.{System, system, Settled}
use Rattle.math.specs.Normal.{add_row, finish}
use Rattle.illum.specs.declared.IlluminationModel.{IlluminationModel}
use Rattle.illum.specs.declared.Unshaded.{Unshaded}
use Rattle.illum.specs.Surface.{zero64, one64, terms_used, basis_at}
use Rattle.illum.specs.Correct.{unshaded, unit_gain, no_flare}
use Rattle.equations.specs.declared.Plan.{Plan}
use Rattle.equations.specs.declared.Surface.{Surface}
use Rattle.equations.specs.declared.Affine.{Affine}
use Rattle.references.specs.References.{x_at, y_at, observed_of, nominal_of, observed_at}
use Rattle.equations.specs.Live.{is_live, live_count}

-- ---- stage 1: forward gain and flare surfaces, per channel

-- "Flare is fitted from 24 live references, with 9 terms from 54"
abbrev pub plan_of : IlluminationModel → ℕ → Plan
plan_of m count = record { terms = m.terms; side = m.side; flare = leb (6 * terms_used m.terms) count }

-- how many unknowns a channel has
unfoldable pub width_of : Plan → ℕ
width_of p = cond p.flare (2 * terms_used p.terms) (terms_used p.terms)

-- a design row: the basis times the nominal value and, where flare is fitted, the basis after it; what stands past the width is not read
unfoldable pub scale_at : List Float → Float → ℕ → List Float → List Float
scale_at b nominal k row = set row k (mul binary64 (get_or b k nan) nominal)

unfoldable pub append_at : List Float → ℕ → ℕ → List Float → List Float
append_at b t k row = set row (t + k) (get_or b k nan)

abbrev pub scaled : List Float → ℕ → Float → List Float → List Float
scaled b t nominal row = for_up 0 t (scale_at b nominal) row

abbrev pub appended : List Float → ℕ → List Float → List Float
appended b t row = for_up 0 t (append_at b t) row

unfoldable pub design_of : Plan → List Float → Float → List Float
design_of p b nominal =
    let t = terms_used p.terms in
    let gains = scaled b t nominal (replicate 18 zero64) in
    cond p.flare (appended b t gains) gains

-- row i with its target is added where reference i is live; all of n are
unfoldable pub live_row : ℕ → List Float → (ℕ → List Float) → (ℕ → Float) → ℕ → System → System
live_row w live row target i s = cond (is_live live i) (add_row w (row i) (target i) s) s

abbrev pub live_rows : ℕ → List Float → (ℕ → List Float) → (ℕ → Float) → ℕ → System → System
live_rows w live row target n s = for_up 0 n (live_row w live row target) s

-- observed ≈ gain * nominal + flare at reference i
unfoldable pub surface_row : Plan → List Float → ℕ → ℕ → List Float
surface_row p flat c i = design_of p (basis_at p.terms p.side (x_at flat i) (y_at flat i)) (nominal_of flat c i)

abbrev pub no_equations : System
no_equations = system (replicate 324 zero64) (replicate 18 zero64)

abbrev pub surface_rows : Plan → List Float → List Float → ℕ → ℕ → System → System
surface_rows p flat live c n s = live_rows (width_of p) live (surface_row p flat c) (observed_of flat c) n s

-- the solution of the equations of w unknowns, where there is one
abbrev pub found_in : Settled → Option (List Float)
found_in s = cond s.found (Some s.x) None

abbrev pub solution : ℕ → System → Option (List Float)
solution w s = found_in (finish w s (replicate 18 zero64))

-- t coefficients of the solution, from the place `from` on; 0 past them
unfoldable pub taken_at : List Float → ℕ → ℕ → List Float → List Float
taken_at x from k l = set l k (get_or x (from + k) nan)

abbrev pub coefficients : List Float → ℕ → ℕ → List Float
coefficients x from t = for_up 0 t (taken_at x from) no_flare

abbrev pub unit_surface : Surface
unit_surface = record { gain = unit_gain; flare = no_flare }

unfoldable pub solved_surface : Plan → List Float → Surface
solved_surface p x =
    let t = terms_used p.terms in
    record { gain = coefficients x 0 t; flare = cond p.flare (coefficients x t t) no_flare }

-- a channel without a solution keeps unit gain
abbrev pub or_unit : Plan → Option (List Float) → Surface
or_unit p (Some x) = solved_surface p x
or_unit p None = unit_surface

-- channel c's surfaces; fewer live references than unknowns have no solution
unfoldable pub surface_of : Plan → List Float → List Float → ℕ → ℕ → ℕ → Surface
surface_of p flat live c n count =
    cond (ltb count (width_of p)) unit_surface (or_unit p (solution (width_of p) (surface_rows p flat live c n no_equations)))

-- the model with other surfaces
abbrev pub with_surfaces : IlluminationModel → Surface → Surface → Surface → IlluminationModel
with_surfaces m r g b =
    record {
      affine_r = m.affine_r;
      affine_g = m.affine_g;
      affine_b = m.affine_b;
      gain_r = r.gain;
      gain_g = g.gain;
      gain_b = b.gain;
      flare_r = r.flare;
      flare_g = g.flare;
      flare_b = b.flare;
      terms = m.terms;
      side = m.side;
      residual_rms = m.residual_rms;
      rejected = m.rejected;
      kept = m.kept;
    }

unfoldable pub surfaces_of : IlluminationModel → List Float → List Float → ℕ → ℕ → IlluminationModel
surfaces_of m flat live n count =
    let p = plan_of m count in
    with_surfaces m (surface_of p flat live 0 n count) (surface_of p flat live 1 n count) (surface_of p flat live 2 n count)

-- ---- stage 2: the affine part over the de-shaded observations

-- the three inverses and 1; what stands past them is not read
abbrev pub inverses_of : Unshaded → List Float
inverses_of d = d.r.value ∷ d.g.value ∷ d.b.value ∷ one64 ∷ replicate 14 zero64

unfoldable pub affine_row_of : IlluminationModel → List Float → ℕ → List Float
affine_row_of m flat i = inverses_of (unshaded m (x_at flat i) (y_at flat i) (observed_at flat i))

abbrev pub affine_rows : IlluminationModel → List Float → List Float → ℕ → ℕ → System → System
affine_rows m flat live c n s = live_rows 4 live (affine_row_of m flat) (nominal_of flat c) n s

-- the first four of the unknowns
abbrev pub four_of : List Float → List Float
four_of x = get_or x 0 nan ∷ get_or x 1 nan ∷ get_or x 2 nan ∷ get_or x 3 nan ∷ []

-- channel c's row of the affine part, where it has a solution
unfoldable pub fit_row : IlluminationModel → List Float → List Float → ℕ → ℕ → Option (List Float)
fit_row m flat live c n = option_map four_of (solution 4 (affine_rows m flat live c n no_equations))

-- none where a channel has none
abbrev pub rows_of : Option (List Float) → Option (List Float) → Option (List Float) → Option Affine
rows_of (Some r) (Some g) (Some b) = Some (record { r = r; g = g; b = b })
rows_of _ _ _ = None

unfoldable pub affine_of : IlluminationModel → List Float → List Float → ℕ → Option Affine
affine_of m flat live n = rows_of (fit_row m flat live 0 n) (fit_row m flat live 1 n) (fit_row m flat live 2 n)

-- the model with another affine part
abbrev pub with_affine : IlluminationModel → Affine → IlluminationModel
with_affine m a =
    record {
      affine_r = a.r;
      affine_g = a.g;
      affine_b = a.b;
      gain_r = m.gain_r;
      gain_g = m.gain_g;
      gain_b = m.gain_b;
      flare_r = m.flare_r;
      flare_g = m.flare_g;
      flare_b = m.flare_b;
      terms = m.terms;
      side = m.side;
      residual_rms = m.residual_rms;
      rejected = m.rejected;
      kept = m.kept;
    }

-- ---- the pass: no solution where fewer than 8 references are live, or the affine part has none

abbrev pub solved_once : IlluminationModel → List Float → List Float → ℕ → ℕ → Option IlluminationModel
solved_once m flat live n count =
    let s = surfaces_of m flat live n count in
    option_map (with_affine s) (affine_of s flat live n)

unfoldable pub fit_once : IlluminationModel → List Float → List Float → ℕ → Option IlluminationModel
fit_once m flat live n = cond (ltb (live_count live n) 8) None (solved_once m flat live n (live_count live n))

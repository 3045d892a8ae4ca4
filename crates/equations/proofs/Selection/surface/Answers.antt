-- `Selection::surface` meets its contract: fewer live references than unknowns, a solution, or none. Assumes nothing.
use mathlib.Core.Path.{◌≡◌, sym, ap, ◌∙◌}
use mathlib.Core.List.{List}
use lib.ListN.{length}
use Prim.Native.Nat.{ℕ, ◌<◌, ◌≤◌}
use borrow.Author.Tests.{lt-ltb, le-ltb}
use lib.Ieee.{Float}
use Rattle.std.specs.Prelude.{Option}
use Rattle.math.specs.Gauss.{System}
use Rattle.references.specs.References.{observed_of, place_of}
use Rattle.equations.specs.declared.Plan.{Plan}
use Rattle.equations.specs.declared.Surface.{Surface}
use Rattle.equations.specs.Once.{width_of, no_equations, live_rows, surface_row, solution, unit_surface, or_unit, surface_of}
use borrow.Author.Rules.{rules}
use Rattle.equations.proofs.Selection.surface.Goals as goal

module _ (p : Plan) (flat live : List Float) (c n count w : ℕ) (ew : w ≡ width_of p) where
  few : (s : Surface) → count < w → s ≡ unit_surface → s ≡ surface_of p flat live c n count
  unfolding surface_of
  few s h e = cc (lt-ltb count w h)

  module _ (a a' : System) (o : Option (List Float)) (h : w ≤ count) (en : length live ≡ n) (ea : a ≡ no_equations) (e : a' ≡ live_rows w live (surface_row p flat c) (observed_of flat c) (length live) a) (f : o ≡ solution w a') where
    past : surface_of p flat live c n count ≡ or_unit p o
    unfolding surface_of
    past = cc (le-ltb count w h)

pub returns-then-count-w : goal.returns-then-count-w
returns-then-count-w c = search (few, rules)

pub returns-in-Some : goal.returns-in-Some
returns-in-Some c =
    c.solved.ensures ∙ ap (or_unit c.args.p) (sym c.in-Some.is) ∙ sym (past c.args.p c.args.self.now.references.flat.now c.args.self.now.marks.now (place_of c.args.channel) _ _ _ c.width-w.ensures.0 _ _ _ (search rules) c.args.self.now.marked c.none-equations.ensures c.add_rows.ensures c.solve.ensures)

pub returns-in-None : goal.returns-in-None
returns-in-None c =
    c.unit_surface-in-None.ensures ∙ ap (or_unit c.args.p) (sym c.in-None.is) ∙ sym (past c.args.p c.args.self.now.references.flat.now c.args.self.now.marks.now (place_of c.args.channel) _ _ _ c.width-w.ensures.0 _ _ _ (search rules) c.args.self.now.marked c.none-equations.ensures c.add_rows.ensures c.solve.ensures)

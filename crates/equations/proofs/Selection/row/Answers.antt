-- `Selection::row` meets its contract: the solution's first four numbers, where there is one. Assumes nothing.
use mathlib.Core.Path.{◌≡◌, ◌∙◌}
use mathlib.Core.List.{List}
use lib.ListN.{length}
use Prim.Native.Nat.{ℕ}
use lib.Ieee.{Float}
use Rattle.std.specs.Prelude.{Option}
use Rattle.std.specs.Option.{option_map}
use Rattle.math.specs.Gauss.{System}
use Rattle.illum.specs.declared.IlluminationModel.{IlluminationModel}
use Rattle.references.specs.References.{place_of}
use Rattle.equations.specs.Once.{no_equations, solution, four_of, affine_rows, fit_row}
use Rattle.equations.proofs.Selection.row.Goals as goal

whole : (m : IlluminationModel) (flat live : List Float) (c n : ℕ) (a a' : System) (o o' : Option (List Float)) → length live ≡ n → a ≡ no_equations → a' ≡ affine_rows m flat live c (length live) a → o ≡ solution 4 a' → o ≡ o' → option_map four_of o' ≡ fit_row m flat live c n
unfolding fit_row
whole m flat live c n a a' o o' en ea e f h = cc

pub returns : goal.returns
returns c = whole c.args.m c.args.self.now.references.flat.now c.args.self.now.marks.now (place_of c.args.channel) _ _ _ _ _ c.args.self.now.marked c.none-equations.ensures c.add_rows.ensures c.solve.ensures c.in_ok-x.was

pub returns-in_err-x : goal.returns-in_err-x
returns-in_err-x c =
    c.from_residual.ensures ∙ whole c.args.m c.args.self.now.references.flat.now c.args.self.now.marks.now (place_of c.args.channel) _ _ _ _ _ c.args.self.now.marked c.none-equations.ensures c.add_rows.ensures c.solve.ensures c.in_err-x.was

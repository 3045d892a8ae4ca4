-- `refine::Spot::row_samples` meets its contract: a row outside the grid has no sample; else what is left of its columns takes the samples to the answer. Assumes nothing.
use mathlib.Core.Bool.{Bool, true}
use mathlib.Core.List.{List}
use mathlib.Core.Path.{◌≡◌, sym, ap, ◌∙◌}
use Prim.Native.Nat.{ℕ, ◌*◌}
use borrow.Author.Rules.{rules}
use lib.Ieee.{Float}
use Rattle.local.specs.declared.Window.{Window}
use Rattle.refine.specs.Window.{row3, beyond, row_at}
use Rattle.refine.proofs.Rows.{no_row, row-turn, row_done}
use Rattle.refine.proofs.Spot.row_samples.Goals as goal

none : (side : ℕ) (grid : List Float) (home r v : ℕ) (w : Window) (b : Bool) → v ≡ row3 side home (7 * r) → b ≡ beyond side v → b ≡ true → w ≡ row_at side grid home r w
none side grid home r v w b ev e t = no_row side grid home r w (sym (ap (beyond side) ev) ∙ sym e ∙ t)

pub returns-then-beyond : goal.returns-then-beyond
returns-then-beyond c = (search (none), search rules)

pub loop-c-preserved : goal.loop-c-preserved
loop-c-preserved c = (search rules, search rules, search rules, search rules, search (row-turn, rules))

pub returns : goal.returns
returns c = (search (row_done, rules), search rules)

-- `Equations::add_rows` meets its contract: what is left from i on is added. Assumes nothing.
use mathlib.Core.Path.{◌≡◌, ap, ◌∙◌}
use mathlib.Core.Bool.{Bool, true, false}
use mathlib.Core.List.{List}
use Prim.Native.Nat.{ℕ}
use lib.Ieee.{Float}
use Rattle.loops.proofs.Laws.{loops, turn_to}
use Rattle.math.specs.Gauss.{System, system}
use Rattle.math.specs.Normal.{add_row}
use Rattle.equations.specs.declared.Equations.{Equations}
use Rattle.equations.specs.Live.{is_live}
use Rattle.equations.specs.Once.{live_row}
use borrow.Author.Rules.{rules}
use Rattle.equations.proofs.Equations.add_rows.Goals as goal
use Rattle.equations.proofs.Equations.add_rows.Goals.{then-is_live, else-is_live}

module _ (w : ℕ) (live : List Float) (row : ℕ → List Float) (target : ℕ → Float) (i : ℕ) (b : Bool) (s : System) (e : b ≡ is_live live i) where
  added : (s' : System) (r : List Float) (v : Float) → b ≡ true → r ≡ row i → v ≡ target i → s' ≡ add_row w r v s → s' ≡ live_row w live row target i s
  unfolding live_row
  added s' r v t er ev h = cc

  passed : b ≡ false → s ≡ live_row w live row target i s
  unfolding live_row
  passed t = cc

pub loop-i-preserved : goal.loop-i-preserved
loop-i-preserved g c =
    turn_to c.loop-i.invariant c.loop-i-test.true (elim c.if-is_live.branch [ then-is_live w ↦ ap (λ (e : Equations). system e.ata e.atb) w.self-is ∙ added _ _ _ _ _ _ _ c.is_live.ensures _ _ _ w.if-is_live.true w.write.ensures w.target.ensures w.add_row_core.ensures | else-is_live w ↦ ap (λ (e : Equations). system e.ata e.atb) w.self-is ∙ passed _ _ _ _ _ _ _ c.is_live.ensures w.if-is_live.false ])

pub returns : goal.returns
returns g c = search (loops, rules)

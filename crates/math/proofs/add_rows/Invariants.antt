-- `math::add_rows` meets its contract: after n rows the two iterators are at row n and at its target, and what is left of the rows gives the same equations. Assumes nothing.
use mathlib.Core.List.{List}
use mathlib.Core.Path.{◌≡◌}
use Prim.Native.Nat.{ℕ, ◌*◌}
use lib.Ieee.{Float}
use lib.ListN.{length, drop}
use Rattle.loops.proofs.Laws.{Left}
use Rattle.math.specs.Gauss.{system}
use Rattle.math.specs.Normal.{add_row_at, add_rows}
use Rattle.math.proofs.add_rows.Given as goal

-- of what is left, chunks of `size` numbers and targets
pub record AtRow (terms : ℕ) (rows targets : List Float) (n size : ℕ) (chunks left : List Float) : Type 0 where
  pub by : size ≡ terms
  pub from : chunks ≡ drop (n * terms) rows
  pub target-from : left ≡ drop n targets

abbrev pub invariant-loop-row : goal.invariant-loop-row
invariant-loop-row l =
    AtRow l.terms l.rows l.targets (length l.yielded) l.row-iterator.a.size l.row-iterator.a.rest.now l.row-iterator.b.rest.now
    × Left (add_row_at l.terms l.rows l.targets) (length l.targets) (length l.yielded) (system l.ata l.atb) (add_rows l.terms l.rows l.targets (system l.initial.ata l.initial.atb))

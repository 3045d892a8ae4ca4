-- `Equations::add_rows` meets its contract: what is left from i on is added. Assumes nothing.
use Rattle.loops.proofs.Laws.{Left}
use lib.ListN.{length}
use Rattle.math.specs.Gauss.{system}
use Rattle.equations.specs.Once.{live_row, live_rows}
use Rattle.equations.proofs.Equations.add_rows.Given as goal

abbrev pub invariant-loop-i : goal.invariant-loop-i
invariant-loop-i g l =
    Left (live_row l.w l.marks (g.R.Rows.rows l.from) (g.R.Rows.targets l.from)) (length l.marks) l.i (system l.self.ata l.self.atb)
    (live_rows l.w l.marks (g.R.Rows.rows l.from) (g.R.Rows.targets l.from) (length l.marks) (system l.initial.self.ata l.initial.self.atb))

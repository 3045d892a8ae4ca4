-- `page::Shown::show_all` meets its contract: what is left of the modules takes the page to the answer. Assumes nothing.
use mathlib.Core.Path.{◌≡◌}
use lib.ListN.{length}
use Rattle.loops.proofs.Laws.{Left}
use Rattle.page.specs.Lines.{modules}
use Rattle.page.specs.Steps.{show_at, show_all}
use Rattle.page.proofs.Shown.show_all.Given as goal

abbrev pub invariant-loop-i : goal.invariant-loop-i
invariant-loop-i l =
    let m = modules l.self.modules.side l.self.modules.xs.now l.self.modules.ys.now l.self.luma.now in
    (length l.out ≡ length l.initial.out) × Left (show_at m) (length m.xs) l.i l.out (show_all m l.initial.out)

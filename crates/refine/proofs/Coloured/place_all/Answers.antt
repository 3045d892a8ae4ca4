-- `refine::Coloured::place_all` meets its contract: what is left of the modules takes the grid to the answer. Assumes nothing.
use Prim.Native.Nat.{◌<◌, ◌≤◌}
use lib.ListN.{length}
use native.Mathlib.Omega.{arith}
use borrow.Author.Rules.{rules}
use Rattle.loops.proofs.Laws.{loops, turn_to, done}
use Rattle.refine.proofs.Coloured.place_all.Goals as goal

pub loop-i-init : goal.loop-i-init
loop-i-init c = search (loops, rules)

pub loop-i-preserved : goal.loop-i-preserved
loop-i-preserved c =
    let at = c in
    let l : at.loop-i.i < length at.args.self.now.modules.xs.now = omega (arith, at.loop-i.invariant.0) in
    (search rules, search rules, turn_to at.loop-i.invariant.2 l at.place_at.ensures)

pub returns : goal.returns
returns c =
    let at = c in
    let l : length at.args.self.now.modules.xs.now ≤ at.loop-i.i = omega (arith, at.loop-i.invariant.0) in
    done at.loop-i.invariant.2 l

-- `exports::nearby::purdolve_cut_off` meets its contract: it is `near::near`, its answer turned for C; a column that is given on is read back from its bits.
-- Assumes nothing.
use mathlib.Core.Path.{ap, ◌∙◌}
use lib.IntN.{ℤ}
use mir.Syntax.{w32}
use mir.Val.{to_z, of_z}
use mir.Facts.{to_z-of_z}
use Rattle.near.specs.declared.Query.TheVariants as query
use Rattle.near.specs.Near.{request, near_of}
use Rattle.exports.specs.Exits.{near_exit}
use Rattle.exports.proofs.Laws.{near-exit}
use Rattle.exports.proofs.nearby.purdolve_cut_off.Goals as goal

pub returns : goal.returns
returns c =
    let s = c in
    let a = s.args in
    near-exit a.xy.now a.kept.now a.side a.x a.y (query.CutOff (to_z w32 (of_z w32 a.column))) a.out.now s.ranges.x s.ranges.y
    c.from.ensures c.near.ensures.out_after
    ∙ ap (λ (z : ℤ). near_exit (near_of (request a.xy.now a.kept.now a.side a.x a.y (query.CutOff z) a.out.now))) (to_z-of_z s.ranges.column)

-- `exports::nearby::purdolve_nearest` meets its contract: it is `near::near`, its answer turned for C. Assumes nothing.
use Rattle.near.specs.declared.Query.TheVariants as query
use Rattle.exports.proofs.Laws.{near-exit}
use Rattle.exports.proofs.nearby.purdolve_nearest.Goals as goal

pub returns : goal.returns
returns c =
    let s = c in
    near-exit s.args.xy.now s.args.kept.now s.args.side s.args.x s.args.y query.Nearest s.args.out.now s.ranges.x s.ranges.y
    c.from.ensures c.near.ensures.out_after

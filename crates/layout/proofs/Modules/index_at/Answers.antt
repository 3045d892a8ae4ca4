-- Every listed module passes sentence 7, and so does this one.
use Rattle.std.proofs.Common.{rules}
use Rattle.layout.specs.Groups.{Positions}
use Rattle.layout.proofs.Laws.{position_at}
use Rattle.layout.proofs.Modules.index_at.Goals as goal

pub index_at-requires : goal.index_at-requires
index_at-requires c =
    let m = c.args.self.now in
    let placed : Positions m.side m.grid m.xs.now m.ys.now = search rules in
    let p = position_at _ _ _ _ c.args.i placed c.requires in
    (p.side-most, p.in_list, p.pairs, p.place-good)

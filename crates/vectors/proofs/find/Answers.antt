-- `vectors::find` meets its contract: as many other bytes stand in front. Assumes nothing.
use Rattle.std.proofs.Common.{ℕ, ◌+◌, ap, rules}
use Rattle.vectors.proofs.Lines.{finds}
use Rattle.vectors.proofs.find.Goals as goal

pub returns : goal.returns
returns c = ap (λ (n : ℕ). c.args.at + n) (finds c.args.text.now c.args.at c.args.to c.args.b (search rules) c.count_before.ensures)

-- `card::colours` meets its contract: each place has its number. Assumes nothing.
use Rattle.std.proofs.Common.{rules}
use Rattle.card.proofs.Filled.{is_filled}
use Rattle.card.proofs.colours.Goals as goal

pub returns : goal.returns
returns c = is_filled _ _ _ (search rules) (λ i d h. let w = c.put_each.ensures.written i d h in search rules)

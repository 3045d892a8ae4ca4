-- `vectors::name_end` meets its contract: `find` looks for a space from `at` to the end of the line. Assumes nothing.
use Rattle.std.proofs.Common.{rules}
use Rattle.vectors.proofs.Lines.{name_past, name_found, line_low, line-high}
use Rattle.vectors.proofs.name_end.Goals as goal

pub returns-then-text-at : goal.returns-then-text-at
returns-then-text-at c = search (name_past, rules)

pub find-requires : goal.find-requires
find-requires c = record { low = search (line_low); high = search (line-high, rules) }

pub returns : goal.returns
returns c = search (name_found, rules)

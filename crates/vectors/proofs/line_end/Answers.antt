-- `vectors::line_end` meets its contract: `find` looks from `at` to the end of the text, and past that there is nothing to find. Assumes nothing.
use Rattle.std.proofs.Common.{rules}
use Rattle.vectors.proofs.Lines.{line-past, line-found}
use Rattle.vectors.proofs.line_end.Goals as goal

pub returns-then-text-at : goal.returns-then-text-at
returns-then-text-at c = search (line-past, rules)

pub returns : goal.returns
returns c = search (line-found)

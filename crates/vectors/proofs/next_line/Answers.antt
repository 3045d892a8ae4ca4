-- `vectors::next_line` meets its contract: a line that ends in the text ends at most at the text's length, so that one more fits. Assumes nothing.
use Rattle.std.proofs.Common.{arith, rules}
use Rattle.vectors.proofs.Lines.{next_past, next-found, line-high}
use Rattle.vectors.proofs.next_line.Goals as goal

pub returns-then-text-at : goal.returns-then-text-at
returns-then-text-at c = search (next_past, rules)

pub overflow_add-result : goal.overflow_add-result
overflow_add-result c = omega (arith, line-high c.args.text.now c.args.at c.line_end.ensures (omega arith))

pub returns : goal.returns
returns c = search (next-found, rules)

-- `page::lay_blank` meets its contract: the bytes before this one are those of the page without modules. Assumes nothing.
use Rattle.std.proofs.Common.{◌≡◌, ◌<◌, ℕ, length, get_or}
use Rattle.page.specs.Steps.{blank_byte}
use Rattle.page.proofs.lay_blank.Given as goal

abbrev pub invariant-loop-k : goal.invariant-loop-k
invariant-loop-k l =
    (length l.byte-items ≡ length l.initial.byte-items) × ((j : ℕ) → j < l.k → get_or l.byte-items j 0 ≡ blank_byte l.numbers l.side j)

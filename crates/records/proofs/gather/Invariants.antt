-- `records::gather` meets its contract: what the first i records stand for is copied. Assumes nothing.
use Rattle.std.proofs.Common.{◌≡◌, ◌*◌, take}
use Rattle.records.specs.Records.{flattened}
use Rattle.records.proofs.gather.Given as goal

abbrev pub invariant-loop-i : goal.invariant-loop-i
invariant-loop-i l = take (8 * l.i) l.flat ≡ flattened (take l.i l.r-items)

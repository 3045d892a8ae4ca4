-- `vectors::rerun::compare_all` ends: each line leaves less of the list. Assumes nothing.
use Rattle.std.proofs.Common.{◌-◌, length}
use Rattle.vectors.proofs.rerun.compare_all.Given as goal

abbrev pub decreases-loop-at : goal.decreases-loop-at
decreases-loop-at g l = length l.text - l.at

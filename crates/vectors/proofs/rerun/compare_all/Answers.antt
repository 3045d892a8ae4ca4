-- `vectors::rerun::compare_all` ends: each line leaves less of the list. Assumes nothing.
use Rattle.vectors.proofs.Lines.{line-less}
use Rattle.vectors.proofs.rerun.compare_all.Goals as goal

pub loop-at-smaller : goal.loop-at-smaller
loop-at-smaller g c = search (line-less)

-- `Meter::write_modules` meets its contract: the colours, then the scores by them, are both at once; the count is that of the colours. Assumes nothing.
use Rattle.std.proofs.Common.{rules}
use Rattle.observed.proofs.Corrected.{modules_written, modules_counted}
use Rattle.scores.proofs.Apart.{in_two}
use Rattle.scores.proofs.samples.Meter.write_modules.Goals as goal

pub returns : goal.returns
returns c =
    let seen = c.correct-held.ensures in (
      in_two _ _ _ _ _ _ _ (search rules) (search rules) _ _ (modules_written _ _ _ _ _ _ _ seen.0) c.write_lumas.ensures,
      modules_counted _ _ _ _ _ _ seen.1,
    )

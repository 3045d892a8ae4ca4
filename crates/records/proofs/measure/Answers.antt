-- `records::measure` meets its contract: what was copied is measured, and that is the measurement of all. Assumes nothing.
use Rattle.std.proofs.Common.{◌∙◌}
use Rattle.records.proofs.Limit.{all_lent, measure_laid}
use Rattle.records.proofs.measure.Goals as goal

pub measure_counted-requires : goal.measure_counted-requires
measure_counted-requires c = all_lent _ _ c.flatten-floats.ensures

pub returns : goal.returns
returns c = c.measure_counted.ensures ∙ measure_laid c.args.refs.now _ c.flatten-floats.ensures _ _ _ _ _

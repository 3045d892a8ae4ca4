-- `records::fit` meets its contract: what was copied is fitted, and that is the fit of all. Assumes nothing.
use Rattle.std.proofs.Common.{◌∙◌}
use Rattle.records.proofs.Limit.{all_lent, fit-laid}
use Rattle.records.proofs.fit.Goals as goal

pub fit_counted-requires : goal.fit_counted-requires
fit_counted-requires c = all_lent _ _ c.flatten-floats.ensures

pub returns : goal.returns
returns c = c.fit_counted.ensures ∙ fit-laid c.args.refs.now _ c.flatten-floats.ensures _ _ _ _

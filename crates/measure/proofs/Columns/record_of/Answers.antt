-- `Columns::record_of` meets its contract: by whether each level has a median. Assumes nothing.
use Rattle.measure.proofs.Sigmas.{dark-few, light-few, both-levels, spreads_of}
use borrow.Author.Rules.{rules}
use Rattle.measure.proofs.Columns.record_of.Goals as goal

pub returns-in_default : goal.returns-in_default
returns-in_default c = dark-few _ _ _ c.in_default.ensures _ c.nominal_of.ensures

pub returns-in_default-level_of : goal.returns-in_default-level_of
returns-in_default-level_of c = light-few _ _ _ _ c.in-Some.ensures c.in_default-level_of.ensures _ c.nominal_of-in_default-level_of.ensures

pub figures_of-requires : goal.figures_of-requires
figures_of-requires c = (search rules, spreads_of c.args.palette.numbers.now _ _ _ c.in-Some.ensures _ c.in-Some-level_of.ensures c.requires.1)

pub returns : goal.returns
returns c = both-levels _ _ _ _ c.in-Some.ensures _ c.in-Some-level_of.ensures _ c.figures_of.ensures

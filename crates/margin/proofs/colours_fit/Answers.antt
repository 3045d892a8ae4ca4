-- `colours_fit` meets its contract: `all` of the colours is the definition's test of each. Assumes nothing.
use mathlib.Core.Path.{refl}
use borrow.Author.Rules.{rules}
use borrow.Author.Tests.{tests}
use Rattle.std.proofs.lemmas.Iterator.{YieldsList-from_range}
use Rattle.std.proofs.lemmas.Iterator.Search.{all_from_yields_List}
use Rattle.margin.specs.Margin.{colour_fits}
use Rattle.margin.proofs.Every.{every_listed}
use Rattle.margin.proofs.colours_fit.Goals as goal

pub returns : goal.returns
returns c =
    let at = c in
    let test = colour_fits at.args.palette.now.numbers.now at.args.palette.now.hues in
    every_listed test _ _ (all_from_yields_List test _ _ _ at.all.ensures.ran (YieldsList-from_range 0 _ _ refl refl) (λ x b q k. search (rules, tests)))

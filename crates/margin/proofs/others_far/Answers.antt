-- `others_far` meets its contract: `all` of the hues is the definition's test of each. Assumes nothing.
use mathlib.Core.Path.{refl}
use borrow.Author.Rules.{rules}
use borrow.Author.Tests.{tests}
use Rattle.std.proofs.lemmas.Iterator.{YieldsList-from_range}
use Rattle.std.proofs.lemmas.Iterator.Search.{all_from_yields_List}
use Rattle.margin.specs.Margin.{other_far}
use Rattle.margin.proofs.Every.{every_listed}
use Rattle.margin.proofs.others_far.Goals as goal

pub returns : goal.returns
returns c =
    let at = c in
    let test = other_far at.args.palette.now.numbers.now at.args.c at.args.s at.args.own in
    every_listed test _ _ (all_from_yields_List test _ _ _ at.all.ensures.ran (YieldsList-from_range 0 _ _ refl refl) (λ x b q k. search (rules, tests)))

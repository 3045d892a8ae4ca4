-- `measure::wild_corrected` meets its contract: `any` of the references is the definition's search. Assumes nothing.
use mathlib.Core.Path.{refl}
use borrow.Author.Rules.{rules}
use borrow.Author.Tests.{tests}
use Rattle.std.proofs.lemmas.Iterator.{YieldsList-from_range}
use Rattle.std.proofs.lemmas.Iterator.Search.{any_from_yields_List}
use Rattle.references.proofs.Sought.{sought}
use Rattle.measure.specs.Measure.{wild_corrected_at}
use Rattle.measure.proofs.wild_corrected.Goals as goal

pub returns : goal.returns
returns c =
    let test = wild_corrected_at c.args.model c.args.references.now.flat.now in
    sought test _ _ _ (any_from_yields_List test _ _ _ c.any.ensures.ran (YieldsList-from_range 0 _ _ refl refl) (λ x b q k. search (rules, tests)))

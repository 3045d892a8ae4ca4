-- `near::Ring::bad_positions` meets its contract: `any` of the references is the definition's search. Assumes nothing.
use mathlib.Core.Path.{refl}
use borrow.Author.Rules.{rules}
use borrow.Author.Tests.{tests}
use Rattle.std.proofs.lemmas.Iterator.{YieldsList-from_range}
use Rattle.std.proofs.lemmas.Iterator.Search.{any_from_yields_List}
use Rattle.near.specs.Near.{misplaced_at}
use Rattle.near.proofs.Found.{found_listed}
use Rattle.near.proofs.Ring.bad_positions.Goals as goal

pub returns : goal.returns
returns c =
    let test = misplaced_at c.args.self.side c.args.xy.now in
    found_listed test _ _ (any_from_yields_List test _ _ _ c.any.ensures.ran (YieldsList-from_range 0 _ _ refl refl) (λ x b q k. search (rules, tests)))

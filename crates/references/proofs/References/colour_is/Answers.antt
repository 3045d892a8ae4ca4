-- `References::colour_is` meets its contract: `any` of the places is the definition's search. Assumes nothing.
use mathlib.Core.Path.{refl}
use borrow.Author.Rules.{rules}
use borrow.Author.Tests.{tests}
use mathlib.Core.Bool.{Bool}
use Prim.Native.Nat.{ℕ}
use lib.Ieee.{nan}
use lib.ListN.{get_or}
use Rattle.std.proofs.lemmas.Iterator.{YieldsList-from_range}
use Rattle.std.proofs.lemmas.Iterator.Search.{any_from_yields_List}
use Rattle.references.proofs.Sought.{sought}
use Rattle.references.proofs.References.colour_is.Goals as goal

pub returns : goal.returns
returns g c = λ f p.
    let test : ℕ → Bool = λ k. f (get_or c.args.self.now.flat.now k nan) in
    sought test _ _ _ (any_from_yields_List test _ _ _ c.any.ensures.ran (YieldsList-from_range _ _ _ refl refl) (λ x b q k. (search (rules, tests), p _ b (search (rules, tests)))))

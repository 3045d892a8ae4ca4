-- `illum::any_of` meets its contract: `any` of the first n numbers is the definition's search. Assumes nothing.
use Rattle.std.proofs.Common.{true, false, rules, take, arith}
use Rattle.std.proofs.lemmas.Iterator.{cases_from_any, YieldsList-from_slice}
use Rattle.illum.proofs.Found.{found}
use Rattle.illum.proofs.any_of.Given as given
use Rattle.illum.proofs.any_of.Goals as goal

pub returns : goal.returns
returns g c = λ p h.
    found (given.F-post g c.args.test) p h _ _ (omega (arith, c.requires.few, c.told-numbers)) _
    (cases_from_any {all = take c.args.n c.args.numbers.now} _ _ _ (λ y. given.F-post g c.args.test y true) (λ y. given.F-post g c.args.test y false) c.any.ensures.ran
    (YieldsList-from_slice _ (search rules)) (λ x q k. search rules) (λ x q k. search rules))

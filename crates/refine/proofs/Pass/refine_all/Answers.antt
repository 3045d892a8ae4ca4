-- `refine::Pass::refine_all` meets its contract: each score that was looked at is refined, and the others are as they were. Assumes nothing.
use borrow.Author.Rules.{rules}
use Rattle.refine.proofs.Steps.{none_stepped, one_stepped, all_stepped}
use Rattle.refine.proofs.Pass.refine_all.Goals as goal

pub loop-i-init : goal.loop-i-init
loop-i-init c = none_stepped _ _

pub loop-i-preserved : goal.loop-i-preserved
loop-i-preserved c = one_stepped _ _ _ _ _ c.loop-i.invariant (search rules) c.refined.ensures

pub returns : goal.returns
returns c = all_stepped _ _ _ _ _ _ _ _ _ _ _ _ _ c.len.ensures c.requires c.loop-i.auto.score-items c.loop-i-test.false c.loop-i.invariant

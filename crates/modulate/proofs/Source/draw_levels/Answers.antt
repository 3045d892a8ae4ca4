-- `modulate::Source::draw_levels` meets its contract: each level stands at its place. Assumes nothing.
use borrow.Author.Rules.{rules}
use Rattle.layout.proofs.Laws.{position_at}
use Rattle.modulate.specs.Draw.{level_at_of}
use Rattle.lists.proofs.Front.{front-below, front_written}
use Rattle.modulate.proofs.Source.draw_levels.Goals as goal

pub level_at-requires : goal.level_at-requires
level_at-requires c = (search (position_at, front-below, rules), search (front-below, rules))

pub returns : goal.returns
returns c = front_written 0 _ (level_at_of _ _ _ _ _) _ _ c.requires.2 c.loop-i.auto.level-items _ c.loop-i-test.false c.loop-i.invariant

-- `Answers::put_all` meets its contract: what is left of the loop puts the rest. Assumes nothing.
use Rattle.std.proofs.Common.{refl, ap, length, rules}
use Rattle.std.proofs.lemmas.List.{get_or_read_under}
use Rattle.loops.proofs.Laws.{done}
use Rattle.vectors.proofs.Slices.{put-more}
use Rattle.vectors.proofs.call.Answers.put_all.Goals as goal

pub loop-v-preserved : goal.loop-v-preserved
loop-v-preserved g c = λ d.
    let h = c.loop-v-test.true in
    let read = get_or_read_under c.args.values.now c.loop-v.v-index (length c.args.values.now) c.v-item.result d c.v-item.is h refl in
    put-more g.T.Value.word_of d c.args.values.now (c.loop-v.invariant d) c.put.ensures (ap g.T.Value.word_of read) h

pub returns : goal.returns
returns g c = λ d. done (c.loop-v.invariant d) (search rules)

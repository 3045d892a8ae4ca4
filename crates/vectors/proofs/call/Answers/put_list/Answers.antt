-- `Answers::put_list` meets its contract: the length, and then the elements. Assumes nothing.
use Rattle.std.proofs.Common.{◌∙◌, ap}
use Rattle.vectors.specs.Slices.{put_all}
use Rattle.vectors.proofs.call.Answers.put_list.Goals as goal

pub returns : goal.returns
returns g c = λ d. c.put_all.ensures d ∙ ap (put_all g.T.Value.word_of d c.args.values.now) c.put.ensures

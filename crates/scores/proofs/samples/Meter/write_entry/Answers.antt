-- `Meter::write_entry` meets its contract: likelihoods and bit scores of one sample, put at its entry. Assumes nothing.
use Rattle.std.proofs.Common.{rules}
use Rattle.scores.proofs.Chroma.{entry}
use Rattle.scores.proofs.samples.Meter.write_entry.Goals as goal

pub returns : goal.returns
returns c = search (entry, rules)

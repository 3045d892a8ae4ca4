-- `records::flatten` meets its contract: what is copied fits in the array. Assumes nothing.
use Rattle.std.proofs.Common.{take, ap, ◌∙◌, arith}
use Rattle.records.specs.Records.{flattened}
use Rattle.records.proofs.Limit.{room}
use Rattle.records.proofs.flatten.Goals as goal

pub gather-requires : goal.gather-requires
gather-requires c = let r = room _ _ c.copied-m.ensures in (r.0, omega (arith, r.1, c.told-flat))

pub overflow_mul-result : goal.overflow_mul-result
overflow_mul-result c = let r = room _ _ c.copied-m.ensures in search (arith, r)

pub shared_ref_as_front-result : goal.shared_ref_as_front-result
shared_ref_as_front-result c = (room _ _ c.copied-m.ensures).1

pub returns : goal.returns
returns c = c.gather.ensures ∙ ap (λ m. flattened (take m c.args.refs.now)) c.copied-m.ensures

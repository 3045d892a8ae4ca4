-- `float::Parts::norm` meets its contract, by `norm_field` of `proofs/Lead.antt`. Assumes nothing.
use Rattle.std.proofs.Common.{arith}
use Rattle.float.proofs.Lead.{lead_le, norm_field}
use Rattle.float.proofs.Parts.norm.Goals as goal

pub overflow_sub-z : goal.overflow_sub-z
overflow_sub-z c = (lead_le c.args.m c.requires.0 c.requires.1.0).0

pub overflow_shl-result : goal.overflow_shl-result
overflow_shl-result c = omega (arith, lead_le c.args.m c.requires.0 c.requires.1.0)

pub overflow_sub-result : goal.overflow_sub-result
overflow_sub-result c = omega (arith, lead_le c.args.m c.requires.0 c.requires.1.0)

pub returns : goal.returns
returns c = norm_field c.args.m c.args.k c.requires.0 c.requires.1.0 c.requires.1.1

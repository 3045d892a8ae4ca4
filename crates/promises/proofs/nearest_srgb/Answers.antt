-- `promises::nearest_srgb` meets its contract: the theorem of `color`, and that of this crate's `OnlyNearest`. Assumes nothing.
use Rattle.color.specs.Srgb.{curve, srgb_to_linear}
use Rattle.color.proofs.Linears.{srgb_nearest}
use Rattle.promises.proofs.OnlyNearest.{only}
use Rattle.promises.proofs.nearest_srgb.Goals as goal

pub returns : goal.returns
returns c = record { nearest = srgb_nearest; only = λ v h r n. only (curve v) r (srgb_to_linear v) n (srgb_nearest v h) }

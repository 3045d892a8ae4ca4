-- `classes` meets its contract: two levels of at most 16 hue classes, and one more. Assumes nothing.
use native.Mathlib.Omega.{arith}
use Rattle.counts.proofs.Bounds.{few-classes}
use Rattle.counts.proofs.classes.Goals as goal

pub overflow_mul-result : goal.overflow_mul-result
overflow_mul-result c = omega (arith, few-classes c.args.hues c.requires)

pub overflow_add-result : goal.overflow_add-result
overflow_add-result c = omega (arith, few-classes c.args.hues c.requires)

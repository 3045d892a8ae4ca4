-- The laws of `Mono` for a program's own test `le`, at finite values: what a contract that speaks of `le` cites. Assumes nothing.
use Rattle.std.specs.Prelude.{T, Float}
use Rattle.std.specs.Float.{Format}
use Rattle.std.specs.Float.Ieee.{neg, le}
use Rattle.floatlaws.specs.Order.{of_le, to_le, neg_anti}
use Rattle.floatlaws.specs.Finite.{Fin, num, neg-fin}

module _ {f : Format} {x y : Float} (p : Fin f x) (q : Fin f y) where
  pub neg_le : T (le x y) → T (le (neg y) (neg x))
  neg_le t = to_le (num (neg-fin q)) (num (neg-fin p)) (neg_anti (of_le (num p) (num q) t))

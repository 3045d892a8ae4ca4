-- `float::whole::is_icbrt` meets its contract: the cube is `high` times 2 ^ 24 and `low`, and that of g + 1 is 3 g (g + 1) + 1 more. Assumes
-- nothing.
use Rattle.std.proofs.Common.{leb-true}
use Rattle.float.proofs.Cubes.{cube-rest}
use Rattle.float.proofs.whole.is_icbrt.Goals as goal

pub returns-then-low-left : goal.returns-then-low-left
returns-then-low-left c = λ e. cube-rest _ _ c.if-units-high.false c.if-low-left.true (leb-true _ _ e)

-- `float::whole::icbrt_slow` meets its contract. The invariant is `Digits` of `proofs/Cubes.antt`: q is the whole part of the cube root of a * 8 ^
-- i, and r is what is left. Assumes nothing.
use Rattle.float.proofs.Cubes.{Digits}
use Rattle.float.proofs.whole.icbrt_slow.Given as goal

abbrev pub invariant-loop : goal.invariant-loop
invariant-loop l = Digits l.a l.q l.r l.counter

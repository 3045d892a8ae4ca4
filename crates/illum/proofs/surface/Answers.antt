-- `illum::surface` meets its contract: a turn adds the term at k. Assumes nothing.
use Rattle.std.proofs.Common.{◌≡◌, ◌<◌, ◌≤◌, ℕ, List, length, get_or, take, arith}
use lib.Ieee.{Float, nan, binary64, add, mul}
use lib.Seq.{get_or-take, length-take-le}
use Rattle.loops.proofs.Laws.{turn_to, done}
use Rattle.illum.specs.Surface.{add_term}
use Rattle.illum.proofs.surface.Goals as goal

-- a coefficient of the first n is that coefficient of all
added : (n k : ℕ) (c b : List Float) (s : Float) → k < n → add binary64 s (mul binary64 (get_or (take n c) k nan) (get_or b k nan)) ≡ add_term c b k s
unfolding add_term
added n k c b s h = rw (get_or-take n c k nan h)

-- the first n are n
below : (n : ℕ) (c : List Float) → length c ≡ 9 → n ≤ 9 → length (take n c) ≡ n
below n c l h = length-take-le n c (omega (arith, l))

pub loop-k-preserved : goal.loop-k-preserved
loop-k-preserved g c =
    let e = below g.row.N c.args.c.now c.told-c c.requires in
    let h : c.loop-k.k < g.row.N = omega (arith, e, c.loop-k-test.true) in
    turn_to c.loop-k.invariant h (added g.row.N c.loop-k.k c.args.c.now c.args.b.now c.loop-k.sum h)

pub returns : goal.returns
returns g c =
    let e = below g.row.N c.args.c.now c.told-c c.requires in
    done c.loop-k.invariant (omega (arith, e, c.loop-k-test.false))

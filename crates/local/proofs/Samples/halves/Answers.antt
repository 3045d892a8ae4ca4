-- `local::Samples::halves` meets its contract: what is left of the samples from i on takes the halves to the answer; after i samples neither half has more than i. Assumes nothing.
use mathlib.Core.Bool.{Bool, true, false, cond}
use mathlib.Core.List.{List}
use mathlib.Core.Path.{◌≡◌, ap}
use Prim.Native.Nat.{ℕ, ◌+◌, ◌≤◌, ◌<◌}
use native.Mathlib.Omega.{arith}
use borrow.Author.Rules.{rules}
use lib.Ieee.{Float, nan, binary32, of_bits, lt, add}
use lib.ListN.{get_or, take}
use Rattle.std.proofs.lemmas.List.{get_or-take}
use Rattle.loops.proofs.Laws.{loops, turn_to}
use Rattle.local.specs.Local.{mean_of, halves, halved, halve_at}
use Rattle.local.specs.Sums.{part, Firsts, part_at}
use Rattle.local.specs.declared.Halves.{Halves}
use Rattle.local.specs.declared.Window.{Window}
use Rattle.local.proofs.Samples.halves.Goals as goal

counted : (w : Window) (m : Float) (i : ℕ) (s r : Halves) → i < w.count → r ≡ halved m (get_or (take w.count w.y) i nan) s → m ≡ mean_of w → r ≡ halve_at w (mean_of w) i s
unfolding halve_at
counted w m i s r l e h = rw (← h) (rw (get_or-take w.count w.y i nan l) at e)

module _ (m y : Float) (i : ℕ) (s r : Halves) (e : r ≡ halved m y s) where
  lows : s.nl ≤ i → r.nl ≤ i + 1
  unfolding halved
  lows l = by (lt y m) (ap (λ (h : Halves). h.nl) e)
    where
      by : (b : Bool) → r.nl ≡ (cond b (halves (add binary32 s.lo y) s.hi (s.nl + 1) s.nh) (halves s.lo (add binary32 s.hi y) s.nl (s.nh + 1))).nl → r.nl ≤ i + 1
      by true h = omega arith
      by false h = omega arith

  highs : s.nh ≤ i → r.nh ≤ i + 1
  unfolding halved
  highs l = by (lt y m) (ap (λ (h : Halves). h.nh) e)
    where
      by : (b : Bool) → r.nh ≡ (cond b (halves (add binary32 s.lo y) s.hi (s.nl + 1) s.nh) (halves s.lo (add binary32 s.hi y) s.nl (s.nh + 1))).nh → r.nh ≤ i + 1
      by true h = omega arith
      by false h = omega arith

partly : (b : Bool) (w : Window) (m : Float) (v : List Float) (i : ℕ) → Firsts (part_at b m w) w.count v → i < w.count → get_or v i nan ≡ part b m (get_or (take w.count w.y) i nan)
unfolding part_at
partly b w m v i p h = rw (get_or-take w.count w.y i nan h) (p.at i h)

pub loop-i-init : goal.loop-i-init
unfolding of_bits
loop-i-init c = search (loops, rules)

pub loop-i-preserved : goal.loop-i-preserved
loop-i-preserved c =
    let at = c in
    let l : at.loop-i.i < at.args.self.now.window.now.count = search rules in
    (search (lows, rules), search (highs, rules), turn_to at.loop-i.invariant.2 l (search (counted, rules)))

pub halve-s-requires : goal.halve-s-requires
halve-s-requires c = (search rules, search rules, search (partly, rules), search (partly, rules))

pub returns : goal.returns
returns c = (search (loops, rules), search rules, search rules)

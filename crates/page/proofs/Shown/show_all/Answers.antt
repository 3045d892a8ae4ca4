-- `page::Shown::show_all` meets its contract: what is left of the modules takes the page to the answer. Assumes nothing.
use borrow.Author.Rules.{rules}
use mathlib.Core.Path.{◌≡◌, refl, ap, ◌∙◌}
use mathlib.Core.List.{List}
use Prim.Native.Nat.{ℕ, ◌+◌, ◌≤◌, ◌<◌}
use lib.IntN.{pos}
use native.Mathlib.Omega.{arith}
use lib.ListN.{length, get_or, take}
use lib.Seq.{length-take-le}
use lib.Ieee.{Float, nan}
use Rattle.std.proofs.lemmas.List.{get_or-take}
use Rattle.loops.proofs.Laws.{Left, begin, turn_to, done}
use Rattle.page.specs.Lines.{Modules, modules}
use Rattle.page.specs.Steps.{show_score, show_at}
use Rattle.page.proofs.Shown.show_all.Goals as goal

-- a turn: the score is module i's
module _ (m : Modules) (n i : ℕ) (s t u : List ℕ) (e : n ≡ length m.xs) (long : length m.xs ≤ length m.luma) where
  within : i < length (take n m.luma) → i < n
  within h = omega (arith, length-take-le n m.luma (omega arith))

  turned : Left (show_at m) (length m.xs) i s u → i < length (take n m.luma) → t ≡ show_score m.side (get_or m.xs i (pos 0)) (get_or m.ys i (pos 0)) (get_or (take n m.luma) i nan) s →
      Left (show_at m) (length m.xs) (i + 1) t u
  turned inv h f =
      turn_to inv (omega (arith, within h))
      (f ∙ ap (λ (v : Float). show_score m.side (get_or m.xs i (pos 0)) (get_or m.ys i (pos 0)) v s) (get_or-take n m.luma i nan (within h)))

  ended : Left (show_at m) (length m.xs) i s u → length (take n m.luma) ≤ i → s ≡ u
  ended inv h = done inv (omega (arith, length-take-le n m.luma (omega arith)))

pub loop-i-init : goal.loop-i-init
loop-i-init c = (refl, begin)

pub loop-i-preserved : goal.loop-i-preserved
loop-i-preserved c =
    let d = c.args.self.now in
    let long : length d.modules.xs.now ≤ length d.luma.now = search rules in
    (search rules, turned (modules d.modules.side d.modules.xs.now d.modules.ys.now d.luma.now) _ _ _ _ _ c.len.ensures long c.loop-i.invariant.1 c.loop-i-test.true c.show.ensures)

pub returns : goal.returns
returns c =
    let d = c.args.self.now in
    let long : length d.modules.xs.now ≤ length d.luma.now = search rules in
    ended (modules d.modules.side d.modules.xs.now d.modules.ys.now d.luma.now) _ _ _ c.args.out.now _ c.len.ensures long c.loop-i.invariant.1 c.loop-i-test.false

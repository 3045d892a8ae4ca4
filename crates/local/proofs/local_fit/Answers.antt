-- `local::local_fit` meets its contract: the same steps. Assumes nothing.
use mathlib.Core.Bool.{Bool}
use mathlib.Core.List.{List}
use mathlib.Core.Logic.{◌⊎◌, inl, inr}
use mathlib.Core.Path.{◌≡◌}
use borrow.Author.Tests.{eq-eqb, ne_eqb}
use lib.Ieee.{Float}
use Rattle.std.specs.Prelude.{Option, Some, None}
use Rattle.local.specs.Local.{halves_of, split_of, above_of, refits_of, single_of, spread_of, amount_of, fit_values, concluded, fit_of, local_fit}
use Rattle.local.specs.declared.Classes.{Classes}
use Rattle.local.specs.declared.Halves.{Halves}
use Rattle.local.specs.declared.LocalFit.{LocalFit}
use Rattle.local.specs.declared.Plane.{Plane}
use Rattle.local.specs.declared.Single.{Single}
use Rattle.local.specs.declared.Window.{Window}
use Rattle.local.proofs.local_fit.Goals as goal

module _ (w : Window) (y0 gap : Float) (s : Halves) (e : s ≡ halves_of w) where
  half : (s.nl ≡ 0) ⊎ ((s.nl ≡ 0 → ⊥) × (s.nh ≡ 0)) → None ≡ local_fit w y0 gap
  unfolding local_fit
  half (inl l) = rw (← e, eq-eqb s.nl 0 l)
  half (inr h) = rw (← e, ne_eqb s.nl 0 h.0, eq-eqb s.nh 0 h.1)

  module _ (m : s.nl ≡ 0 → ⊥) (n : s.nh ≡ 0 → ⊥) (v : Float) (l : List Bool) (c : Classes) (ev : v ≡ split_of s) (el : l ≡ above_of w v) (ec : c ≡ refits_of w l) where
    rest : (r : Option LocalFit) → r ≡ concluded w c.light y0 gap c.plane → r ≡ local_fit w y0 gap
    unfolding local_fit
    rest r h = rw (← e, ne_eqb s.nl 0 m, ne_eqb s.nh 0 n, ← ev, ← el, ← ec) h

    no-plane : c.plane ≡ None → None ≡ local_fit w y0 gap
    unfolding concluded
    no-plane h = rest None (rw h)

    found : (p : Plane) (f : Single) (g a : Float) → c.plane ≡ Some p → f ≡ single_of p → g ≡ spread_of w f c.light gap → a ≡ amount_of f g y0 gap → Some (fit_values a f.base f.step) ≡ local_fit w y0 gap
    unfolding concluded fit_of
    found p f g a h ef eg ea = rest (Some (fit_values a f.base f.step)) (rw (h, ← ef, ← eg, ← ea))

pub returns-then-s-eq0 : goal.returns-then-s-eq0
returns-then-s-eq0 c = search (half)

pub returns-in_err-c : goal.returns-in_err-c
returns-in_err-c c = rw c.from_residual.ensures (search (no-plane, c.in_err-c.was))

pub returns : goal.returns
returns c = search (found, c.in_ok-c.was)

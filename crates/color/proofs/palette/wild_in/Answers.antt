-- `color::palette::wild_in` meets its contract: `any` of the first n numbers is the definition's search. Assumes nothing.
use mathlib.Core.Path.{◌≡◌, sym, ◌∙◌, ap}
use mathlib.Core.Bool.{Bool, true}
use mathlib.Core.List.{List}
use Prim.Native.Nat.{ℕ, ◌≤◌, ◌<◌}
use native.Mathlib.Omega.{arith}
use lib.ListN.{length, get_or, take}
use lib.Seq.{length-take-le, get_or-take}
use lib.Ieee.{Float, nan}
use borrow.Author.Rules.{rules}
use Rattle.std.specs.Prelude.{IsTrue, ◌↔◌}
use Rattle.loops.proofs.Laws.{any_from}
use Rattle.color.specs.Palette.{wild, wild_at, wild_in}
use Rattle.color.proofs.palette.wild_in.Goals as goal

-- a number of the first n is that number of all
in_front : (values : List Float) (n : ℕ) (b : Bool) → n ≤ length values →
    IsTrue b ↔ ((i : ℕ) × (i < length (take n values)) × (wild (get_or (take n values) i nan) ≡ true)) → b ≡ wild_in values n
in_front values n b l h =
    any_from (wild_at values) n b (
      λ t. let q = h.0 t in let e = length-take-le n values l in let k : q.0 < n = omega arith in (q.0, k, ap wild (sym (get_or-take n values q.0 nan k)) ∙ q.2),
      λ q. h.1 (q.0, (let e = length-take-le n values l in omega arith), ap wild (get_or-take n values q.0 nan q.1) ∙ q.2),
    )

pub returns : goal.returns
returns c = in_front _ _ _ c.requires (search rules)

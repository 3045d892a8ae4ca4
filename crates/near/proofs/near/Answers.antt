-- `near::near` meets its contract: refused, or what is found.
-- Assumes nothing.
use mathlib.Core.Path.{◌≡◌, sym, subst}
use mathlib.Core.List.{[], ◌∷◌}
use lib.Dec.{T}
use lib.Ieee.{Float, binary32, fits}
use denote.Laws.{Is}
use denote.Enum.Declared.{row}
use denote.Enum.Laws.{val, owed}
use Rattle.near.specs.declared.Query.{Query}
use Rattle.near.specs.declared.Query.TheVariants as query
use Rattle.near.specs.contracts.Query as Q
use Rattle.near.proofs.Query.TheLaws as Q'
use Rattle.near.proofs.Accepted.{refused-answer, not_given, ready, found-answer}
use Rattle.near.proofs.near.Goals as goal

-- a radius that is handed over is a value of f32
abbrev Good : Query → Type 0
Good q = Is (row Q.the_type) q (val Q.the_type Q'.the_laws q ∷ [])

radius-fits : (q : Query) → Good q → (r : Float) → q ≡ query.Within r → T (fits binary32 r)
radius-fits q g r e = subst T (sym (owed Q.the_type Q'.the_laws (query.Within r) _ (subst Good e g)).0.1) tt

pub returns-in_err-check : goal.returns-in_err-check
returns-in_err-check c =
    record {
      out_after = refused-answer _ _ _ _ _ _ _ c.ranges.x c.ranges.y _ _ c.from_residual.ensures c.in_err-check.ensures;
      found = λ e. absurd (not_given _ _ c.from_residual.ensures e);
    }

pub invariant_of-search : goal.invariant_of-search
invariant_of-search c =
    let r = ready _ _ _ _ _ _ _ c.ranges.x c.ranges.y c.in_ok-check.ensures _ _ c.centre.ensures c.centre-2.ensures (λ i. c.type_inv.xy i) in
    record { placed = r.0; marked = r.1; few = r.3; strict = r.4 }

pub find-count-requires : goal.find-count-requires
find-count-requires c =
    (ready _ _ _ _ _ _ _ c.ranges.x c.ranges.y c.in_ok-check.ensures _ _ c.centre.ensures c.centre-2.ensures (λ i. c.type_inv.xy i)).2

pub returns : goal.returns
returns c =
    let r = found-answer _ _ _ _ _ _ _ c.ranges.x c.ranges.y c.in_ok-check.ensures _ _ c.centre.ensures c.centre-2.ensures
    _ _ (λ i. c.type_inv.xy i) (radius-fits c.args.query c.well_formed.1.1.1.1.1.0)
    (c.find-count.ensures.promised, c.find-count.ensures.upper_bound) in
    record { out_after = r.0; found = r.1 }

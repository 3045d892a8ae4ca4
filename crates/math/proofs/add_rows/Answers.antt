-- `math::add_rows` meets its contract: after n rows the two iterators are at row n and at its target, and what is left of the rows gives the same equations. Assumes nothing.
use mathlib.Core.List.{List, [], ◌∷◌, ◌++◌}
use mathlib.Core.Logic.{◌⊎◌, inl, inr}
use mathlib.Core.Path.{◌≡◌, sym, ap, ◌∙◌}
use Rattle.std.proofs.Common.{lt_of_not-le, le_of_suc-le-suc}
use Prim.Native.Nat.{ℕ, suc, ◌+◌, ◌*◌, ◌<◌, ◌≤◌}
use native.Mathlib.Nat.{add-zero, zero-mul, mul-le-mul_right, suc-mul}
use native.Mathlib.Numerals.{add-one}
use native.Mathlib.Omega.{arith}
use lib.Ieee.{Float, nan}
use lib.ListN.{length, get_or, drop, length-append, length-drop}
use lib.Seq.{drop-drop, get_or-drop, take-append_seam, drop-append_seam}
use Rattle.loops.proofs.Laws.{Left, begin, turn_to, done}
use Rattle.math.specs.Gauss.{System}
use Rattle.math.specs.Normal.{add_row, row_of, add_row_at}
use Rattle.math.proofs.add_rows.Goals as goal
use Rattle.math.proofs.add_rows.Invariants.{AtRow}

module _ (terms : ℕ) (rows targets : List Float) (n size : ℕ) (chunks left : List Float) (p : AtRow terms rows targets n size chunks left) where
  module _ (row chunks' : List Float) (target : Float) (left' : List Float) (e : chunks ≡ row ++ chunks') (l : length row ≡ size) (f : left ≡ target ∷ left') where
    is_row : row ≡ row_of terms rows n
    is_row = sym (take-append_seam row chunks') ∙ rw (l, p.by, ← e, p.from)

    is_target : target ≡ get_or targets n nan
    is_target = sym (ap (λ (v : List Float). get_or v 0 nan) (sym p.target-from ∙ f)) ∙ get_or-drop n targets 0 nan ∙ ap (λ (k : ℕ). get_or targets k nan) (add-zero n)

    some : n < length targets
    some = omega (arith, ap length f, ap length p.target-from, length-drop n targets)

    next : (size' : ℕ) → size' ≡ size → AtRow terms rows targets (n + 1) size' chunks' left'
    next size' s =
        record {
          by = s ∙ p.by;
          from = sym (drop-append_seam row chunks') ∙ rw (l, p.by, ← e, p.from) (drop-drop terms (n * terms) rows ∙ ap (λ (k : ℕ). drop k rows) (sym (suc-mul n terms) ∙ ap (λ (k : ℕ). k * terms) (sym (add-one n))));
          target-from = sym (ap (drop 1) (sym p.target-from ∙ f)) ∙ drop-drop 1 n targets;
        }

    added : (s s' t : System) → Left (add_row_at terms rows targets) (length targets) n s t → s' ≡ add_row terms row target s → Left (add_row_at terms rows targets) (length targets) (n + 1) s' t
    unfolding add_row_at
    added s s' t h q = turn_to h some (rw (← is_row, ← is_target) q)

  none : length targets * terms ≤ length rows → (length chunks < size) ⊎ (length left ≡ 0) → length targets ≤ n
  none h (inl q) = le_of_suc-le-suc (lt_of_not-le (λ (m : suc n ≤ length targets). omega (arith, mul-le-mul_right terms m, suc-mul n terms, p.by, ap length p.from, length-drop (n * terms) rows)))
  none h (inr q) = omega (arith, ap length p.target-from, length-drop n targets)

-- one item more was taken
longer : {A : Type 0} (ys : List A) (y : A) → length (ys ++ y ∷ []) ≡ length ys + 1
longer ys y = length-append ys (y ∷ [])

pub loop-row-init : goal.loop-row-init
loop-row-init c =
    let e = c.into_iter-row-iterator.ensures.into_iter_gives in
    let z = c.zip-row-items.ensures in
    let x = c.chunks_exact.ensures in
    (rw (e, z.first) (record { by = x.size; from = x.rest ∙ ap (λ (k : ℕ). drop k c.args.rows.now) (sym (zero-mul c.args.terms)); target-from = z.second.0 }), begin)

pub loop-row-preserved : goal.loop-row-preserved
loop-row-preserved c =
    let s = c.in-Some.ensures.steps in
    let p = c.loop-row.invariant in
    rw longer
    (next _ _ _ _ _ _ _ p.0 _ _ _ _ s.0.1.0 s.0.1.1 s.1 _ s.0.0, added _ _ _ _ _ _ _ p.0 _ _ _ _ s.0.1.0 s.0.1.1 s.1 _ _ _ p.1 c.add_row_core.ensures)

pub returns : goal.returns
returns c =
    done c.loop-row.invariant.1
    (none _ _ _ _ _ _ _ c.loop-row.invariant.0 c.requires.long.1 (elim c.in-None.ensures.steps [ inl p ↦ inl p.1.1.0 | inr p ↦ inr p.1.0 ]))
